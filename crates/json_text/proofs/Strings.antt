-- Strings of the grammar are read.
use Rattle.std.proofs.Common.{◌≡◌, ◌≢◌, ◌⊎◌, ℕ, zero, suc, ◌+◌, ◌-◌, ◌*◌, ◌<◌, ◌≤◌, Bool as Truth, true, false, cond, ◌&&◌, ◌||◌, eqb, ltb, List, [], ◌∷◌, ◌++◌, length, Some, None, Ok, refl, sym, ap, ◌∙◌, inl, inr, append_assoc, arith}
use Rattle.std.specs.Char.{encode_utf8}
use Rattle.std.specs.Str.{is_utf8}
use Rattle.std.proofs.lemmas.Bool.{cases_Bool, and_parts, ne_eqb, lt-ltb, le-ltb, eqb-true, ltb-true}
use Rattle.std.proofs.lemmas.List.{length-append}
use Rattle.json_tree.specs.Numbers.{is_digit}
use Rattle.json_text.specs.Reading.{Taken, place, steps_at, word_at, hex_value, within, hex_at, unit_at, low_at, unicode_at, meant, escape_at, piece_at, string_at}
use Rattle.json_text.specs.Grammar.{IsUnit, AreChars, none, plain, letter, unit, surrogates}

hex_case : (b v : ℕ) (x y z : Truth) → is_digit b ≡ x → (ltb 64 b && ltb b 71) ≡ y → (ltb 96 b && ltb b 103) ≡ z → cond x (Some (b - 48)) (cond y (Some (b - 55)) (cond z (Some (b - 87)) None)) ≡ Some v → v ≤ 15
hex_case b v true y z hx hy hz e = let p = and_parts (ltb 47 b) (ltb b 58) hx in let q : b - 48 ≡ v = cc in omega (arith, ltb-true b 58 p.1, q)
hex_case b v false true z hx hy hz e = let p = and_parts (ltb 64 b) (ltb b 71) hy in let q : b - 55 ≡ v = cc in omega (arith, ltb-true b 71 p.1, q)
hex_case b v false false true hx hy hz e = let p = and_parts (ltb 96 b) (ltb b 103) hz in let q : b - 87 ≡ v = cc in omega (arith, ltb-true b 103 p.1, q)
hex_case b v false false false hx hy hz e = absurd cc

pub hex_small : (b v : ℕ) → hex_value b ≡ Some v → v ≤ 15
hex_small b v h = hex_case b v (is_digit b) (ltb 64 b && ltb b 71) (ltb 96 b && ltb b 103) refl refl refl h

within_is : (start low high v : ℕ) (bs : List ℕ) → low ≤ v → v ≤ high → within start low high (Some v) bs ≡ Ok (v, bs)
within_is start low high v bs l h = rw (le-ltb v low l, le-ltb high v h) refl

hex_read : (start end low high b v : ℕ) (bs : List ℕ) → hex_value b ≡ Some v → low ≤ v → v ≤ high → hex_at start end low high (b ∷ bs) ≡ Ok (v, bs)
unfolding hex_at
hex_read start end low high b v bs e l h = rw e (within_is start low high v bs l h)

unit_read : (start end top c d r s : ℕ) (bs : List ℕ) → hex_value c ≡ Some r → hex_value d ≡ Some s → unit_at start end top (c ∷ d ∷ bs) ≡ Ok (256 * top + 16 * r + s, bs)
unfolding unit_at
unit_read start end top c d r s bs hr hs = rw (hex_read start end 0 15 c r (d ∷ bs) hr (omega arith) (hex_small c r hr), hex_read start end 0 15 d s bs hs (omega arith) (hex_small d s hs)) refl

-- the second digit, where the first may be one of a surrogate
second_bound : (p q r s : ℕ) → q ≤ 15 → (256 * (16 * p + q) + 16 * r + s < 56320) ⊎ (57343 < 256 * (16 * p + q) + 16 * r + s) → r ≤ 15 → s ≤ 15 → q ≤ cond (eqb p 13) 11 15
second_bound p q r s hq h hr hs =
    elim (cases_Bool (eqb p 13)) [
      | inl e ↦
          let is : p ≡ 13 = eqb-true p 13 e in
          rw e (elim h [ inl low ↦ omega (arith, is, low) | inr high ↦ omega (arith, is, high, hq, hr, hs) ])
      | inr e ↦ rw e hq
    ]

-- the character of four digits, or the first half of one
unicode_read : (start end a b c d u : ℕ) (bs : List ℕ) → IsUnit a b c d u → (u < 56320) ⊎ (57343 < u) → unicode_at start end (a ∷ b ∷ c ∷ d ∷ bs) ≡ cond (ltb u 55296 || ltb 57343 u) (Ok (encode_utf8 u, bs)) (low_at start end u bs)
unfolding unicode_at
unicode_read start end a b c d u bs (p, q, r, s, ha, hb, hc, hd, e) h =
    let is : (256 * (16 * p + q) + 16 * r + s < 56320) ⊎ (57343 < 256 * (16 * p + q) + 16 * r + s) = rw e at h in
    rw (
      hex_read start end 0 15 a p (b ∷ c ∷ d ∷ bs) ha (omega arith) (hex_small a p ha),
      hex_read start end 0 (cond (eqb p 13) 11 15) b q (c ∷ d ∷ bs) hb (omega arith) (second_bound p q r s (hex_small b q hb) is (hex_small c r hc) (hex_small d s hd)),
      unit_read start end (16 * p + q) c d r s bs hc hd,
      ← e,
    ) refl

outside : (u : ℕ) → (u < 55296) ⊎ (57343 < u) → (ltb u 55296 || ltb 57343 u) ≡ true
outside u (inl h) = rw (lt-ltb u 55296 h) refl
outside u (inr h) = rw (le-ltb u 55296 (omega arith), lt-ltb 57343 u h) refl

wider : (u : ℕ) → (u < 55296) ⊎ (57343 < u) → (u < 56320) ⊎ (57343 < u)
wider u (inl h) = inl (omega arith)
wider u (inr h) = inr h

unit_char : (start end a b c d u : ℕ) (bs : List ℕ) → IsUnit a b c d u → (u < 55296) ⊎ (57343 < u) → unicode_at start end (a ∷ b ∷ c ∷ d ∷ bs) ≡ Ok (encode_utf8 u, bs)
unit_char start end a b c d u bs h o = unicode_read start end a b c d u bs h (wider u o) ∙ rw (outside u o) refl

low_read : (start end high e f g h low : ℕ) (bs : List ℕ) → IsUnit e f g h low → 56320 ≤ low → low < 57344 → low_at start end high (92 ∷ 117 ∷ e ∷ f ∷ g ∷ h ∷ bs) ≡ Ok (encode_utf8 (65536 + 1024 * (high - 55296) + (low - 56320)), bs)
unfolding low_at word_at
low_read start end high e f g h low bs (p, q, r, s, he, hf, hg, hh, is) from below =
    let sq = hex_small f q hf in
    let sr = hex_small g r hg in
    let ss = hex_small h s hh in
    let lower : 56320 ≤ 256 * (16 * p + q) + 16 * r + s = omega (arith, is, from) in
    let upper : 256 * (16 * p + q) + 16 * r + s < 57344 = omega (arith, is, below) in
    rw (
      hex_read start end 13 13 e p (f ∷ g ∷ h ∷ bs) he (omega (arith, lower, sq, sr, ss)) (omega (arith, upper)),
      hex_read start end 12 15 f q (g ∷ h ∷ bs) hf (omega (arith, lower, upper, sr, ss)) sq,
      unit_read start end (16 * p + q) g h r s bs hg hh,
      ← is,
    ) refl

pair_char : (start end a b c d e f g h high low : ℕ) (bs : List ℕ) → IsUnit a b c d high → 55296 ≤ high → high < 56320 → IsUnit e f g h low → 56320 ≤ low → low < 57344
    → unicode_at start end (a ∷ b ∷ c ∷ d ∷ 92 ∷ 117 ∷ e ∷ f ∷ g ∷ h ∷ bs) ≡ Ok (encode_utf8 (65536 + 1024 * (high - 55296) + (low - 56320)), bs)
pair_char start end a b c d e f g h high low bs hu hl hh lu ll lh =
    unicode_read start end a b c d high (92 ∷ 117 ∷ e ∷ f ∷ g ∷ h ∷ bs) hu (inl hh)
    ∙ rw (le-ltb high 55296 hl, le-ltb 57343 high (omega arith)) (low_read start end high e f g h low bs lu ll lh)

-- one piece more
module _ (start end : ℕ) where
  abbrev step : List ℕ → List ℕ → Taken (List ℕ × Truth)
  step = piece_at start end

  escaped_piece : (done bs rest m : List ℕ) → unicode_at start end bs ≡ Ok (m, rest) → step done (92 ∷ 117 ∷ bs) ≡ Ok ((m, true), rest)
  unfolding piece_at escape_at
  escaped_piece done bs rest m e = rw e refl

  letter_piece : (done bs : List ℕ) (b m : ℕ) → b ≢ 117 → meant b ≡ Some m → step done (92 ∷ b ∷ bs) ≡ Ok ((m ∷ [], true), bs)
  unfolding piece_at escape_at
  letter_piece done bs b m ne e = rw (ne_eqb b 117 ne, e) refl

  plain_piece : (done bs : List ℕ) (b : ℕ) → 32 ≤ b → b ≢ 34 → b ≢ 92 → step done (b ∷ bs) ≡ Ok ((b ∷ [], true), bs)
  unfolding piece_at
  plain_piece done bs b low quote back = rw (ne_eqb b 34 quote, ne_eqb b 92 back, le-ltb b 32 low) refl

  goes : (turns : ℕ) (done bs rest m : List ℕ) → step done bs ≡ Ok ((m, true), rest) → steps_at step (suc turns) end done bs ≡ steps_at step turns end (done ++ m) rest
  unfolding steps_at
  goes turns done bs rest m e = rw e refl

  more : (turns : ℕ) (done bs rest m t : List ℕ) (after : List ℕ) → step done bs ≡ Ok ((m, true), rest) → steps_at step turns end (done ++ m) rest ≡ Ok ((done ++ m) ++ t, after) → steps_at step (suc turns) end done bs ≡ Ok (done ++ (m ++ t), after)
  more turns done bs rest m t after e h = goes turns done bs rest m e ∙ h ∙ ap (λ (l : List ℕ). Ok (l, after)) (append_assoc done m t)

  quote : (turns : ℕ) (done bs : List ℕ) → steps_at step (suc turns) end done (34 ∷ bs) ≡ Ok (done ++ [], bs)
  unfolding steps_at piece_at
  quote turns done bs = refl

  chars_read : {s t : List ℕ} → AreChars s t → (turns : ℕ) (done bs : List ℕ) → length s < turns → steps_at step turns end done (s ++ 34 ∷ bs) ≡ Ok (done ++ t, bs)
  chars_read none zero done bs lt = absurd (omega arith)
  chars_read none (suc n) done bs lt = quote n done bs
  chars_read (plain low q back r) zero done bs lt = absurd (omega arith)
  chars_read (plain {b} {s} {t} low q back r) (suc n) done bs lt = more n done _ _ (b ∷ []) t bs (plain_piece done (s ++ 34 ∷ bs) b low q back) (chars_read r n (done ++ b ∷ []) bs (omega arith))
  chars_read (letter ne e r) zero done bs lt = absurd (omega arith)
  chars_read (letter {b} {m} {s} {t} ne e r) (suc n) done bs lt = more n done _ _ (m ∷ []) t bs (letter_piece done (s ++ 34 ∷ bs) b m ne e) (chars_read r n (done ++ m ∷ []) bs (omega arith))
  chars_read (unit h o r e) zero done bs lt = absurd (omega arith)
  chars_read (unit {a} {b} {c} {d} {u} {s} {t} {m} h o r e) (suc n) done bs lt =
      more n done _ _ (encode_utf8 u) t bs (escaped_piece done (a ∷ b ∷ c ∷ d ∷ (s ++ 34 ∷ bs)) (s ++ 34 ∷ bs) (encode_utf8 u) (unit_char start end a b c d u (s ++ 34 ∷ bs) h o)) (chars_read r n (done ++ encode_utf8 u) bs (omega arith))
      ∙ ap (λ (l : List ℕ). Ok (done ++ l, bs)) (sym e)
  chars_read (surrogates hu hl hh lu ll lh r e) zero done bs lt = absurd (omega arith)
  chars_read (surrogates {a} {b} {c} {d} {e} {f} {g} {h} {high} {low} {s} {t} {m} hu hl hh lu ll lh r is) (suc n) done bs lt =
      let char = encode_utf8 (65536 + 1024 * (high - 55296) + (low - 56320)) in
      more n done _ _ char t bs (escaped_piece done (a ∷ b ∷ c ∷ d ∷ 92 ∷ 117 ∷ e ∷ f ∷ g ∷ h ∷ (s ++ 34 ∷ bs)) (s ++ 34 ∷ bs) char (pair_char start end a b c d e f g h high low (s ++ 34 ∷ bs) hu hl hh lu ll lh)) (chars_read r n (done ++ char) bs (omega arith))
      ∙ ap (λ (x : List ℕ). Ok (done ++ x, bs)) (sym is)

-- a string behind its opening quote
pub string_read : (end : ℕ) (chars t bs : List ℕ) → AreChars chars t → is_utf8 t ≡ true → string_at end (chars ++ 34 ∷ bs) ≡ Ok (t, bs)
unfolding string_at
string_read end chars t bs h utf8 =
    rw (chars_read (place end (chars ++ 34 ∷ bs) - 1) end h (suc (length (chars ++ 34 ∷ bs))) [] bs (omega (arith, length-append chars (34 ∷ bs))), utf8) refl
