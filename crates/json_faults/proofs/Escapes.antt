-- An escape is ASCII, and what it means is UTF-8.
use Rattle.std.proofs.Common.{◌≡◌, ◌⊎◌, ℕ, ◌+◌, ◌-◌, ◌*◌, ◌<◌, ◌≤◌, Bool as Truth, true, false, cond, ◌&&◌, ◌||◌, eqb, ltb, List, [], ◌∷◌, ◌++◌, Option, Some, None, Ok, Err, refl, sym, ap, ◌∙◌, subst, inl, inr, arith}
use Rattle.std.specs.Char.{encode_utf8, IsScalar}
use Rattle.std.specs.Str.{IsUtf8}
use Rattle.std.proofs.lemmas.Bool.{cases_Bool, and_parts, or_parts, eqb-true, eq-eqb, ltb-true, ltb-false, lt-ltb, le-ltb, le-leb}
use Rattle.std.proofs.lemmas.Str.{IsUtf8-encode, IsUtf8-from_ascii}
use Rattle.std.proofs.lemmas.Str.Ascii.{IsAscii-cons, IsAscii-nil}
use Rattle.json_tree.specs.Numbers.{is_digit}
use Rattle.json_text.specs.Reading.{Taken, word_at, hex_value, within, hex_at, unit_at, low_at, unicode_at, meant, one, escape_at}
use Rattle.json_text.proofs.Found.{bind_ok, taken_is}
use Rattle.json_text.proofs.FoundStrings.{word_found, outside}
use Rattle.json_text.proofs.Strings.{hex_small}
use Rattle.json_faults.proofs.Decisions.{fault_is_none}
use Rattle.json_faults.proofs.Completions.{AreLow, low_append}

scalar_high : (c : ℕ) → 57344 ≤ c → c < 1114112 → IsScalar c
scalar_high c from below = rw (le-ltb c 55296 (omega arith), le-leb 57344 c from, lt-ltb c 1114112 below) refl

scalar_low : (c : ℕ) → c < 55296 → IsScalar c
scalar_low c h = rw (lt-ltb c 55296 h) refl

-- ---- digits

hex_low_case : (b v : ℕ) (x y z : Truth) → is_digit b ≡ x → (ltb 64 b && ltb b 71) ≡ y → (ltb 96 b && ltb b 103) ≡ z → cond x (Some (b - 48)) (cond y (Some (b - 55)) (cond z (Some (b - 87)) None)) ≡ Some v → b < 128
hex_low_case b v true y z hx hy hz e = let p = and_parts (ltb 47 b) (ltb b 58) hx in omega (arith, ltb-true b 58 p.1)
hex_low_case b v false true z hx hy hz e = let p = and_parts (ltb 64 b) (ltb b 71) hy in omega (arith, ltb-true b 71 p.1)
hex_low_case b v false false true hx hy hz e = let p = and_parts (ltb 96 b) (ltb b 103) hz in omega (arith, ltb-true b 103 p.1)
hex_low_case b v false false false hx hy hz e = absurd cc

hex_low : (b v : ℕ) → hex_value b ≡ Some v → b < 128
hex_low b v h = hex_low_case b v (is_digit b) (ltb 64 b && ltb b 71) (ltb 96 b && ltb b 103) refl refl refl h

record IsDigit (low high : ℕ) (bs rest : List ℕ) (v : ℕ) : Type 0 where
  digit : ℕ
  here : bs ≡ digit ∷ rest
  ascii : digit < 128
  from : low ≤ v
  upto : v ≤ high
  small : v ≤ 15

digit_case : (start low high b w v : ℕ) (bs rest : List ℕ) (x : Truth) → hex_value b ≡ Some w → (ltb w low || ltb high w) ≡ x → ◌≡◌ {A = Taken ℕ} (cond x (Err start) (Ok (w, bs))) (Ok (v, rest)) → IsDigit low high (b ∷ bs) rest v
digit_case start low high b w v bs rest true e o h = absurd (fault_is_none (v, rest) start h)
digit_case start low high b w v bs rest false e o h =
    let p = or_parts (ltb w low) (ltb high w) o in
    let same = taken_is w v bs rest h in
    record {
      digit = b;
      here = ap (λ (l : List ℕ). b ∷ l) same.1;
      ascii = hex_low b w e;
      from = omega (arith, ltb-false w low p.0, same.0);
      upto = omega (arith, ltb-false high w p.1, same.0);
      small = omega (arith, hex_small b w e, same.0);
    }

digit_of : (start low high b v : ℕ) (bs rest : List ℕ) (o : Option ℕ) → hex_value b ≡ o → within start low high o bs ≡ Ok (v, rest) → IsDigit low high (b ∷ bs) rest v
digit_of start low high b v bs rest None e h = absurd (fault_is_none (v, rest) start h)
digit_of start low high b v bs rest (Some w) e h = digit_case start low high b w v bs rest (ltb w low || ltb high w) e refl h

digit_means : (start end low high v : ℕ) (bs rest : List ℕ) → hex_at start end low high bs ≡ Ok (v, rest) → IsDigit low high bs rest v
unfolding hex_at
digit_means start end low high v [] rest h = absurd (fault_is_none (v, rest) end h)
digit_means start end low high v (b ∷ bs) rest h = digit_of start low high b v bs rest (hex_value b) refl h

record AreTwo (top : ℕ) (bs rest : List ℕ) (u : ℕ) : Type 0 where
  third : ℕ
  fourth : ℕ
  here : bs ≡ third ∷ fourth ∷ rest
  third_low : third < 128
  fourth_low : fourth < 128
  r : ℕ
  s : ℕ
  r_small : r ≤ 15
  s_small : s ≤ 15
  number : u ≡ 256 * top + 16 * r + s

unit_means : (start end top u : ℕ) (bs rest : List ℕ) → unit_at start end top bs ≡ Ok (u, rest) → AreTwo top bs rest u
unfolding unit_at
unit_means start end top u bs rest h =
    let one = bind_ok (hex_at start end 0 15 bs) _ (u, rest) h in
    let two = bind_ok (hex_at start end 0 15 one.0.1) _ (u, rest) one.2 in
    let c = digit_means start end 0 15 one.0.0 bs one.0.1 one.1 in
    let d = digit_means start end 0 15 two.0.0 one.0.1 two.0.1 two.1 in
    let same = taken_is (256 * top + 16 * one.0.0 + two.0.0) u two.0.1 rest two.2 in
    record {
      third = c.digit;
      fourth = d.digit;
      here = c.here ∙ ap (λ (l : List ℕ). c.digit ∷ l) (d.here ∙ ap (λ (l : List ℕ). d.digit ∷ l) same.1);
      third_low = c.ascii;
      fourth_low = d.ascii;
      r = one.0.0;
      s = two.0.0;
      r_small = c.small;
      s_small = d.small;
      number = sym same.0;
    }

-- ---- characters

-- these bytes are ASCII, and mean a text that is UTF-8
pub record Means (bs m rest : List ℕ) : Type 0 where
  pub front : List ℕ
  pub here : bs ≡ front ++ rest
  pub low : AreLow front
  pub utf8 : IsUtf8 m

low_cons : (b : ℕ) (l : List ℕ) → b < 128 → AreLow l → AreLow (b ∷ l)
low_cons b l h k = rw (lt-ltb b 128 h) k

four_low : (a b c d : ℕ) → a < 128 → b < 128 → c < 128 → d < 128 → AreLow (a ∷ b ∷ c ∷ d ∷ [])
four_low a b c d ha hb hc hd = rw (lt-ltb a 128 ha, lt-ltb b 128 hb, lt-ltb c 128 hc, lt-ltb d 128 hd) refl

high_bound : (p q r s u : ℕ) → p ≤ 15 → r ≤ 15 → s ≤ 15 → q ≤ 15 → q ≤ cond (eqb p 13) 11 15 → u ≡ 256 * (16 * p + q) + 16 * r + s → 55296 ≤ u → u ≤ 57343 → u < 56320
high_bound p q r s u hp hr hs wide hq e from upto =
    let is : p ≡ 13 = omega (arith, hp, hr, hs, wide, e, from, upto) in
    let small : q ≤ 11 = rw (eq-eqb p 13 is) at hq in
    omega (arith, is, small, hr, hs, e)

low_means : (start end high : ℕ) (bs m rest : List ℕ) → 55296 ≤ high → high < 56320 → low_at start end high bs ≡ Ok (m, rest) → Means bs m rest
unfolding low_at
low_means start end high bs m rest from below h =
    let word = bind_ok (word_at (92 ∷ 117 ∷ []) start end bs) _ (m, rest) h in
    let one = bind_ok (hex_at start end 13 13 word.0) _ (m, rest) word.2 in
    let two = bind_ok (hex_at start end 12 15 one.0.1) _ (m, rest) one.2 in
    let three = bind_ok (unit_at start end (16 * one.0.0 + two.0.0) two.0.1) _ (m, rest) two.2 in
    let e = digit_means start end 13 13 one.0.0 word.0 one.0.1 one.1 in
    let f = digit_means start end 12 15 two.0.0 one.0.1 two.0.1 two.1 in
    let g = unit_means start end (16 * one.0.0 + two.0.0) three.0.0 two.0.1 three.0.1 three.1 in
    let same = taken_is (encode_utf8 (65536 + 1024 * (high - 55296) + (three.0.0 - 56320))) m three.0.1 rest three.2 in
    let lower : 56320 ≤ three.0.0 = omega (arith, g.number, e.from, f.from) in
    let upper : three.0.0 < 57344 = omega (arith, g.number, e.upto, f.upto, g.r_small, g.s_small) in
    record {
      front = 92 ∷ 117 ∷ e.digit ∷ f.digit ∷ g.third ∷ g.fourth ∷ [];
      here = word_found start end (92 ∷ 117 ∷ []) bs word.0 word.1
          ∙ ap (λ (l : List ℕ). 92 ∷ 117 ∷ l) (e.here ∙ ap (λ (l : List ℕ). e.digit ∷ l) (f.here ∙ ap (λ (l : List ℕ). f.digit ∷ l) (g.here ∙ ap (λ (l : List ℕ). g.third ∷ g.fourth ∷ l) same.1)));
      low = four_low e.digit f.digit g.third g.fourth e.ascii f.ascii g.third_low g.fourth_low;
      utf8 = subst IsUtf8 same.0 (IsUtf8-encode _ (scalar_high (65536 + 1024 * (high - 55296) + (three.0.0 - 56320)) (omega (arith, from, lower)) (omega (arith, from, below, lower, upper))));
    }

scalar_unit : (u : ℕ) → (u < 55296) ⊎ (57343 < u) → u < 65536 → IsScalar u
scalar_unit u (inl h) below = scalar_low u h
scalar_unit u (inr h) below = scalar_high u (omega arith) (omega arith)

unicode_means : (start end : ℕ) (bs m rest : List ℕ) → unicode_at start end bs ≡ Ok (m, rest) → Means bs m rest
unfolding unicode_at
unicode_means start end bs m rest h =
    let one = bind_ok (hex_at start end 0 15 bs) _ (m, rest) h in
    let two = bind_ok (hex_at start end 0 (cond (eqb one.0.0 13) 11 15) one.0.1) _ (m, rest) one.2 in
    let three = bind_ok (unit_at start end (16 * one.0.0 + two.0.0) two.0.1) _ (m, rest) two.2 in
    let a = digit_means start end 0 15 one.0.0 bs one.0.1 one.1 in
    let b = digit_means start end 0 (cond (eqb one.0.0 13) 11 15) two.0.0 one.0.1 two.0.1 two.1 in
    let c = unit_means start end (16 * one.0.0 + two.0.0) three.0.0 two.0.1 three.0.1 three.1 in
    let here : bs ≡ a.digit ∷ b.digit ∷ c.third ∷ c.fourth ∷ three.0.1 = a.here ∙ ap (λ (l : List ℕ). a.digit ∷ l) (b.here ∙ ap (λ (l : List ℕ). b.digit ∷ l) c.here) in
    let low : AreLow (a.digit ∷ b.digit ∷ c.third ∷ c.fourth ∷ []) = four_low a.digit b.digit c.third c.fourth a.ascii b.ascii c.third_low c.fourth_low in
    let last : ◌≡◌ {A = Taken (List ℕ)} (cond (ltb three.0.0 55296 || ltb 57343 three.0.0) (Ok (encode_utf8 three.0.0, three.0.1)) (low_at start end three.0.0 three.0.1)) (Ok (m, rest)) = three.2 in
    elim (cases_Bool (ltb three.0.0 55296 || ltb 57343 three.0.0)) [
      | inl o ↦
          let k : ◌≡◌ {A = Taken (List ℕ)} (Ok (encode_utf8 three.0.0, three.0.1)) (Ok (m, rest)) = rw o at last in
          let same = taken_is (encode_utf8 three.0.0) m three.0.1 rest k in
          let below : three.0.0 < 65536 = omega (arith, c.number, a.small, b.small, c.r_small, c.s_small) in
          record {
            front = a.digit ∷ b.digit ∷ c.third ∷ c.fourth ∷ [];
            here = here ∙ ap (λ (l : List ℕ). a.digit ∷ b.digit ∷ c.third ∷ c.fourth ∷ l) same.1;
            low = low;
            utf8 = subst IsUtf8 same.0 (IsUtf8-encode _ (scalar_unit three.0.0 (outside three.0.0 (ltb three.0.0 55296) (ltb 57343 three.0.0) refl refl o) below));
          }
      | inr o ↦
          let k : low_at start end three.0.0 three.0.1 ≡ Ok (m, rest) = rw o at last in
          let p = or_parts (ltb three.0.0 55296) (ltb 57343 three.0.0) o in
          let from : 55296 ≤ three.0.0 = ltb-false three.0.0 55296 p.0 in
          let upto : three.0.0 ≤ 57343 = ltb-false 57343 three.0.0 p.1 in
          let below = high_bound one.0.0 two.0.0 c.r c.s three.0.0 a.small c.r_small c.s_small b.small b.upto c.number from upto in
          let rest_means = low_means start end three.0.0 three.0.1 m rest from below k in
          record {
            front = a.digit ∷ b.digit ∷ c.third ∷ c.fourth ∷ rest_means.front;
            here = here ∙ ap (λ (l : List ℕ). a.digit ∷ b.digit ∷ c.third ∷ c.fourth ∷ l) rest_means.here;
            low = low_append (a.digit ∷ b.digit ∷ c.third ∷ c.fourth ∷ []) rest_means.front low rest_means.low;
            utf8 = rest_means.utf8;
          }
    ]

meant_case : (b x : ℕ) (q r s t u v : Truth) → (eqb b 34 || eqb b 92 || eqb b 47) ≡ q → eqb b 98 ≡ r → eqb b 102 ≡ s → eqb b 110 ≡ t → eqb b 114 ≡ u → eqb b 116 ≡ v
    → cond q (Some b) (cond r (Some 8) (cond s (Some 12) (cond t (Some 10) (cond u (Some 13) (cond v (Some 9) None))))) ≡ Some x → (b < 128) × (x < 128)
meant_case b x true r s t u v hq hr hs ht hu hv e = let is : b ≡ x = cc in let low = quote b (eqb b 34) (eqb b 92) (eqb b 47) refl refl refl hq in (low, omega (arith, low, is))
  where
    quote : (b : ℕ) (x y z : Truth) → eqb b 34 ≡ x → eqb b 92 ≡ y → eqb b 47 ≡ z → (x || y || z) ≡ true → b < 128
    quote b true y z e f g h = omega (arith, eqb-true b 34 e)
    quote b false true z e f g h = omega (arith, eqb-true b 92 f)
    quote b false false true e f g h = omega (arith, eqb-true b 47 g)
    quote b false false false e f g h = absurd cc
meant_case b x false true s t u v hq hr hs ht hu hv e = let is : 8 ≡ x = cc in (omega (arith, eqb-true b 98 hr), omega (arith, is))
meant_case b x false false true t u v hq hr hs ht hu hv e = let is : 12 ≡ x = cc in (omega (arith, eqb-true b 102 hs), omega (arith, is))
meant_case b x false false false true u v hq hr hs ht hu hv e = let is : 10 ≡ x = cc in (omega (arith, eqb-true b 110 ht), omega (arith, is))
meant_case b x false false false false true v hq hr hs ht hu hv e = let is : 13 ≡ x = cc in (omega (arith, eqb-true b 114 hu), omega (arith, is))
meant_case b x false false false false false true hq hr hs ht hu hv e = let is : 9 ≡ x = cc in (omega (arith, eqb-true b 116 hv), omega (arith, is))
meant_case b x false false false false false false hq hr hs ht hu hv e = absurd cc

meant_low : (b x : ℕ) → meant b ≡ Some x → (b < 128) × (x < 128)
meant_low b x h = meant_case b x (eqb b 34 || eqb b 92 || eqb b 47) (eqb b 98) (eqb b 102) (eqb b 110) (eqb b 114) (eqb b 116) refl refl refl refl refl refl h

letter_means : (start b : ℕ) (bs m rest : List ℕ) (o : Option ℕ) → meant b ≡ o → one start o bs ≡ Ok (m, rest) → Means (b ∷ bs) m rest
letter_means start b bs m rest None e h = absurd (fault_is_none (m, rest) start h)
letter_means start b bs m rest (Some x) e h =
    let same = taken_is (x ∷ []) m bs rest h in
    let p = meant_low b x e in
    record { front = b ∷ []; here = ap (λ (l : List ℕ). b ∷ l) same.1; low = low_cons b [] p.0 refl; utf8 = subst IsUtf8 same.0 (IsUtf8-from_ascii (x ∷ []) (IsAscii-cons x [] p.1 IsAscii-nil)) }

pub escape_means : (start end : ℕ) (bs m rest : List ℕ) → escape_at start end bs ≡ Ok (m, rest) → Means bs m rest
unfolding escape_at
escape_means start end [] m rest h = absurd (fault_is_none (m, rest) end h)
escape_means start end (b ∷ bs) m rest h =
    elim (cases_Bool (eqb b 117)) [
      | inl e ↦
          let k : unicode_at start end bs ≡ Ok (m, rest) = rw e at h in
          let r = unicode_means start end bs m rest k in
          record { front = b ∷ r.front; here = ap (λ (l : List ℕ). b ∷ l) r.here; low = low_cons b r.front (omega (arith, eqb-true b 117 e)) r.low; utf8 = r.utf8 }
      | inr e ↦ let k : one start (meant b) bs ≡ Ok (m, rest) = rw e at h in letter_means start b bs m rest (meant b) refl k
    ]
