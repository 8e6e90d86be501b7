-- What is read as a string is one of the grammar.
use Rattle.std.proofs.Common.{◌≡◌, ◌≢◌, ◌⊎◌, ℕ, zero, suc, ◌+◌, ◌-◌, ◌*◌, ◌<◌, ◌≤◌, Bool as Truth, true, false, cond, ◌||◌, eqb, ltb, List, [], ◌∷◌, ◌++◌, length, Option, Some, None, Result, Ok, Err, refl, sym, ap, ◌∙◌, subst, inl, inr, append_assoc, arith}
use Rattle.std.specs.Char.{encode_utf8}
use Rattle.std.specs.Str.{is_utf8}
use Rattle.std.proofs.lemmas.Bool.{cases_Bool, or_parts, eqb-true, eq-eqb, ltb-true, ltb-false}
use Rattle.json_text.specs.Reading.{◌>>=◌, Taken, place, steps_at, word_at, hex_value, within, hex_at, unit_at, low_at, unicode_at, meant, one, escape_at, piece_at, string_at}
use Rattle.json_text.specs.Grammar.{IsUnit, AreChars, none, plain, letter, unit, surrogates}
use Rattle.json_text.proofs.Strings.{hex_small}
use Rattle.json_text.proofs.Found.{bind_ok, ok_is, taken_is, text_found}

-- ---- digits

record IsHex (low high : ℕ) (bs rest : List ℕ) (v : ℕ) : Type 0 where
  digit : ℕ
  here : bs ≡ digit ∷ rest
  value : hex_value digit ≡ Some v
  from : low ≤ v
  upto : v ≤ high

hex_in : (start low high b w v : ℕ) (bs rest : List ℕ) (x : Truth) → hex_value b ≡ Some w → (ltb w low || ltb high w) ≡ x → ◌≡◌ {A = Taken ℕ} (cond x (Err start) (Ok (w, bs))) (Ok (v, rest)) → IsHex low high (b ∷ bs) rest v
hex_in start low high b w v bs rest true e o h = absurd cc
hex_in start low high b w v bs rest false e o h =
    let p = or_parts (ltb w low) (ltb high w) o in
    let same = taken_is w v bs rest h in
    let is = same.0 in
    let after = same.1 in
    record { digit = b; here = ap (λ (l : List ℕ). b ∷ l) after; value = e ∙ ap (λ (n : ℕ). Some n) is; from = omega (arith, ltb-false w low p.0, is); upto = omega (arith, ltb-false high w p.1, is) }

hex_of : (start low high b v : ℕ) (bs rest : List ℕ) (o : Option ℕ) → hex_value b ≡ o → within start low high o bs ≡ Ok (v, rest) → IsHex low high (b ∷ bs) rest v
hex_of start low high b v bs rest None e h = absurd cc
hex_of start low high b v bs rest (Some w) e h = hex_in start low high b w v bs rest (ltb w low || ltb high w) e refl h

hex_found : (start end low high v : ℕ) (bs rest : List ℕ) → hex_at start end low high bs ≡ Ok (v, rest) → IsHex low high bs rest v
unfolding hex_at
hex_found start end low high v [] rest h = absurd cc
hex_found start end low high v (b ∷ bs) rest h = hex_of start low high b v bs rest (hex_value b) refl h

record AreTwo (top : ℕ) (bs rest : List ℕ) (u : ℕ) : Type 0 where
  third : ℕ
  fourth : ℕ
  r : ℕ
  s : ℕ
  here : bs ≡ third ∷ fourth ∷ rest
  third_is : hex_value third ≡ Some r
  fourth_is : hex_value fourth ≡ Some s
  number : u ≡ 256 * top + 16 * r + s

unit_found : (start end top u : ℕ) (bs rest : List ℕ) → unit_at start end top bs ≡ Ok (u, rest) → AreTwo top bs rest u
unfolding unit_at
unit_found start end top u bs rest h =
    let one = bind_ok (hex_at start end 0 15 bs) _ (u, rest) h in
    let two = bind_ok (hex_at start end 0 15 one.0.1) _ (u, rest) one.2 in
    let c = hex_found start end 0 15 one.0.0 bs one.0.1 one.1 in
    let d = hex_found start end 0 15 two.0.0 one.0.1 two.0.1 two.1 in
    let same = taken_is (256 * top + 16 * one.0.0 + two.0.0) u two.0.1 rest two.2 in
    let is = same.0 in
    let after = same.1 in
    record { third = c.digit; fourth = d.digit; r = one.0.0; s = two.0.0; here = c.here ∙ ap (λ (l : List ℕ). c.digit ∷ l) (d.here ∙ ap (λ (l : List ℕ). d.digit ∷ l) after); third_is = c.value; fourth_is = d.value; number = sym is }

pub word_found : (start end : ℕ) (word bs rest : List ℕ) → word_at word start end bs ≡ Ok rest → bs ≡ word ++ rest
unfolding word_at
word_found start end [] bs rest h = cc
word_found start end (w ∷ word) [] rest h = absurd cc
word_found start end (w ∷ word) (b ∷ bs) rest h =
    elim (cases_Bool (eqb b w)) [
      | inl e ↦
          let k : word_at word start end bs ≡ Ok rest = rw e at h in
          let r = word_found start end word bs rest k in
          let p : b ≡ w = eqb-true b w e in
          λ i. p i ∷ r i
      | inr e ↦ let k : Err start ≡ Ok rest = rw e at h in absurd cc
    ]

-- ---- characters

-- what stands here is an escape that means these bytes, behind its backslash
abbrev IsEscape : List ℕ → List ℕ → List ℕ → Type 0
IsEscape bs m rest = (s : List ℕ) × (bs ≡ s ++ rest) × ((tail t : List ℕ) → AreChars tail t → AreChars (92 ∷ (s ++ tail)) (m ++ t))

pub outside : (u : ℕ) (x y : Truth) → ltb u 55296 ≡ x → ltb 57343 u ≡ y → (x || y) ≡ true → (u < 55296) ⊎ (57343 < u)
outside u true y e f h = inl (ltb-true u 55296 e)
outside u false true e f h = inr (ltb-true 57343 u f)
outside u false false e f h = absurd cc

high_bound : (p q r s u : ℕ) → p ≤ 15 → r ≤ 15 → s ≤ 15 → q ≤ cond (eqb p 13) 11 15 → u ≡ 256 * (16 * p + q) + 16 * r + s → 55296 ≤ u → u ≤ 57343 → u < 56320
high_bound p q r s u hp hr hs hq e from upto =
    let wide : q ≤ 15 = at_most (eqb p 13) q hq in
    let is : p ≡ 13 = omega (arith, hp, hr, hs, wide, e, from, upto) in
    let small : q ≤ 11 = rw (eq-eqb p 13 is) at hq in
    omega (arith, is, small, hr, hs, e)
  where
    at_most : (b : Truth) (q : ℕ) → q ≤ cond b 11 15 → q ≤ 15
    at_most true q h = omega arith
    at_most false q h = h

low_found : (start end high : ℕ) (bs m rest : List ℕ) (a b c d : ℕ) → IsUnit a b c d high → 55296 ≤ high → high < 56320 → low_at start end high bs ≡ Ok (m, rest)
    → (s : List ℕ) × (bs ≡ s ++ rest) × ((tail t : List ℕ) → AreChars tail t → AreChars (92 ∷ 117 ∷ a ∷ b ∷ c ∷ d ∷ (s ++ tail)) (m ++ t))
unfolding low_at
low_found start end high bs m rest a b c d hu from below h =
    let word = bind_ok (word_at (92 ∷ 117 ∷ []) start end bs) _ (m, rest) h in
    let one = bind_ok (hex_at start end 13 13 word.0) _ (m, rest) word.2 in
    let two = bind_ok (hex_at start end 12 15 one.0.1) _ (m, rest) one.2 in
    let three = bind_ok (unit_at start end (16 * one.0.0 + two.0.0) two.0.1) _ (m, rest) two.2 in
    let e = hex_found start end 13 13 one.0.0 word.0 one.0.1 one.1 in
    let f = hex_found start end 12 15 two.0.0 one.0.1 two.0.1 two.1 in
    let g = unit_found start end (16 * one.0.0 + two.0.0) three.0.0 two.0.1 three.0.1 three.1 in
    let same = taken_is (encode_utf8 (65536 + 1024 * (high - 55296) + (three.0.0 - 56320))) m three.0.1 rest three.2 in
    let char = same.0 in
    let after = same.1 in
    let sr = hex_small g.third g.r g.third_is in
    let ss = hex_small g.fourth g.s g.fourth_is in
    let lower : 56320 ≤ three.0.0 = omega (arith, g.number, e.from, f.from) in
    let upper : three.0.0 < 57344 = omega (arith, g.number, e.upto, f.upto, sr, ss) in
    let is : bs ≡ 92 ∷ 117 ∷ e.digit ∷ f.digit ∷ g.third ∷ g.fourth ∷ rest =
    word_found start end (92 ∷ 117 ∷ []) bs word.0 word.1
    ∙ ap (λ (l : List ℕ). 92 ∷ 117 ∷ l) (e.here ∙ ap (λ (l : List ℕ). e.digit ∷ l) (f.here ∙ ap (λ (l : List ℕ). f.digit ∷ l) (g.here ∙ ap (λ (l : List ℕ). g.third ∷ g.fourth ∷ l) after))) in (
      92 ∷ 117 ∷ e.digit ∷ f.digit ∷ g.third ∷ g.fourth ∷ [],
      is,
      λ tail t r. surrogates hu from below (one.0.0, two.0.0, g.r, g.s, e.value, f.value, g.third_is, g.fourth_is, g.number) lower upper r (ap (λ (l : List ℕ). l ++ t) (sym char)),
    )

-- behind the letter u
unicode_found : (start end : ℕ) (bs m rest : List ℕ) → unicode_at start end bs ≡ Ok (m, rest) → IsEscape (117 ∷ bs) m rest
unfolding unicode_at
unicode_found start end bs m rest h =
    let one = bind_ok (hex_at start end 0 15 bs) _ (m, rest) h in
    let two = bind_ok (hex_at start end 0 (cond (eqb one.0.0 13) 11 15) one.0.1) _ (m, rest) one.2 in
    let three = bind_ok (unit_at start end (16 * one.0.0 + two.0.0) two.0.1) _ (m, rest) two.2 in
    let a = hex_found start end 0 15 one.0.0 bs one.0.1 one.1 in
    let b = hex_found start end 0 (cond (eqb one.0.0 13) 11 15) two.0.0 one.0.1 two.0.1 two.1 in
    let c = unit_found start end (16 * one.0.0 + two.0.0) three.0.0 two.0.1 three.0.1 three.1 in
    let hu : IsUnit a.digit b.digit c.third c.fourth three.0.0 = (one.0.0, two.0.0, c.r, c.s, a.value, b.value, c.third_is, c.fourth_is, c.number) in
    let here : bs ≡ a.digit ∷ b.digit ∷ c.third ∷ c.fourth ∷ three.0.1 = a.here ∙ ap (λ (l : List ℕ). a.digit ∷ l) (b.here ∙ ap (λ (l : List ℕ). b.digit ∷ l) c.here) in
    let last : ◌≡◌ {A = Taken (List ℕ)} (cond (ltb three.0.0 55296 || ltb 57343 three.0.0) (Ok (encode_utf8 three.0.0, three.0.1)) (low_at start end three.0.0 three.0.1)) (Ok (m, rest)) = three.2 in
    elim (cases_Bool (ltb three.0.0 55296 || ltb 57343 three.0.0)) [
      | inl o ↦
          let k : ◌≡◌ {A = Taken (List ℕ)} (Ok (encode_utf8 three.0.0, three.0.1)) (Ok (m, rest)) = rw o at last in
          let same = taken_is (encode_utf8 three.0.0) m three.0.1 rest k in
          let char = same.0 in
          let after = same.1 in (
            117 ∷ a.digit ∷ b.digit ∷ c.third ∷ c.fourth ∷ [],
            ap (λ (l : List ℕ). 117 ∷ l) (here ∙ ap (λ (l : List ℕ). a.digit ∷ b.digit ∷ c.third ∷ c.fourth ∷ l) after),
            λ tail t r. unit hu (outside three.0.0 (ltb three.0.0 55296) (ltb 57343 three.0.0) refl refl o) r (ap (λ (l : List ℕ). l ++ t) (sym char)),
          )
      | inr o ↦
          let k : low_at start end three.0.0 three.0.1 ≡ Ok (m, rest) = rw o at last in
          let p = or_parts (ltb three.0.0 55296) (ltb 57343 three.0.0) o in
          let from : 55296 ≤ three.0.0 = ltb-false three.0.0 55296 p.0 in
          let upto : three.0.0 ≤ 57343 = ltb-false 57343 three.0.0 p.1 in
          let below = high_bound one.0.0 two.0.0 c.r c.s three.0.0 a.upto (hex_small c.third c.r c.third_is) (hex_small c.fourth c.s c.fourth_is) b.upto c.number from upto in
          let low = low_found start end three.0.0 three.0.1 m rest a.digit b.digit c.third c.fourth hu from below k in (
            117 ∷ a.digit ∷ b.digit ∷ c.third ∷ c.fourth ∷ low.0,
            ap (λ (l : List ℕ). 117 ∷ l) (here ∙ ap (λ (l : List ℕ). a.digit ∷ b.digit ∷ c.third ∷ c.fourth ∷ l) low.1),
            low.2,
          )
    ]

letter_found : (start b : ℕ) (bs m rest : List ℕ) (o : Option ℕ) → b ≢ 117 → meant b ≡ o → one start o bs ≡ Ok (m, rest) → IsEscape (b ∷ bs) m rest
letter_found start b bs m rest None ne e h = absurd cc
letter_found start b bs m rest (Some x) ne e h =
    let same = taken_is (x ∷ []) m bs rest h in
    let char = same.0 in
    let after = same.1 in
    (b ∷ [], ap (λ (l : List ℕ). b ∷ l) after, λ tail t r. subst (λ (l : List ℕ). AreChars (92 ∷ b ∷ tail) (l ++ t)) char (letter ne e r))

escape_found : (start end : ℕ) (bs m rest : List ℕ) → escape_at start end bs ≡ Ok (m, rest) → IsEscape bs m rest
unfolding escape_at
escape_found start end [] m rest h = absurd cc
escape_found start end (b ∷ bs) m rest h =
    elim (cases_Bool (eqb b 117)) [
      | inl e ↦
          let k : unicode_at start end bs ≡ Ok (m, rest) = rw e at h in
          let p : b ≡ 117 = eqb-true b 117 e in
          let r = unicode_found start end bs m rest k in
          (r.0, ap (λ (c : ℕ). c ∷ bs) p ∙ r.1, r.2)
      | inr e ↦
          let k : one start (meant b) bs ≡ Ok (m, rest) = rw e at h in
          letter_found start b bs m rest (meant b) (λ p. let q : eqb b 117 ≡ true = eq-eqb b 117 p in let t : true ≡ false = sym q ∙ e in absurd cc) refl k
    ]

-- ---- strings

abbrev CharsThen : List ℕ → List ℕ → List ℕ → List ℕ → Type 0
CharsThen done bs all rest = (s t : List ℕ) × AreChars s t × (all ≡ done ++ t) × (bs ≡ s ++ 34 ∷ rest)

behind_escape : (done bs all rest m after : List ℕ) → IsEscape bs m after → CharsThen (done ++ m) after all rest → CharsThen done (92 ∷ bs) all rest
behind_escape done bs all rest m after (s, e, ext) (s', t', r, is, here) = (
  92 ∷ (s ++ s'),
  m ++ t',
  ext s' t' r,
  is ∙ append_assoc done m t',
  ap (λ (l : List ℕ). 92 ∷ l) (e ∙ ap (λ (l : List ℕ). s ++ l) here ∙ sym (append_assoc s s' (34 ∷ rest))),
)

pub differs : (b n : ℕ) → eqb b n ≡ false → b ≢ n
differs b n e p = let q : eqb b n ≡ true = eq-eqb b n p in let t : true ≡ false = sym q ∙ e in absurd cc

abbrev on : ℕ → ℕ → ℕ → List ℕ → (List ℕ × Truth) × List ℕ → Result (List ℕ × List ℕ) ℕ
on start end n done x = cond x.0.1 (steps_at (piece_at start end) n end (done ++ x.0.0) x.1) (Ok (done ++ x.0.0, x.1))

escape_then : (start end n : ℕ) (done bs all rest : List ℕ) → ((escape_at start end bs >>= λ x. Ok ((x.0, true), x.1)) >>= on start end n done) ≡ Ok (all, rest)
    → (x : List ℕ × List ℕ) × IsEscape bs x.0 x.1 × (steps_at (piece_at start end) n end (done ++ x.0) x.1 ≡ Ok (all, rest))
escape_then start end n done bs all rest h =
    let one = bind_ok (escape_at start end bs >>= λ x. Ok ((x.0, true), x.1)) (on start end n done) (all, rest) h in
    let two = bind_ok (escape_at start end bs) (λ x. Ok ((x.0, true), x.1)) one.0 one.1 in
    let r = escape_found start end bs two.0.0 two.0.1 two.1 in
    let is = ok_is ((two.0.0, true), two.0.1) one.0 two.2 in
    (two.0, r, ap (on start end n done) is ∙ one.2)

chars_found : (start end turns : ℕ) (done bs all rest : List ℕ) → steps_at (piece_at start end) turns end done bs ≡ Ok (all, rest) → CharsThen done bs all rest
unfolding steps_at piece_at
chars_found start end zero done bs all rest h = absurd cc
chars_found start end (suc n) done [] all rest h = absurd cc
chars_found start end (suc n) done (b ∷ bs) all rest h =
    elim (cases_Bool (eqb b 34)) [
      | inl q ↦
          let k : ◌≡◌ {A = Taken (List ℕ)} (Ok (done ++ [], bs)) (Ok (all, rest)) = rw q at h in
          let p : b ≡ 34 = eqb-true b 34 q in
          let same = taken_is (done ++ []) all bs rest k in
          let is = same.0 in
          let after = same.1 in
          ([], [], none, sym is, λ i. p i ∷ after i)
      | inr q ↦
          elim (cases_Bool (eqb b 92)) [
            | inl s ↦
                let p : b ≡ 92 = eqb-true b 92 s in
                let k : ((escape_at start end bs >>= λ x. Ok ((x.0, true), x.1)) >>= on start end n done) ≡ Ok (all, rest) = rw (q, s) at h in
                let r = escape_then start end n done bs all rest k in
                let found = behind_escape done bs all rest r.0.0 r.0.1 r.1 (chars_found start end n (done ++ r.0.0) r.0.1 all rest r.2) in
                (found.0, found.1, found.2, found.3, ap (λ (c : ℕ). c ∷ bs) p ∙ found.4)
            | inr s ↦
                elim (cases_Bool (ltb b 32)) [
                  | inl l ↦ let k : Err start ≡ Ok (all, rest) = rw (q, s, l) at h in absurd cc
                  | inr l ↦
                      let k : steps_at (piece_at start end) n end (done ++ b ∷ []) bs ≡ Ok (all, rest) = rw (q, s, l) at h in
                      let r = chars_found start end n (done ++ b ∷ []) bs all rest k in
                      (b ∷ r.0, b ∷ r.1, plain (ltb-false b 32 l) (differs b 34 q) (differs b 92 s) r.2, r.3 ∙ append_assoc done (b ∷ []) r.1, ap (λ (x : List ℕ). b ∷ x) r.4)
                ]
          ]
    ]

pub string_found : (end : ℕ) (bs t rest : List ℕ) → string_at end bs ≡ Ok (t, rest) → (chars : List ℕ) × AreChars chars t × (is_utf8 t ≡ true) × (bs ≡ chars ++ 34 ∷ rest)
unfolding string_at
string_found end bs t rest h =
    let start = place end bs - 1 in
    let x = bind_ok (steps_at (piece_at start end) (suc (length bs)) end [] bs) _ (t, rest) h in
    let r = chars_found start end (suc (length bs)) [] bs x.0.0 x.0.1 x.1 in
    let k = text_found start x.0.0 x.0.1 t rest x.2 in
    let is : r.1 ≡ t = sym r.3 ∙ k.0 in
    (r.0, subst (AreChars r.0) is r.2, sym (ap is_utf8 k.0) ∙ k.2, r.4 ∙ ap (λ (l : List ℕ). r.0 ++ 34 ∷ l) k.1)
