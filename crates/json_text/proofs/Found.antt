-- What is read is in the grammar.
use Rattle.std.proofs.Common.{◌≡◌, ◌⊎◌, ℕ, ◌-◌, Bool as Truth, true, false, cond, ◌||◌, eqb, List, [], ◌∷◌, ◌++◌, length, take, Result, Ok, Err, refl, sym, ap, ◌∙◌, subst, inl, inr, append_assoc, arith}
use Rattle.std.specs.List.{list_all}
use Rattle.std.specs.Str.{is_utf8}
use Rattle.std.proofs.lemmas.Bool.{cases_Bool, eqb-true, eq-eqb}
use Rattle.json_tree.specs.Numbers.{AreDigits, IsWhole, IsFraction, IsSign, IsExponent, IsMinus, IsNumber, is_digit}
use Rattle.json_text.specs.Reading.{◌>>=◌, Taken, is_space, after_space, after_digits, digits_at, whole_at, after_minus, after_sign, fraction_at, exponent_at, after_number, as_text, number_at}
use Rattle.json_text.specs.Grammar.{IsSpace}
use Rattle.json_text.proofs.Numerals.{taken}

-- a step and what followed it
pub bind_ok : {A B : Type 0} (r : Result A ℕ) (f : A → Result B ℕ) (y : B) → (r >>= f) ≡ Ok y → (x : A) × (r ≡ Ok x) × (f x ≡ Ok y)
bind_ok (Ok x) f y h = (x, refl, h)
bind_ok (Err e) f y h = absurd cc

pub ok_is : {A : Type 0} (u v : A) → ◌≡◌ {A = Result A ℕ} (Ok u) (Ok v) → u ≡ v
ok_is u v h = cc

-- what was taken, and what is left
pub taken_is : {A : Type 0} (x y : A) (r s : List ℕ) → ◌≡◌ {A = Taken A} (Ok (x, r)) (Ok (y, s)) → (x ≡ y) × (r ≡ s)
taken_is {A} x y r s h =
    let p = ok_is (x, r) (y, s) h in
    (ap (λ (q : A × List ℕ). q.0) p, ap (λ (q : A × List ℕ). q.1) p)

-- ---- white space

space_here : (b : ℕ) (bs w : List ℕ) → is_space b ≡ true → IsSpace w → bs ≡ w ++ after_space bs → (v : List ℕ) × IsSpace v × (b ∷ bs ≡ v ++ after_space (b ∷ bs))
unfolding after_space
space_here b bs w h s e = (b ∷ w, rw h s, rw h (ap (λ (l : List ℕ). b ∷ l) e))

no_space_here : (b : ℕ) (bs : List ℕ) → is_space b ≡ false → (v : List ℕ) × IsSpace v × (b ∷ bs ≡ v ++ after_space (b ∷ bs))
unfolding after_space
no_space_here b bs h = ([], refl, rw h refl)

pub space_found : (bs : List ℕ) → (w : List ℕ) × IsSpace w × (bs ≡ w ++ after_space bs)
unfolding after_space
space_found [] = ([], refl, refl)
space_found (b ∷ bs) =
    elim (cases_Bool (is_space b)) [
      | inl h ↦ let r = space_found bs in space_here b bs r.0 h r.1 r.2
      | inr h ↦ no_space_here b bs h
    ]

-- ---- numbers

abbrev DigitsThen : List ℕ → List ℕ → Type 0
DigitsThen bs rest = (ds : List ℕ) × (list_all is_digit ds ≡ true) × (bs ≡ ds ++ rest)

digits_found : (bs : List ℕ) → DigitsThen bs (after_digits bs)
unfolding after_digits
digits_found [] = ([], refl, refl)
digits_found (b ∷ bs) =
    elim (cases_Bool (is_digit b)) [
      | inl h ↦ let r = digits_found bs in rw h (b ∷ r.0, rw h r.1, ap (λ (l : List ℕ). b ∷ l) r.2)
      | inr h ↦ rw h ([], refl, refl)
    ]

abbrev SomeDigits : List ℕ → List ℕ → Type 0
SomeDigits bs rest = (ds : List ℕ) × AreDigits ds × (bs ≡ ds ++ rest)

some_digits : (start end : ℕ) (bs rest : List ℕ) → digits_at start end bs ≡ Ok rest → SomeDigits bs rest
unfolding digits_at
some_digits start end [] rest h = absurd cc
some_digits start end (b ∷ bs) rest h =
    elim (cases_Bool (is_digit b)) [
      | inl d ↦
          let r = digits_found bs in
          let k : Ok (after_digits bs) ≡ Ok rest = rw d at h in
          let is : after_digits bs ≡ rest = cc in
          (b ∷ r.0, record { some = omega arith; digits = rw d r.1 }, ap (λ (l : List ℕ). b ∷ l) (r.2 ∙ ap (λ (l : List ℕ). r.0 ++ l) is))
      | inr d ↦ let k : Err start ≡ Ok rest = rw d at h in absurd cc
    ]

same_first : (b c : ℕ) (bs ds rest : List ℕ) → b ∷ bs ≡ (c ∷ ds) ++ rest → c ≡ b
same_first b c bs ds rest e = cc

whole_found : (start end : ℕ) (bs rest : List ℕ) → whole_at start end bs ≡ Ok rest → (w : List ℕ) × IsWhole w × (bs ≡ w ++ rest)
unfolding whole_at
whole_found start end [] rest h = absurd cc
whole_found start end (b ∷ bs) rest h =
    elim (cases_Bool (eqb b 48)) [
      | inl z ↦
          let k : Ok bs ≡ Ok rest = rw z at h in
          let is : bs ≡ rest = cc in
          (48 ∷ [], inl (refl, refl), let e : b ≡ 48 = eqb-true b 48 z in cc)
      | inr z ↦
          let k : digits_at start end (b ∷ bs) ≡ Ok rest = rw z at h in
          other_whole b bs rest z (some_digits start end (b ∷ bs) rest k)
    ]
  where
    other_whole : (b : ℕ) (bs rest : List ℕ) → eqb b 48 ≡ false → SomeDigits (b ∷ bs) rest → (w : List ℕ) × IsWhole w × (b ∷ bs ≡ w ++ rest)
    other_whole b bs rest z ([], d, e) = absurd (omega (arith, d.some))
    other_whole b bs rest z (c ∷ ds, d, e) =
        let is : c ≡ b = same_first b c bs ds rest e in
        (c ∷ ds, inr ((λ (q : c ≡ 48). let t : eqb b 48 ≡ true = eq-eqb b 48 (sym is ∙ q) in absurd cc), d), e)

minus_found : (bs : List ℕ) → (m : List ℕ) × IsMinus m × (bs ≡ m ++ after_minus bs)
unfolding after_minus
minus_found [] = ([], inl refl, refl)
minus_found (b ∷ bs) =
    elim (cases_Bool (eqb b 45)) [
      | inl e ↦ rw e (45 ∷ [], inr refl, ap (λ (c : ℕ). c ∷ bs) (eqb-true b 45 e))
      | inr e ↦ rw e ([], inl refl, refl)
    ]

sign_found : (bs : List ℕ) → (s : List ℕ) × IsSign s × (bs ≡ s ++ after_sign bs)
unfolding after_sign
sign_found [] = ([], inl refl, refl)
sign_found (b ∷ bs) =
    elim (cases_Bool (eqb b 43)) [
      | inl e ↦ rw e (43 ∷ [], inr (inl refl), ap (λ (c : ℕ). c ∷ bs) (eqb-true b 43 e))
      | inr e ↦
          elim (cases_Bool (eqb b 45)) [
            | inl f ↦ rw (e, f) (45 ∷ [], inr (inr refl), ap (λ (c : ℕ). c ∷ bs) (eqb-true b 45 f))
            | inr f ↦ rw (e, f) ([], inl refl, refl)
          ]
    ]

abbrev FractionThen : List ℕ → List ℕ → Type 0
FractionThen bs rest = (f : List ℕ) × IsFraction f × (bs ≡ f ++ rest)

fraction_found : (start end : ℕ) (bs rest : List ℕ) → fraction_at start end bs ≡ Ok rest → FractionThen bs rest
unfolding fraction_at
fraction_found start end [] rest h = ([], inl refl, cc)
fraction_found start end (b ∷ bs) rest h =
    elim (cases_Bool (eqb b 46)) [
      | inl e ↦
          let k : digits_at start end bs ≡ Ok rest = rw e at h in
          let r = some_digits start end bs rest k in
          let p : b ≡ 46 = eqb-true b 46 e in
          (46 ∷ r.0, inr (r.0, r.1, refl), ap (λ (c : ℕ). c ∷ bs) p ∙ ap (λ (l : List ℕ). 46 ∷ l) r.2)
      | inr e ↦
          let k : Ok (b ∷ bs) ≡ Ok rest = rw e at h in
          ([], inl refl, cc)
    ]

mark_case : (b : ℕ) (x y : Truth) → eqb b 101 ≡ x → eqb b 69 ≡ y → (x || y) ≡ true → (b ≡ 101) ⊎ (b ≡ 69)
mark_case b true y e f h = inl (eqb-true b 101 e)
mark_case b false true e f h = inr (eqb-true b 69 f)
mark_case b false false e f h = absurd cc

exponent_found : (start end : ℕ) (bs rest : List ℕ) → exponent_at start end bs ≡ Ok rest → (x : List ℕ) × IsExponent x × (bs ≡ x ++ rest)
unfolding exponent_at
exponent_found start end [] rest h = ([], inl refl, cc)
exponent_found start end (b ∷ bs) rest h =
    elim (cases_Bool (eqb b 101 || eqb b 69)) [
      | inl e ↦
          let k : digits_at start end (after_sign bs) ≡ Ok rest = rw e at h in
          let r = some_digits start end (after_sign bs) rest k in
          let s = sign_found bs in
          let is : bs ≡ (s.0 ++ r.0) ++ rest = s.2 ∙ ap (λ (l : List ℕ). s.0 ++ l) r.2 ∙ sym (append_assoc s.0 r.0 rest) in
          (b ∷ (s.0 ++ r.0), inr (b, s.0, r.0, mark_case b (eqb b 101) (eqb b 69) refl refl e, s.1, r.1, refl), ap (λ (l : List ℕ). b ∷ l) is)
      | inr e ↦
          let k : Ok (b ∷ bs) ≡ Ok rest = rw e at h in
          ([], inl refl, cc)
    ]

past_found : (start end : ℕ) (bs rest : List ℕ) → after_number start end bs ≡ Ok rest → (t : List ℕ) × IsNumber t × (bs ≡ t ++ rest)
unfolding after_number
past_found start end bs rest h =
    let m = minus_found bs in
    let one = bind_ok (whole_at start end (after_minus bs)) _ rest h in
    let two = bind_ok (fraction_at start end one.0) _ rest one.2 in
    let w = whole_found start end (after_minus bs) one.0 one.1 in
    let f = fraction_found start end one.0 two.0 two.1 in
    let x = exponent_found start end two.0 rest two.2 in
    let regroup : m.0 ++ (w.0 ++ (f.0 ++ (x.0 ++ rest))) ≡ (m.0 ++ (w.0 ++ (f.0 ++ x.0))) ++ rest = simp append_assoc in
    let is = m.2 ∙ ap (λ (l : List ℕ). m.0 ++ l) (w.2 ∙ ap (λ (l : List ℕ). w.0 ++ l) (f.2 ∙ ap (λ (l : List ℕ). f.0 ++ l) x.2)) in
    (m.0 ++ (w.0 ++ (f.0 ++ x.0)), (m.0, w.0, f.0, x.0, m.1, w.1, f.1, x.1, refl), is ∙ regroup)

text_case : (start : ℕ) (text rest t after : List ℕ) (b : Truth) → is_utf8 text ≡ b → ◌≡◌ {A = Taken (List ℕ)} (cond b (Ok (text, rest)) (Err start)) (Ok (t, after)) → (text ≡ t) × (rest ≡ after) × (is_utf8 text ≡ true)
text_case start text rest t after true e h = let p = taken_is text t rest after h in (p.0, p.1, e)
text_case start text rest t after false e h = absurd cc

pub text_found : (start : ℕ) (text rest t after : List ℕ) → as_text start text rest ≡ Ok (t, after) → (text ≡ t) × (rest ≡ after) × (is_utf8 text ≡ true)
text_found start text rest t after h = text_case start text rest t after (is_utf8 text) refl h

cut_is : (bs t rest : List ℕ) → bs ≡ t ++ rest → take (length bs - length rest) bs ≡ t
cut_is bs t rest e = subst (λ (l : List ℕ). take (length l - length rest) l ≡ t) (sym e) (taken t rest)

pub number_found : (start end : ℕ) (bs t rest : List ℕ) → number_at start end bs ≡ Ok (t, rest) → IsNumber t × (bs ≡ t ++ rest)
unfolding number_at
number_found start end bs t rest h =
    let one = bind_ok (after_number start end bs) _ (t, rest) h in
    let r = past_found start end bs one.0 one.1 in
    let k = text_found start (take (length bs - length one.0) bs) one.0 t rest one.2 in
    let is : r.0 ≡ t = sym (cut_is bs r.0 one.0 r.2) ∙ k.0 in
    (subst IsNumber is r.1, r.2 ∙ ap (λ (l : List ℕ). l ++ one.0) is ∙ ap (λ (l : List ℕ). t ++ l) k.1)

-- the bytes of a number
pub number_taken : (start end : ℕ) (bs rest : List ℕ) → after_number start end bs ≡ Ok rest → IsNumber (take (length bs - length rest) bs)
number_taken start end bs rest h = let r = past_found start end bs rest h in subst IsNumber (sym (cut_is bs r.0 rest r.2)) r.1
