-- A number or a word with which the text ends can be completed.
use Rattle.std.proofs.Common.{◌≡◌, ◌≢◌, ℕ, ◌-◌, true, ◌||◌, eqb, List, [], ◌∷◌, ◌++◌, length, take, Result, Ok, Err, refl, sym, ap, ◌∙◌, inl, inr, append_assoc}
use Rattle.std.specs.Str.{is_utf8}
use Rattle.std.proofs.lemmas.Bool.{cases_Bool, eq-eqb, eqb-true}
use Rattle.json_tree.specs.Numbers.{is_digit}
use Rattle.json_text.specs.Reading.{◌>>=◌, Taken, word_at, after_digits, digits_at, whole_at, after_minus, after_sign, fraction_at, exponent_at, after_number, as_text, number_at}
use Rattle.json_text.proofs.Found.{number_taken}
use Rattle.json_text.proofs.Numerals.{taken}
use Rattle.json_faults.proofs.Decisions.{Clean, err_is, value_is_none, bind_err}
use Rattle.json_faults.proofs.Numbers.{clean_digits, clean_fraction, clean_exponent, text_utf8}

module _ (start p : ℕ) (late : p ≢ start) where
  not_start : {A : Type 0} → ◌≡◌ {A = Result A ℕ} (Err start) (Err p) → ⊥
  not_start {A} h = late (sym (err_is {A = A} start p h))

  -- ---- what was read before the fault is read before more too

  digits_more : (r z : List ℕ) (b : ℕ) (r1 : List ℕ) → after_digits r ≡ b ∷ r1 → after_digits (r ++ z) ≡ b ∷ (r1 ++ z)
  unfolding after_digits
  digits_more [] z b r1 h = absurd cc
  digits_more (c ∷ r) z b r1 h =
      elim (cases_Bool (is_digit c)) [
        | inl e ↦ let k : after_digits r ≡ b ∷ r1 = rw e at h in rw e (digits_more r z b r1 k)
        | inr e ↦ let k : c ∷ r ≡ b ∷ r1 = rw e at h in rw e (ap (λ (l : List ℕ). l ++ z) k)
      ]

  ok_list : (u v : List ℕ) → ◌≡◌ {A = Result (List ℕ) ℕ} (Ok u) (Ok v) → u ≡ v
  ok_list u v h = cc

  some_more : (end other : ℕ) (r z : List ℕ) (b : ℕ) (r1 : List ℕ) → digits_at start end r ≡ Ok (b ∷ r1) → digits_at start other (r ++ z) ≡ Ok (b ∷ (r1 ++ z))
  unfolding digits_at
  some_more end other [] z b r1 h = absurd cc
  some_more end other (c ∷ r) z b r1 h =
      elim (cases_Bool (is_digit c)) [
        | inl e ↦
            let k : Ok (after_digits r) ≡ Ok (b ∷ r1) = rw e at h in
            rw e (ap (λ (l : List ℕ). Ok l) (digits_more r z b r1 (ok_list (after_digits r) (b ∷ r1) k)))
        | inr e ↦ let k : Err start ≡ Ok (b ∷ r1) = rw e at h in absurd cc
      ]

  whole_more : (end other : ℕ) (r z : List ℕ) (b : ℕ) (r1 : List ℕ) → whole_at start end r ≡ Ok (b ∷ r1) → whole_at start other (r ++ z) ≡ Ok (b ∷ (r1 ++ z))
  unfolding whole_at
  whole_more end other [] z b r1 h = absurd cc
  whole_more end other (c ∷ r) z b r1 h =
      elim (cases_Bool (eqb c 48)) [
        | inl e ↦ let k : Ok r ≡ Ok (b ∷ r1) = rw e at h in rw e (ap (λ (l : List ℕ). Ok (l ++ z)) (ok_list r (b ∷ r1) k))
        | inr e ↦ let k : digits_at start end (c ∷ r) ≡ Ok (b ∷ r1) = rw e at h in rw e (some_more end other (c ∷ r) z b r1 k)
      ]

  fraction_more : (end other : ℕ) (r z : List ℕ) (b : ℕ) (r1 : List ℕ) → fraction_at start end r ≡ Ok (b ∷ r1) → fraction_at start other (r ++ z) ≡ Ok (b ∷ (r1 ++ z))
  unfolding fraction_at
  fraction_more end other [] z b r1 h = absurd cc
  fraction_more end other (c ∷ r) z b r1 h =
      elim (cases_Bool (eqb c 46)) [
        | inl e ↦ let k : digits_at start end r ≡ Ok (b ∷ r1) = rw e at h in rw e (some_more end other r z b r1 k)
        | inr e ↦ let k : Ok (c ∷ r) ≡ Ok (b ∷ r1) = rw e at h in rw e (ap (λ (l : List ℕ). Ok (l ++ z)) (ok_list (c ∷ r) (b ∷ r1) k))
      ]

  minus_more : (bytes z : List ℕ) → after_minus (bytes ++ 48 ∷ z) ≡ after_minus bytes ++ 48 ∷ z
  unfolding after_minus
  minus_more [] z = refl
  minus_more (b ∷ bytes) z = elim (cases_Bool (eqb b 45)) [ inl e ↦ rw e refl | inr e ↦ rw e refl ]

  -- ---- a part with which the text ends, and a digit behind it

  digits_end : (end : ℕ) (bs : List ℕ) → digits_at start end bs ≡ Err p → (p ≡ end) × (bs ≡ [])
  unfolding digits_at
  digits_end end [] h = (sym (err_is {A = List ℕ} end p h), refl)
  digits_end end (b ∷ bs) h =
      elim (cases_Bool (is_digit b)) [
        | inl e ↦ let k : Ok (after_digits bs) ≡ Err p = rw e at h in absurd (value_is_none (after_digits bs) p k)
        | inr e ↦ let k : ◌≡◌ {A = Result (List ℕ) ℕ} (Err start) (Err p) = rw e at h in absurd (not_start k)
      ]

  digit_read : (end : ℕ) (w : List ℕ) → Clean w → digits_at start end (48 ∷ w) ≡ Ok w
  unfolding digits_at
  digit_read end w c = ap (λ (l : List ℕ). Ok l) (clean_digits w c)

  whole_end : (end : ℕ) (bs : List ℕ) → whole_at start end bs ≡ Err p → (p ≡ end) × (bs ≡ [])
  unfolding whole_at
  whole_end end [] h = (sym (err_is {A = List ℕ} end p h), refl)
  whole_end end (b ∷ bs) h =
      elim (cases_Bool (eqb b 48)) [
        | inl e ↦ let k : Ok bs ≡ Err p = rw e at h in absurd (value_is_none bs p k)
        | inr e ↦ let k : digits_at start end (b ∷ bs) ≡ Err p = rw e at h in digits_end end (b ∷ bs) k
      ]

  zero_read : (end : ℕ) (w : List ℕ) → whole_at start end (48 ∷ w) ≡ Ok w
  unfolding whole_at
  zero_read end w = refl

  -- a part that can be completed by a digit; it isn't empty
  record IsCut (f : ℕ → List ℕ → Result (List ℕ) ℕ) (end : ℕ) (bs : List ℕ) : Type 0 where
    at : p ≡ end
    first : ℕ
    rest : List ℕ
    some : bs ≡ first ∷ rest
    read : (other : ℕ) (w : List ℕ) → Clean w → f other (bs ++ 48 ∷ w) ≡ Ok w

  fraction_cut : (end : ℕ) (bs : List ℕ) → fraction_at start end bs ≡ Err p → IsCut (fraction_at start) end bs
  unfolding fraction_at
  fraction_cut end [] h = absurd (value_is_none [] p h)
  fraction_cut end (b ∷ bs) h =
      elim (cases_Bool (eqb b 46)) [
        | inl e ↦
            let k : digits_at start end bs ≡ Err p = rw e at h in
            let q = digits_end end bs k in
            record { at = q.0; first = b; rest = bs; some = refl; read = λ other w c. rw e (ap (λ (l : List ℕ). digits_at start other (l ++ 48 ∷ w)) q.1 ∙ digit_read other w c) }
        | inr e ↦ let k : Ok (b ∷ bs) ≡ Err p = rw e at h in absurd (value_is_none (b ∷ bs) p k)
      ]

  sign_end : (bs w : List ℕ) → after_sign bs ≡ [] → after_sign (bs ++ 48 ∷ w) ≡ 48 ∷ w
  unfolding after_sign
  sign_end [] w h = refl
  sign_end (b ∷ bs) w h =
      elim (cases_Bool (eqb b 43 || eqb b 45)) [
        | inl e ↦ let k : bs ≡ [] = rw e at h in rw e (ap (λ (l : List ℕ). l ++ 48 ∷ w) k)
        | inr e ↦ let k : b ∷ bs ≡ [] = rw e at h in absurd cc
      ]

  exponent_cut : (end : ℕ) (bs : List ℕ) → exponent_at start end bs ≡ Err p → IsCut (exponent_at start) end bs
  unfolding exponent_at
  exponent_cut end [] h = absurd (value_is_none [] p h)
  exponent_cut end (b ∷ bs) h =
      elim (cases_Bool (eqb b 101 || eqb b 69)) [
        | inl e ↦
            let k : digits_at start end (after_sign bs) ≡ Err p = rw e at h in
            let q = digits_end end (after_sign bs) k in
            record { at = q.0; first = b; rest = bs; some = refl; read = λ other w c. rw e (ap (digits_at start other) (sign_end bs w q.1) ∙ digit_read other w c) }
        | inr e ↦ let k : Ok (b ∷ bs) ≡ Err p = rw e at h in absurd (value_is_none (b ∷ bs) p k)
      ]

  -- ---- the whole number

  pub record CutNumber (end : ℕ) (bs : List ℕ) : Type 0 where
    pub at : p ≡ end
    pub read : (other : ℕ) (w : List ℕ) → Clean w → number_at start other (bs ++ 48 ∷ w) ≡ Ok (bs ++ 48 ∷ [], w)

  abbrev Past : List ℕ → Type 0
  Past bs = (other : ℕ) (w : List ℕ) → Clean w → after_number start other (bs ++ 48 ∷ w) ≡ Ok w

  whole_cut : (bs : List ℕ) → after_minus bs ≡ [] → Past bs
  unfolding after_number
  whole_cut bs e other w c =
      let here : after_minus (bs ++ 48 ∷ w) ≡ 48 ∷ w = minus_more bs w ∙ ap (λ (l : List ℕ). l ++ 48 ∷ w) e in
      rw (here, zero_read other w, clean_fraction start other w c) (clean_exponent start other w c)

  point_cut : (end : ℕ) (bs r1 : List ℕ) → whole_at start end (after_minus bs) ≡ Ok r1 → IsCut (fraction_at start) end r1 → Past bs
  unfolding after_number
  point_cut end bs r1 h k other w c =
      let from : whole_at start end (after_minus bs) ≡ Ok (k.first ∷ k.rest) = h ∙ ap (λ (l : List ℕ). Ok l) k.some in
      let here : whole_at start other (after_minus (bs ++ 48 ∷ w)) ≡ Ok (r1 ++ 48 ∷ w) = ap (whole_at start other) (minus_more bs w) ∙ (whole_more end other (after_minus bs) (48 ∷ w) k.first k.rest from ∙ ap (λ (l : List ℕ). Ok (l ++ 48 ∷ w)) (sym k.some)) in
      rw (here, k.read other w c) (clean_exponent start other w c)

  no_fraction : (end : ℕ) (r2 : List ℕ) (b : ℕ) (r : List ℕ) → fraction_at start end [] ≡ Ok r2 → r2 ≡ b ∷ r → ⊥
  unfolding fraction_at
  no_fraction end r2 b r f e = let is : [] ≡ r2 = ok_list [] r2 f in absurd cc

  mark_cut : (end : ℕ) (bs r1 r2 : List ℕ) → whole_at start end (after_minus bs) ≡ Ok r1 → fraction_at start end r1 ≡ Ok r2 → IsCut (exponent_at start) end r2 → Past bs
  unfolding after_number
  mark_cut end bs [] r2 h f k other w c = absurd (no_fraction end r2 k.first k.rest f k.some)
  mark_cut end bs (b ∷ r1) r2 h f k other w c =
      let behind : fraction_at start end (b ∷ r1) ≡ Ok (k.first ∷ k.rest) = f ∙ ap (λ (l : List ℕ). Ok l) k.some in
      let here : whole_at start other (after_minus (bs ++ 48 ∷ w)) ≡ Ok ((b ∷ r1) ++ 48 ∷ w) = ap (whole_at start other) (minus_more bs w) ∙ whole_more end other (after_minus bs) (48 ∷ w) b r1 h in
      let next : fraction_at start other ((b ∷ r1) ++ 48 ∷ w) ≡ Ok (r2 ++ 48 ∷ w) = fraction_more end other (b ∷ r1) (48 ∷ w) k.first k.rest behind ∙ ap (λ (l : List ℕ). Ok (l ++ 48 ∷ w)) (sym k.some) in
      rw (here, next) (k.read other w c)

  past_cut : (end : ℕ) (bs : List ℕ) → after_number start end bs ≡ Err p → (p ≡ end) × Past bs
  unfolding after_number
  past_cut end bs h =
      elim (bind_err (whole_at start end (after_minus bs)) (λ whole. fraction_at start end whole >>= λ fraction. exponent_at start end fraction) p h) [
        | inl k ↦ let q = whole_end end (after_minus bs) k in (q.0, whole_cut bs q.1)
        | inr one ↦
            elim (bind_err (fraction_at start end one.0) (λ fraction. exponent_at start end fraction) p one.2) [
              | inl k ↦ let q = fraction_cut end one.0 k in (q.at, point_cut end bs one.0 one.1 q)
              | inr two ↦ let q = exponent_cut end two.0 two.2 in (q.at, mark_cut end bs one.0 two.0 one.1 two.1 q)
            ]
      ]

  text_read : (other : ℕ) (bs w : List ℕ) → after_number start other (bs ++ 48 ∷ w) ≡ Ok w → number_at start other (bs ++ 48 ∷ w) ≡ Ok (bs ++ 48 ∷ [], w)
  unfolding number_at
  text_read other bs w h =
      let split : bs ++ 48 ∷ w ≡ (bs ++ 48 ∷ []) ++ w = sym (append_assoc bs (48 ∷ []) w) in
      let is : take (length (bs ++ 48 ∷ w) - length w) (bs ++ 48 ∷ w) ≡ bs ++ 48 ∷ [] = ap (λ (l : List ℕ). take (length l - length w) l) split ∙ taken (bs ++ 48 ∷ []) w in
      let utf8 : is_utf8 (bs ++ 48 ∷ []) ≡ true = sym (ap is_utf8 is) ∙ text_utf8 start _ (number_taken start other (bs ++ 48 ∷ w) w h) in
      rw (h, is, utf8) refl

  pub cut_number : (end : ℕ) (bs : List ℕ) → number_at start end bs ≡ Err p → CutNumber end bs
  unfolding number_at
  cut_number end bs h =
      elim (bind_err (after_number start end bs) (λ rest. as_text start (take (length bs - length rest) bs) rest) p h) [
        | inl k ↦ let q = past_cut end bs k in record { at = q.0; read = λ other w c. text_read other bs w (q.1 other w c) }
        | inr one ↦
            let u = text_utf8 start _ (number_taken start end bs one.0 one.1) in
            let k : ◌≡◌ {A = Taken (List ℕ)} (Ok (take (length bs - length one.0) bs, one.0)) (Err p) = rw u at one.2 in
            absurd (value_is_none (take (length bs - length one.0) bs, one.0) p k)
      ]

  -- ---- words

  word_self : (word : List ℕ) (end : ℕ) (w : List ℕ) → word_at word start end (word ++ w) ≡ Ok w
  unfolding word_at
  word_self [] end w = refl
  word_self (b ∷ word) end w = rw (same b) (word_self word end w)
    where
      same : (b : ℕ) → eqb b b ≡ true
      same b = eq-eqb b b refl

  pub record CutWord (word : List ℕ) (end : ℕ) (bs : List ℕ) : Type 0 where
    pub at : p ≡ end
    pub more : List ℕ
    pub whole : word ≡ bs ++ more
    pub read : (other : ℕ) (w : List ℕ) → word_at word start other (bs ++ (more ++ w)) ≡ Ok w

  pub cut_word : (word : List ℕ) (end : ℕ) (bs : List ℕ) → word_at word start end bs ≡ Err p → CutWord word end bs
  unfolding word_at
  cut_word [] end bs h = absurd (value_is_none bs p h)
  cut_word (b ∷ word) end [] h = record { at = sym (err_is {A = List ℕ} end p h); more = b ∷ word; whole = refl; read = λ other w. word_self (b ∷ word) other w }
  cut_word (b ∷ word) end (c ∷ bs) h =
      elim (cases_Bool (eqb c b)) [
        | inl e ↦
            let k : word_at word start end bs ≡ Err p = rw e at h in
            let q = cut_word word end bs k in
            let is : c ≡ b = eqb-true c b e in
            record { at = q.at; more = q.more; whole = λ i. sym is i ∷ q.whole i; read = λ other w. rw e (q.read other w) }
        | inr e ↦ let k : ◌≡◌ {A = Result (List ℕ) ℕ} (Err start) (Err p) = rw e at h in absurd (not_start k)
      ]
