-- A text is cut at its first byte of a kind.
use Rattle.std.proofs.Common.{◌≡◌, ℕ, suc, ◌+◌, ◌<◌, ◌≤◌, Bool, true, false, List, [], ◌∷◌, ◌++◌, length, refl, ap, ◌∙◌, arith, inl, inr, length-append, get_or, eqb-true, eq-eqb}
use Rattle.std.specs.Prelude.{◌==◌, ◌&&◌, not}
use Rattle.std.specs.List.{position_or_len, before_first, after_first}
use Rattle.std.proofs.lemmas.Bool.{cases_Bool}
use Rattle.std.proofs.lemmas.List.{take_at, drop_at}
use Rattle.std.proofs.lemmas.List.Sums.{passes_at_first, split_at_first}
use Rattle.schedule_text.specs.Words.{lacks}

pub both : (a b : Bool) → a && b ≡ true → (a ≡ true) × (b ≡ true)
both true b e = (refl, e)
both false b e = (cc, cc)

pub both_true : (a b : Bool) → a ≡ true → b ≡ true → a && b ≡ true
both_true a b p q = rw (p, q) refl

pub not_true : (b : Bool) → not b ≡ true → b ≡ false
not_true true e = absurd cc
not_true false e = refl

abbrev pub is : ℕ → ℕ → Bool
is c b = b == c

-- the first such byte behind bytes that are none
pub first_behind : (c : ℕ) (w rest : List ℕ) → lacks c w ≡ true → position_or_len (is c) (w ++ rest) ≡ length w + position_or_len (is c) rest
first_behind c [] rest e = omega arith
first_behind c (b ∷ w) rest e =
    let p = both (not (b == c)) (lacks c w) e in
    rw (p.0, first_behind c w rest p.1) (omega arith)

pub first_of : (c : ℕ) (w rest : List ℕ) → lacks c w ≡ true → position_or_len (is c) (w ++ c ∷ rest) ≡ length w
first_of c w rest e =
    let same : (c == c) ≡ true = eq-eqb c c refl in
    let zeroth : position_or_len (is c) (c ∷ rest) ≡ 0 = rw same refl in
    omega (arith, first_behind c w (c ∷ rest) e, zeroth)

pub before_is : (c : ℕ) (w rest : List ℕ) → lacks c w ≡ true → before_first (is c) (w ++ c ∷ rest) ≡ w
before_is c w rest e = rw (first_of c w rest e) (take_at w (c ∷ rest) (length w) refl)

one_more : (c : ℕ) (xs ys : List ℕ) → xs ++ c ∷ ys ≡ (xs ++ c ∷ []) ++ ys
one_more c [] ys = refl
one_more c (x ∷ xs) ys = ap (λ (l : List ℕ). x ∷ l) (one_more c xs ys)

pub after_is : (c : ℕ) (w rest : List ℕ) → lacks c w ≡ true → after_first (is c) (w ++ c ∷ rest) ≡ rest
after_is c w rest e =
    rw (first_of c w rest e, one_more c w rest) (drop_at (w ++ c ∷ []) rest (length w + 1) (length-append w (c ∷ [])))

-- no such byte
pub first_none : (c : ℕ) (w : List ℕ) → lacks c w ≡ true → position_or_len (is c) w ≡ length w
first_none c [] e = refl
first_none c (b ∷ w) e =
    let p = both (not (b == c)) (lacks c w) e in
    rw (p.0, first_none c w p.1) (omega arith)

pub none_first : (c : ℕ) (w : List ℕ) → length w ≤ position_or_len (is c) w → lacks c w ≡ true
none_first c [] h = refl
none_first c (b ∷ w) h =
    elim (cases_Bool (not (b == c))) [
      | inl t ↦ let h' : length w ≤ position_or_len (is c) w = let g = rw t at h in omega (arith, g) in rw (t, none_first c w h') refl
      | inr f ↦ let g = rw f at h in absurd (omega (arith, g))
    ]

-- none of the bytes before the first such one is one
pub lacks_before : (c : ℕ) (w : List ℕ) → lacks c (before_first (is c) w) ≡ true
lacks_before c [] = refl
lacks_before c (b ∷ w) =
    elim (cases_Bool (not (b == c))) [
      | inl t ↦ let n : 1 + position_or_len (is c) w ≡ suc (position_or_len (is c) w) = omega arith in rw (t, n, t, lacks_before c w) refl
      | inr f ↦ rw f refl
    ]

-- the two sides of the first such byte
pub sides : (c : ℕ) (w : List ℕ) → position_or_len (is c) w < length w → w ≡ before_first (is c) w ++ c ∷ after_first (is c) w
sides c w h =
    let there : get_or w (position_or_len (is c) w) c ≡ c = eqb-true _ _ (passes_at_first (is c) w c h) in
    split_at_first (is c) w c h ∙ ap (λ (b : ℕ). before_first (is c) w ++ b ∷ after_first (is c) w) there
