-- The first two elements that pass a test.
use Rattle.std.proofs.Common.{◌≡◌, ℕ, zero, suc, ◌<◌, ◌≤◌, ◌+◌, List, [], ◌∷◌, ◌++◌, length, take, get_or, Bool, true, false, cond, Option, Some, None, refl, sym, ap, ◌∙◌, append-nil, arith}
use Rattle.std.specs.Prelude.{filter}
use Rattle.std.proofs.lemmas.List.{take_all}
use Rattle.std.proofs.lemmas.List.Elements.{filter_more}
use Rattle.index_keys.specs.Branches.{Path}
use Rattle.index_keys.specs.Keys.{first_two}

-- one or none, as a list
abbrev pub listed : Option Path → List Path
listed None = []
listed (Some p) = p ∷ []

found : (f : Path → Bool) (xs : List Path) (i : ℕ) (q : Path) → i < length xs → q ≡ get_or xs i q → f q ≡ true → (rest : List Path) × (filter f xs ≡ filter f (take i xs) ++ q ∷ rest)
found f [] i q lt at m = absurd (omega arith)
found f (x ∷ xs) zero q lt at m =
    (filter f xs, ap (λ b. cond b (x ∷ filter f xs) (filter f xs)) (sym (ap f at) ∙ m) ∙ ap (λ (z : Path). z ∷ filter f xs) (sym at))
found f (x ∷ xs) (suc i) q lt at m = by (f x) (found f xs i q (omega arith) at m)
  where
    by : (b : Bool) → (rest : List Path) × (filter f xs ≡ filter f (take i xs) ++ q ∷ rest) →
        (rest : List Path) × (cond b (x ∷ filter f xs) (filter f xs) ≡ cond b (x ∷ filter f (take i xs)) (filter f (take i xs)) ++ q ∷ rest)
    by true r = (r.0, ap (λ (l : List Path). x ∷ l) r.1)
    by false r = r

pub second_meets : (f : Path → Bool) (xs : List Path) (i : ℕ) (p q : Path) → i < length xs → q ≡ get_or xs i q → f q ≡ true → listed (Some p) ≡ filter f (take i xs) → Some (p, q) ≡ first_two (filter f xs)
second_meets f xs i p q lt at m is =
    let r = found f xs i q lt at m in
    ap (λ (l : List Path). first_two (l ++ q ∷ r.0)) is ∙ ap first_two (sym r.1)

one_or_none : (o : Option Path) → None ≡ first_two (listed o)
one_or_none None = refl
one_or_none (Some p) = refl

pub fewer_meet : (f : Path → Bool) (xs : List Path) (i : ℕ) (o : Option Path) → length xs ≤ i → listed o ≡ filter f (take i xs) → None ≡ first_two (filter f xs)
fewer_meet f xs i o le is = one_or_none o ∙ ap first_two (is ∙ ap (filter f) (take_all i xs le))

pub first_meets : (f : Path → Bool) (xs : List Path) (i : ℕ) (q : Path) (o : Option Path) → i < length xs → q ≡ get_or xs i q → f q ≡ true → o ≡ None → listed o ≡ filter f (take i xs) → listed (Some q) ≡ filter f (take (i + 1) xs)
first_meets f xs i q o lt at m n is =
    let one : filter f (take (i + 1) xs) ≡ filter f (take i xs) ++ cond (f q) (q ∷ []) [] = filter_more f xs i q lt ∙ rw (← at) refl in
    sym (one ∙ (λ j. (sym is ∙ ap listed n) j ++ cond (m j) (q ∷ []) []))

pub none_more : (f : Path → Bool) (xs : List Path) (i : ℕ) (q : Path) (o : Option Path) → i < length xs → q ≡ get_or xs i q → f q ≡ false → listed o ≡ filter f (take i xs) → listed o ≡ filter f (take (i + 1) xs)
none_more f xs i q o lt at m is =
    let one : filter f (take (i + 1) xs) ≡ filter f (take i xs) ++ cond (f q) (q ∷ []) [] = filter_more f xs i q lt ∙ rw (← at) refl in
    sym (one ∙ ((λ j. sym is j ++ cond (m j) (q ∷ []) []) ∙ append-nil (listed o)))
