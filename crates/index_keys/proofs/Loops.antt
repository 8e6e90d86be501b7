-- A loop that ends at the first element of its kind.
use Rattle.std.proofs.Common.{◌≡◌, ℕ, zero, suc, ◌<◌, List, [], ◌∷◌, length, map, get_or, Bool, true, false, ◌&&◌, ◌||◌, refl, sym, ap, ◌∙◌, arith}
use Rattle.std.specs.List.{list_all, list_any}

pub one_fails : {A : Type 0} (f : A → Bool) (xs : List A) (i : ℕ) (x : A) → i < length xs → x ≡ get_or xs i x → f x ≡ false → false ≡ list_all f xs
one_fails f [] i x lt at fails = absurd (omega arith)
one_fails f (y ∷ xs) zero x lt at fails = sym (ap (λ b. b && list_all f xs) (sym (ap f at) ∙ fails))
one_fails f (y ∷ xs) (suc i) x lt at fails = by (f y) (one_fails f xs i x (omega arith) at fails)
  where
    by : (b : Bool) → false ≡ list_all f xs → false ≡ (b && list_all f xs)
    by true e = e
    by false e = refl

pub one_passes : {A : Type 0} (f : A → Bool) (xs : List A) (i : ℕ) (x : A) → i < length xs → x ≡ get_or xs i x → f x ≡ true → true ≡ list_any f xs
one_passes f [] i x lt at passes = absurd (omega arith)
one_passes f (y ∷ xs) zero x lt at passes = sym (ap (λ b. b || list_any f xs) (sym (ap f at) ∙ passes))
one_passes f (y ∷ xs) (suc i) x lt at passes = by (f y) (one_passes f xs i x (omega arith) at passes)
  where
    by : (b : Bool) → true ≡ list_any f xs → true ≡ (b || list_any f xs)
    by false e = e
    by true e = refl

pub list_all-map : {A B : Type 0} (f : B → Bool) (h : A → B) (xs : List A) → list_all f (map h xs) ≡ list_all (λ x. f (h x)) xs
list_all-map f h [] = refl
list_all-map f h (x ∷ xs) = ap (λ b. f (h x) && b) (list_all-map f h xs)
