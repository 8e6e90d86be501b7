-- Places of the first elements of a kind.
use Rattle.std.proofs.Common.{◌≡◌, ℕ, zero, suc, ◌<◌, List, [], ◌∷◌, ◌++◌, length, map, get_or, take, Bool, true, false, refl, sym, ap, ◌∙◌, arith, Option, Some, None}
use Rattle.std.specs.Prelude.{◌||◌, option_map, if◌then◌else◌}
use Rattle.index_build.specs.Repeats.{first_where}
use Rattle.index_build.specs.Faults.{or_else}
use Rattle.index_build.specs.Owners.{place_where, lesser}

zero_lesser : (o : Option ℕ) → lesser (Some 0) (option_map suc o) ≡ Some 0
zero_lesser None = refl
zero_lesser (Some b) = ap Some (omega arith)

lesser_zero : (o : Option ℕ) → lesser (option_map suc o) (Some 0) ≡ Some 0
lesser_zero None = refl
lesser_zero (Some a) = ap Some (omega arith)

both_later : (o u : Option ℕ) → lesser (option_map suc o) (option_map suc u) ≡ option_map suc (lesser o u)
both_later None u = refl
both_later (Some a) None = refl
both_later (Some a) (Some b) = ap Some (omega arith)

module _ {A : Type 0} where
  pub no_place : (xs : List A) → place_where (λ x. false) xs ≡ None
  no_place [] = refl
  no_place (x ∷ xs) = ap (option_map suc) (no_place xs)

  -- the first of either kind is the lesser of both
  pub place_either : (p q : A → Bool) (xs : List A) → lesser (place_where p xs) (place_where q xs) ≡ place_where (λ x. p x || q x) xs
  place_either p q [] = refl
  place_either p q (x ∷ xs) = by (p x) (q x) (place_either p q xs)
    where
      by : (a b : Bool) → lesser (place_where p xs) (place_where q xs) ≡ place_where (λ x. p x || q x) xs →
          lesser (if a then Some 0 else option_map suc (place_where p xs)) (if b then Some 0 else option_map suc (place_where q xs)) ≡ (if a || b then Some 0 else option_map suc (place_where (λ x. p x || q x) xs))
      by true true h = refl
      by true false h = zero_lesser (place_where q xs)
      by false true h = lesser_zero (place_where p xs)
      by false false h = both_later (place_where p xs) (place_where q xs) ∙ ap (option_map suc) h

  pub same_places : (p q : A → Bool) (xs : List A) → ((x : A) → p x ≡ q x) → place_where p xs ≡ place_where q xs
  same_places p q xs h = ap (λ (f : A → Bool). place_where f xs) (λ i x. h x i)

  -- behind what there was, where it wasn't
  pub place_more : (p : A → Bool) (xs : List A) (x : A) → place_where p (xs ++ x ∷ []) ≡ or_else (place_where p xs) (if p x then Some (length xs) else None)
  place_more p [] x = by (p x)
    where
      by : (b : Bool) → ◌≡◌ {A = Option ℕ} (if b then Some 0 else None) (if b then Some 0 else None)
      by b = refl
  place_more p (y ∷ xs) x = by (p y) (place_more p xs x)
    where
      later : (o : Option ℕ) (b : Bool) → option_map suc (or_else o (if b then Some (length xs) else None)) ≡ or_else (option_map suc o) (if b then Some (suc (length xs)) else None)
      later (Some a) b = refl
      later None true = refl
      later None false = refl

      by : (b : Bool) → place_where p (xs ++ x ∷ []) ≡ or_else (place_where p xs) (if p x then Some (length xs) else None) →
          (if b then Some 0 else option_map suc (place_where p (xs ++ x ∷ []))) ≡ or_else (if b then Some 0 else option_map suc (place_where p xs)) (if p x then Some (suc (length xs)) else None)
      by true h = refl
      by false h = ap (option_map suc) h ∙ later (place_where p xs) (p x)

  pub place_below : (p : A → Bool) (xs : List A) (a : ℕ) → place_where p xs ≡ Some a → a < length xs
  place_below p [] a e = cc
  place_below p (x ∷ xs) a e = by (p x) (λ b q. place_below p xs b q) e
    where
      below : (o : Option ℕ) → place_where p xs ≡ o → ((b : ℕ) → place_where p xs ≡ Some b → b < length xs) → option_map suc o ≡ Some a → a < suc (length xs)
      below None q later f = cc
      below (Some b) q later f = let is : suc b ≡ a = cc in let lt = later b q in omega arith

      by : (b : Bool) → ((b : ℕ) → place_where p xs ≡ Some b → b < length xs) → (if b then Some 0 else option_map suc (place_where p xs)) ≡ Some a → a < suc (length xs)
      by true later f = let is : 0 ≡ a = cc in omega arith
      by false later f = below (place_where p xs) refl later f

  -- the element at the place
  pub first_at_place : (p : A → Bool) (xs : List A) (d : A) → first_where p xs ≡ option_map (λ a. get_or xs a d) (place_where p xs)
  first_at_place p [] d = refl
  first_at_place p (x ∷ xs) d = by (p x) (first_at_place p xs d)
    where
      later : (o : Option ℕ) → option_map (λ a. get_or xs a d) o ≡ option_map (λ a. get_or (x ∷ xs) a d) (option_map suc o)
      later None = refl
      later (Some a) = refl

      by : (b : Bool) → first_where p xs ≡ option_map (λ a. get_or xs a d) (place_where p xs) →
          (if b then Some x else first_where p xs) ≡ option_map (λ a. get_or (x ∷ xs) a d) (if b then Some 0 else option_map suc (place_where p xs))
      by true h = refl
      by false h = h ∙ later (place_where p xs)

  pub first_more : (p : A → Bool) (xs : List A) (x : A) → first_where p (xs ++ x ∷ []) ≡ or_else (first_where p xs) (if p x then Some x else None)
  first_more p [] x = refl
  first_more p (y ∷ xs) x = by (p y) (first_more p xs x)
    where
      by : (b : Bool) → first_where p (xs ++ x ∷ []) ≡ or_else (first_where p xs) (if p x then Some x else None) →
          (if b then Some y else first_where p (xs ++ x ∷ [])) ≡ or_else (if b then Some y else first_where p xs) (if p x then Some x else None)
      by true h = refl
      by false h = h

pub place_map : {A B : Type 0} (f : A → B) (p : B → Bool) (xs : List A) → place_where p (map f xs) ≡ place_where (λ x. p (f x)) xs
place_map f p [] = refl
place_map f p (x ∷ xs) = ap (λ (o : Option ℕ). if p (f x) then Some 0 else option_map suc o) (place_map f p xs)

-- none before it, and it itself
pub first_here : {A B : Type 0} (f : A → B) (p : B → Bool) (xs : List A) (i : ℕ) (x : A) → i < length xs → x ≡ get_or xs i x → first_where p (map f (take i xs)) ≡ None → p (f x) ≡ true → first_where p (map f xs) ≡ Some (f x)
first_here f p [] i x lt at none is = absurd (omega arith)
first_here f p (y ∷ xs) zero x lt at none is = let same : p (f y) ≡ true = ap (λ z. p (f z)) (sym at) ∙ is in rw same (ap (λ z. Some (f z)) (sym at))
first_here f p (y ∷ xs) (suc i) x lt at none is = by (p (f y)) none (λ h. first_here f p xs i x (omega arith) at h is)
  where
    by : (b : Bool) → (if b then Some (f y) else first_where p (map f (take i xs))) ≡ None → (first_where p (map f (take i xs)) ≡ None → first_where p (map f xs) ≡ Some (f x)) → (if b then Some (f y) else first_where p (map f xs)) ≡ Some (f x)
    by true e h = cc
    by false e h = h e
