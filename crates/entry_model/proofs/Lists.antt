-- What stands in a list that was picked, mapped, gathered, thinned or sorted.
use Rattle.std.proofs.Common.{◌≡◌, List, [], ◌∷◌, ◌++◌, Bool, true, false, refl, sym, ap, ◌∙◌, subst, arith, inl, inr}
use Rattle.std.specs.Prelude.{◌⊎◌, if◌then◌else◌, Option, Some, None}
use Rattle.std.proofs.lemmas.Grind.{common_steps}
use Rattle.std.proofs.lemmas.Slice.Eq.{bytes_eq-Decides}
use Rattle.doc_path.specs.declared.parts.Part.{Part}
use Rattle.doc_path.specs.declared.parts.Part.TheVariants.{Name as name, Index as index}
use Rattle.entry_model.specs.Edits.{In, onto, picked, mapped, gathered, same_part, without, once, is_before, inserted, rising}

pub one_part : (p q : Part) → same_part p q ≡ true → p ≡ q
one_part (name j) (name k) e = ap name ((bytes_eq-Decides j k).0 e)
one_part (name j) (index n) e = cc
one_part (index m) (name k) e = cc
one_part (index m) (index n) e = let f : m ≡ n = grind (arith, common_steps) in ap index f

pub own_part : (p : Part) → same_part p p ≡ true
own_part (name k) = (bytes_eq-Decides k k).1 refl
own_part (index n) = grind (arith, common_steps)

module _ {A : Type 0} where
  pub in_left : (xs ys : List A) (x : A) → In x xs → In x (xs ++ ys)
  in_left [] ys x h = absurd h
  in_left (z ∷ xs) ys x (inl e) = inl e
  in_left (z ∷ xs) ys x (inr h) = inr (in_left xs ys x h)

  pub in_right : (xs ys : List A) (x : A) → In x ys → In x (xs ++ ys)
  in_right [] ys x h = h
  in_right (z ∷ xs) ys x h = inr (in_right xs ys x h)

  pub in_either : (xs ys : List A) (x : A) → In x (xs ++ ys) → In x xs ⊎ In x ys
  in_either [] ys x h = inr h
  in_either (z ∷ xs) ys x (inl e) = inl (inl e)
  in_either (z ∷ xs) ys x (inr h) = more (in_either xs ys x h)
    where
      more : In x xs ⊎ In x ys → In x (z ∷ xs) ⊎ In x ys
      more (inl a) = inl (inr a)
      more (inr b) = inr b

module _ {A B : Type 0} where
  pub picked_in : (f : A → Option B) (xs : List A) (y : B) → In y (picked f xs) → (x : A) × In x xs × (f x ≡ Some y)
  picked_in f [] y h = absurd h
  picked_in f (x ∷ xs) y h = by (f x) refl h (λ g. picked_in f xs y g)
    where
      by : (o : Option B) → f x ≡ o → In y (onto o (picked f xs)) → (In y (picked f xs) → (x : A) × In x xs × (f x ≡ Some y)) → (z : A) × In z (x ∷ xs) × (f z ≡ Some y)
      by None e g ih = let r = ih g in (r.0, inr r.1, r.2)
      by (Some z) e (inl p) ih = (x, inl refl, e ∙ ap Some (sym p))
      by (Some z) e (inr g) ih = let r = ih g in (r.0, inr r.1, r.2)

  pub picked_has : (f : A → Option B) (xs : List A) (x : A) (y : B) → In x xs → f x ≡ Some y → In y (picked f xs)
  picked_has f [] x y h e = absurd h
  picked_has f (z ∷ xs) x y (inl p) e = subst (λ (o : Option B). In y (onto o (picked f xs))) (sym (ap f (sym p) ∙ e)) (inl refl)
  picked_has f (z ∷ xs) x y (inr h) e = by (f z) (picked_has f xs x y h e)
    where
      by : (o : Option B) → In y (picked f xs) → In y (onto o (picked f xs))
      by None i = i
      by (Some w) i = inr i

  pub mapped_in : (f : A → B) (xs : List A) (y : B) → In y (mapped f xs) → (x : A) × In x xs × (y ≡ f x)
  mapped_in f [] y h = absurd h
  mapped_in f (x ∷ xs) y (inl e) = (x, inl refl, e)
  mapped_in f (x ∷ xs) y (inr h) = let r = mapped_in f xs y h in (r.0, inr r.1, r.2)

  pub mapped_has : (f : A → B) (xs : List A) (x : A) → In x xs → In (f x) (mapped f xs)
  mapped_has f [] x h = absurd h
  mapped_has f (z ∷ xs) x (inl e) = inl (ap f e)
  mapped_has f (z ∷ xs) x (inr h) = inr (mapped_has f xs x h)

  pub gathered_in : (f : A → List B) (xs : List A) (y : B) → In y (gathered f xs) → (x : A) × In x xs × In y (f x)
  gathered_in f [] y h = absurd h
  gathered_in f (x ∷ xs) y h = by (in_either (f x) (gathered f xs) y h) (λ g. gathered_in f xs y g)
    where
      by : In y (f x) ⊎ In y (gathered f xs) → (In y (gathered f xs) → (z : A) × In z xs × In y (f z)) → (z : A) × In z (x ∷ xs) × In y (f z)
      by (inl a) ih = (x, inl refl, a)
      by (inr b) ih = let r = ih b in (r.0, inr r.1, r.2)

  pub gathered_has : (f : A → List B) (xs : List A) (x : A) (y : B) → In x xs → In y (f x) → In y (gathered f xs)
  gathered_has f [] x y h i = absurd h
  gathered_has f (z ∷ xs) x y (inl e) i = in_left (f z) (gathered f xs) y (subst (λ (w : A). In y (f w)) e i)
  gathered_has f (z ∷ xs) x y (inr h) i = in_right (f z) (gathered f xs) y (gathered_has f xs x y h i)

-- ---- parts, each once

pub without_in : (p : Part) (qs : List Part) (r : Part) → In r (without p qs) → In r qs
without_in p [] r h = absurd h
without_in p (q ∷ qs) r h = by (same_part q p) h (λ g. without_in p qs r g)
  where
    by : (b : Bool) → In r (if b then without p qs else q ∷ without p qs) → (In r (without p qs) → In r qs) → In r (q ∷ qs)
    by true g ih = inr (ih g)
    by false (inl e) ih = inl e
    by false (inr g) ih = inr (ih g)

without_has : (p : Part) (qs : List Part) (r : Part) → In r qs → (r ≡ p) ⊎ In r (without p qs)
without_has p [] r h = absurd h
without_has p (q ∷ qs) r (inl e) = by (same_part q p) refl
  where
    by : (b : Bool) → same_part q p ≡ b → (r ≡ p) ⊎ In r (if b then without p qs else q ∷ without p qs)
    by true f = inl (e ∙ one_part q p f)
    by false f = inr (inl e)
without_has p (q ∷ qs) r (inr h) = by (same_part q p) (without_has p qs r h)
  where
    by : (b : Bool) → (r ≡ p) ⊎ In r (without p qs) → (r ≡ p) ⊎ In r (if b then without p qs else q ∷ without p qs)
    by b (inl e) = inl e
    by true (inr g) = inr g
    by false (inr g) = inr (inr g)

pub once_in : (ps : List Part) (r : Part) → In r (once ps) → In r ps
once_in [] r h = absurd h
once_in (p ∷ ps) r (inl e) = inl e
once_in (p ∷ ps) r (inr h) = inr (once_in ps r (without_in p (once ps) r h))

pub once_has : (ps : List Part) (r : Part) → In r ps → In r (once ps)
once_has [] r h = absurd h
once_has (p ∷ ps) r (inl e) = inl e
once_has (p ∷ ps) r (inr h) = without_has p (once ps) r (once_has ps r h)

pub inserted_in : (p : Part) (qs : List Part) (r : Part) → In r (inserted p qs) → In r (p ∷ qs)
inserted_in p [] r h = h
inserted_in p (q ∷ qs) r h = by (is_before q p) h (λ g. inserted_in p qs r g)
  where
    more : In r (p ∷ qs) → In r (p ∷ (q ∷ qs))
    more (inl e) = inl e
    more (inr g) = inr (inr g)

    by : (b : Bool) → In r (if b then q ∷ inserted p qs else p ∷ (q ∷ qs)) → (In r (inserted p qs) → In r (p ∷ qs)) → In r (p ∷ (q ∷ qs))
    by true (inl e) ih = inr (inl e)
    by true (inr g) ih = more (ih g)
    by false g ih = g

inserted_has : (p : Part) (qs : List Part) (r : Part) → In r (p ∷ qs) → In r (inserted p qs)
inserted_has p [] r h = h
inserted_has p (q ∷ qs) r h = by (is_before q p) h (λ g. inserted_has p qs r g)
  where
    by : (b : Bool) → In r (p ∷ (q ∷ qs)) → (In r (p ∷ qs) → In r (inserted p qs)) → In r (if b then q ∷ inserted p qs else p ∷ (q ∷ qs))
    by true (inl e) ih = inr (ih (inl e))
    by true (inr (inl e)) ih = inl e
    by true (inr (inr g)) ih = inr (ih (inr g))
    by false g ih = g

pub rising_in : (ps : List Part) (r : Part) → In r (rising ps) → In r ps
rising_in [] r h = absurd h
rising_in (p ∷ ps) r h = by (inserted_in p (rising ps) r h) (λ g. rising_in ps r g)
  where
    by : In r (p ∷ rising ps) → (In r (rising ps) → In r ps) → In r (p ∷ ps)
    by (inl e) ih = inl e
    by (inr g) ih = inr (ih g)

pub rising_has : (ps : List Part) (r : Part) → In r ps → In r (rising ps)
rising_has [] r h = absurd h
rising_has (p ∷ ps) r (inl e) = inserted_has p (rising ps) r (inl e)
rising_has (p ∷ ps) r (inr h) = inserted_has p (rising ps) r (inr (rising_has ps r h))
