-- An element of a chunk, as one of the whole list, and as the one that is sought.
use Rattle.std.proofs.Common.{◌≡◌, ℕ, zero, suc, ◌<◌, List, [], ◌∷◌, ◌++◌, length, refl, sym, ap, ◌∙◌, arith, Some}
use Rattle.std.specs.Prelude.{slice_index_or, slice_get, slice_set}
use Rattle.std.specs.declared.cmp.Ordering.{Ordering}
use Rattle.std.specs.declared.cmp.Ordering.TheVariants.{Equal}
use Rattle.sorted_list.specs.Order.{IsOrdered, IsFound, found, set_in}
use Rattle.sorted_list.specs.Chunks.{joined, StandsAt}
use Rattle.sorted_list.proofs.Order.{found_at, set_at}
use Rattle.sorted_list.proofs.Edits.{some_is, none_some}

module _ {T : Type 0} where
  within : (xs : List T) (i : ℕ) (x : T) → slice_get xs i ≡ Some x → i < length xs
  within [] i x g = absurd (none_some x g)
  within (y ∷ xs) zero x g = omega arith
  within (y ∷ xs) (suc i) x g = let l = within xs i x g in omega arith

  there : (xs : List T) (i : ℕ) (x d : T) → slice_get xs i ≡ Some x → slice_index_or xs i d ≡ x
  there [] i x d g = absurd (none_some x g)
  there (y ∷ xs) zero x d g = some_is y x g
  there (y ∷ xs) (suc i) x d g = there xs i x d g

  front : (xs ys : List T) (i : ℕ) (x : T) → slice_get xs i ≡ Some x → slice_get (xs ++ ys) i ≡ Some x
  front [] ys i x g = absurd (none_some x g)
  front (y ∷ xs) ys zero x g = g
  front (y ∷ xs) ys (suc i) x g = front xs ys i x g

  front_set : (xs ys : List T) (i : ℕ) (x y : T) → slice_get xs i ≡ Some x → slice_set xs i y ++ ys ≡ slice_set (xs ++ ys) i y
  front_set [] ys i x y g = absurd (none_some x g)
  front_set (z ∷ xs) ys zero x y g = refl
  front_set (z ∷ xs) ys (suc i) x y g = ap (λ (l : List T). z ∷ l) (front_set xs ys i x y g)

  -- an element has an index in the whole list, at which it is replaced where it is replaced in its chunk
  abbrev IsWithin : List (List T) → ℕ → List T → ℕ → T → ℕ → Type 0
  IsWithin cs n c i x m = (slice_get (joined cs) m ≡ Some x) × ((y : T) → joined (slice_set cs n (slice_set c i y)) ≡ slice_set (joined cs) m y)

  behind : (d : List T) (cs : List (List T)) (n : ℕ) (c : List T) (i : ℕ) (x : T) → (m : ℕ) × IsWithin cs n c i x m → (m : ℕ) × IsWithin (d ∷ cs) (suc n) c i x m
  behind [] cs n c i x w = w
  behind (z ∷ d) cs n c i x w = let r = behind d cs n c i x w in (suc r.0, (r.1.0, λ y. ap (λ (l : List T). z ∷ l) (r.1.1 y)))

  pub in_chunk : (cs : List (List T)) (n : ℕ) (c : List T) (i : ℕ) (x : T) → slice_get cs n ≡ Some c → slice_get c i ≡ Some x → (m : ℕ) × IsWithin cs n c i x m
  in_chunk [] n c i x g h = absurd (none_some c g)
  in_chunk (d ∷ cs) zero c i x g h = rw (some_is d c g) (i, (front c (joined cs) i x h, λ y. front_set c (joined cs) i x y h))
  in_chunk (d ∷ cs) (suc n) c i x g h = behind d cs n c i x (in_chunk cs n c i x g h)

  -- what is sought, wherever it was looked for
  stands_at : (ord : T → Ordering) (xs : List T) (m : ℕ) (x : T) → IsOrdered ord xs → slice_get xs m ≡ Some x → ord x ≡ Equal → IsFound ord xs m
  stands_at ord xs m x o g e = found_at ord xs m o (within xs m x g) (λ d. ap ord (there xs m x d g) ∙ e)

  pub stands_found : (ord : T → Ordering) (xs : List T) (m : ℕ) (x : T) → IsOrdered ord xs → slice_get xs m ≡ Some x → ord x ≡ Equal → Some x ≡ found ord xs
  stands_found ord xs m x o g e = sym ((stands_at ord xs m x o g e).is_found x ∙ ap Some (there xs m x x g))

  pub stands_set : (ord : T → Ordering) (xs : List T) (m : ℕ) (x y : T) → IsOrdered ord xs → slice_get xs m ≡ Some x → ord x ≡ Equal → slice_set xs m y ≡ set_in ord y xs
  stands_set ord xs m x y o g e =
      let f = stands_at ord xs m x o g e in
      ap (λ (n : ℕ). slice_set xs n y) (sym f.is_place) ∙ set_at ord xs y (slice_index_or xs m y) o (f.is_found y)

  -- the calls of a list, whose elements zs are those of the chunks cs
  pub near_found : (ord : T → Ordering) (cs : List (List T)) (zs : List T) (n i : ℕ) (x : T) → joined cs ≡ zs → StandsAt x cs n i → IsOrdered ord zs → ord x ≡ Equal → Some x ≡ found ord zs
  near_found ord cs zs n i x e s o q =
      let r = in_chunk cs n s.0 i x s.1.0 s.1.1 in
      stands_found ord zs r.0 x o (ap (λ (l : List T). slice_get l r.0) (sym e) ∙ r.1.0) q

  pub near_set : (ord : T → Ordering) (cs : List (List T)) (zs : List T) (n i : ℕ) (c d : List T) (x y : T) → joined cs ≡ zs → StandsAt x cs n i → slice_get cs n ≡ Some c → d ≡ slice_set c i y → IsOrdered ord zs → ord x ≡ Equal
      → joined (slice_set cs n d) ≡ set_in ord y zs
  near_set ord cs zs n i c d x y e s g is o q =
      let same = some_is s.0 c (sym s.1.0 ∙ g) in
      let r = in_chunk cs n s.0 i x s.1.0 s.1.1 in
      ap (λ (l : List T). joined (slice_set cs n l)) (is ∙ ap (λ (l : List T). slice_set l i y) (sym same))
      ∙ (r.1.1 y ∙ (ap (λ (l : List T). slice_set l r.0 y) e ∙ stands_set ord zs r.0 x y o (ap (λ (l : List T). slice_get l r.0) (sym e) ∙ r.1.0) q))

  -- where an element stands
  pub chunk_within : (cs : List (List T)) (n i : ℕ) (x : T) → StandsAt x cs n i → n < length cs
  chunk_within [] n i x s = absurd (none_some s.0 s.1.0)
  chunk_within (c ∷ cs) zero i x s = omega arith
  chunk_within (c ∷ cs) (suc n) i x s = let l = chunk_within cs n i x s in omega (arith, l)
