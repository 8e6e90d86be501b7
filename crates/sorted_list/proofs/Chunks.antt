-- Searches and edits of a list in chunks, by those of the one chunk to which a search leads.
use Rattle.std.proofs.Common.{◌≡◌, List, [], ◌∷◌, ◌++◌, Bool, true, false, refl, ap, arith, Option, Some, None}
use Rattle.std.specs.Prelude.{⊤, if◌then◌else◌}
use Rattle.std.specs.Ordering.{is_eq, is_lt}
use Rattle.std.specs.declared.cmp.Ordering.{Ordering}
use Rattle.std.specs.declared.cmp.Ordering.TheVariants.{Less, Equal, Greater}
use Rattle.sorted_list.specs.Order.{AllAbove, Behind, IsOrdered, found, from, put_in, set_in, take_out}
use Rattle.sorted_list.specs.Chunks.{joined, AreRoomy, ends_below}

pub not_both : (b : Bool) → b ≡ false → b ≡ true → ⊥
not_both b f t = cc

module _ {T : Type 0} (ord : T → Ordering) where
  abbrev pub AllBelow : List T → Type 0
  AllBelow [] = ⊤
  AllBelow (x ∷ xs) = (ord x ≡ Less) × AllBelow xs

  less_if : (o : Ordering) → is_lt o ≡ true → o ≡ Less
  less_if Less e = refl
  less_if Equal e = cc
  less_if Greater e = cc

  -- behind an element that isn't below none is
  pub above_ends : (xs : List T) → AllAbove ord xs → ends_below ord xs ≡ false
  above_ends [] a = refl
  above_ends (x ∷ []) a = rw a.0 refl
  above_ends (x ∷ (y ∷ ys)) a = above_ends (y ∷ ys) a.1

  above-front : (xs ys : List T) → AllAbove ord (xs ++ ys) → AllAbove ord xs
  above-front [] ys a = tt
  above-front (x ∷ xs) ys a = (a.0, above-front xs ys a.1)

  above-rest : (xs ys : List T) → AllAbove ord (xs ++ ys) → AllAbove ord ys
  above-rest [] ys a = a
  above-rest (x ∷ xs) ys a = above-rest xs ys a.1

  behind-front : (o : Ordering) (xs ys : List T) → Behind ord o (xs ++ ys) → Behind ord o xs
  behind-front Less xs ys b = tt
  behind-front Equal xs ys b = above-front xs ys b
  behind-front Greater xs ys b = above-front xs ys b

  pub ordered-front : (xs ys : List T) → IsOrdered ord (xs ++ ys) → IsOrdered ord xs
  ordered-front [] ys o = tt
  ordered-front (x ∷ xs) ys o = (behind-front (ord x) xs ys o.0, ordered-front xs ys o.1)

  pub ordered-rest : (xs ys : List T) → IsOrdered ord (xs ++ ys) → IsOrdered ord ys
  ordered-rest [] ys o = o
  ordered-rest (x ∷ xs) ys o = ordered-rest xs ys o.1

  -- a chunk that ends below is below
  pub all_below : (xs : List T) → IsOrdered ord xs → ends_below ord xs ≡ true → AllBelow xs
  all_below [] o e = tt
  all_below (x ∷ []) o e = (less_if (ord x) e, tt)
  all_below (x ∷ (y ∷ ys)) o e = (by (ord x) refl o.0, all_below (y ∷ ys) o.1 e)
    where
      by : (w : Ordering) → ord x ≡ w → Behind ord w (y ∷ ys) → ord x ≡ Less
      by Less h b = h
      by Equal h b = absurd (not_both (ends_below ord (y ∷ ys)) (above_ends (y ∷ ys) b) e)
      by Greater h b = absurd (not_both (ends_below ord (y ∷ ys)) (above_ends (y ∷ ys) b) e)

  -- ---- behind elements that are all below

  pub found_behind : (xs ys : List T) → AllBelow xs → found ord (xs ++ ys) ≡ found ord ys
  found_behind [] ys b = refl
  found_behind (x ∷ xs) ys b = rw b.0 (found_behind xs ys b.1)

  pub from_behind : (xs ys : List T) → AllBelow xs → from ord (xs ++ ys) ≡ from ord ys
  from_behind [] ys b = refl
  from_behind (x ∷ xs) ys b = rw b.0 (from_behind xs ys b.1)

  pub put_behind : (xs ys : List T) (y : T) → AllBelow xs → put_in ord y (xs ++ ys) ≡ xs ++ put_in ord y ys
  put_behind [] ys y b = refl
  put_behind (x ∷ xs) ys y b = rw b.0 (ap (λ (l : List T). x ∷ l) (put_behind xs ys y b.1))

  pub set_behind : (xs ys : List T) (y : T) → AllBelow xs → set_in ord y (xs ++ ys) ≡ xs ++ set_in ord y ys
  set_behind [] ys y b = refl
  set_behind (x ∷ xs) ys y b = rw b.0 (ap (λ (l : List T). x ∷ l) (set_behind xs ys y b.1))

  pub take_behind : (xs ys : List T) → AllBelow xs → take_out ord (xs ++ ys) ≡ xs ++ take_out ord ys
  take_behind [] ys b = refl
  take_behind (x ∷ xs) ys b = rw b.0 (ap (λ (l : List T). x ∷ l) (take_behind xs ys b.1))

  -- ---- in a chunk that doesn't end below

  none_above : (vs : List T) → AllAbove ord vs → found ord vs ≡ None
  none_above [] a = refl
  none_above (v ∷ vs) a = rw a.0 (none_above vs a.1)

  set_above : (vs : List T) (y : T) → AllAbove ord vs → set_in ord y vs ≡ vs
  set_above [] y a = refl
  set_above (v ∷ vs) y a = rw a.0 (ap (λ (l : List T). v ∷ l) (set_above vs y a.1))

  take_above : (vs : List T) → AllAbove ord vs → take_out ord vs ≡ vs
  take_above [] a = refl
  take_above (v ∷ vs) a = rw a.0 (ap (λ (l : List T). v ∷ l) (take_above vs a.1))

  -- the elements behind such a chunk are above
  pub rest_above : (x : T) (xs ys : List T) → IsOrdered ord ((x ∷ xs) ++ ys) → ends_below ord (x ∷ xs) ≡ false → AllAbove ord ys
  rest_above x [] ys o e = by (ord x) o.0 e
    where
      by : (w : Ordering) → Behind ord w ys → is_lt w ≡ false → AllAbove ord ys
      by Less b f = cc
      by Equal b f = b
      by Greater b f = b
  rest_above x (z ∷ zs) ys o e = rest_above z zs ys o.1 e

  pub found_front : (x : T) (xs ys : List T) → IsOrdered ord ((x ∷ xs) ++ ys) → ends_below ord (x ∷ xs) ≡ false → found ord ((x ∷ xs) ++ ys) ≡ found ord (x ∷ xs)
  found_front x xs ys o e = by (x ∷ xs)
    where
      by : (zs : List T) → found ord (zs ++ ys) ≡ found ord zs
      by [] = none_above ys (rest_above x xs ys o e)
      by (z ∷ zs) = ap (λ (w : Option T). if is_eq (ord z) then Some z else w) (by zs)

  pub set_front : (x : T) (xs ys : List T) (y : T) → IsOrdered ord ((x ∷ xs) ++ ys) → ends_below ord (x ∷ xs) ≡ false → set_in ord y ((x ∷ xs) ++ ys) ≡ set_in ord y (x ∷ xs) ++ ys
  set_front x xs ys y o e = by (x ∷ xs)
    where
      one : (b : Bool) (z : T) (zs l m : List T) → l ≡ m ++ ys → (if b then y ∷ (zs ++ ys) else z ∷ l) ≡ (if b then y ∷ zs else z ∷ m) ++ ys
      one true z zs l m h = refl
      one false z zs l m h = ap (λ (k : List T). z ∷ k) h

      by : (zs : List T) → set_in ord y (zs ++ ys) ≡ set_in ord y zs ++ ys
      by [] = set_above ys y (rest_above x xs ys o e)
      by (z ∷ zs) = one (is_eq (ord z)) z zs (set_in ord y (zs ++ ys)) (set_in ord y zs) (by zs)

  pub take_front : (x : T) (xs ys : List T) → IsOrdered ord ((x ∷ xs) ++ ys) → ends_below ord (x ∷ xs) ≡ false → take_out ord ((x ∷ xs) ++ ys) ≡ take_out ord (x ∷ xs) ++ ys
  take_front x xs ys o e = by (x ∷ xs)
    where
      one : (b : Bool) (z : T) (zs l m : List T) → l ≡ m ++ ys → (if b then zs ++ ys else z ∷ l) ≡ (if b then zs else z ∷ m) ++ ys
      one true z zs l m h = refl
      one false z zs l m h = ap (λ (k : List T). z ∷ k) h

      by : (zs : List T) → take_out ord (zs ++ ys) ≡ take_out ord zs ++ ys
      by [] = take_above ys (rest_above x xs ys o e)
      by (z ∷ zs) = one (is_eq (ord z)) z zs (take_out ord (zs ++ ys)) (take_out ord zs) (by zs)

  pub from_front : (x : T) (xs ys : List T) → ends_below ord (x ∷ xs) ≡ false → from ord ((x ∷ xs) ++ ys) ≡ from ord (x ∷ xs) ++ ys
  from_front x [] ys e = rw e refl
  from_front x (z ∷ zs) ys e = one (is_lt (ord x)) (from_front z zs ys e)
    where
      one : (b : Bool) → from ord ((z ∷ zs) ++ ys) ≡ from ord (z ∷ zs) ++ ys → (if b then from ord ((z ∷ zs) ++ ys) else x ∷ ((z ∷ zs) ++ ys)) ≡ (if b then from ord (z ∷ zs) else x ∷ (z ∷ zs)) ++ ys
      one true h = h
      one false h = refl

  pub put_front : (x : T) (xs ys : List T) (y : T) → ends_below ord (x ∷ xs) ≡ false → put_in ord y ((x ∷ xs) ++ ys) ≡ put_in ord y (x ∷ xs) ++ ys
  put_front x [] ys y e = rw e refl
  put_front x (z ∷ zs) ys y e = one (is_lt (ord x)) (put_front z zs ys y e)
    where
      one : (b : Bool) → put_in ord y ((z ∷ zs) ++ ys) ≡ put_in ord y (z ∷ zs) ++ ys → (if b then x ∷ put_in ord y ((z ∷ zs) ++ ys) else y ∷ (x ∷ ((z ∷ zs) ++ ys))) ≡ (if b then x ∷ put_in ord y (z ∷ zs) else y ∷ (x ∷ (z ∷ zs))) ++ ys
      one true h = ap (λ (l : List T). x ∷ l) h
      one false h = refl

  -- ---- where a chunk doesn't end below, none behind it does

  abbrev pub AllEndAbove : List (List T) → Type 0
  AllEndAbove [] = ⊤
  AllEndAbove (c ∷ cs) = (ends_below ord c ≡ false) × AllEndAbove cs

  abbrev pub EndInOrder : List (List T) → Type 0
  EndInOrder [] = ⊤
  EndInOrder (c ∷ cs) = (ends_below ord c ≡ false → AllEndAbove cs) × EndInOrder cs

  all_end_above : (cs : List (List T)) → AllAbove ord (joined cs) → AllEndAbove cs
  all_end_above [] a = tt
  all_end_above (c ∷ cs) a = (above_ends c (above-front c (joined cs) a), all_end_above cs (above-rest c (joined cs) a))

  pub end_in_order : (cs : List (List T)) → AreRoomy cs → IsOrdered ord (joined cs) → EndInOrder cs
  end_in_order [] r o = tt
  end_in_order ([] ∷ cs) r o = absurd (omega (arith, r.0))
  end_in_order ((x ∷ xs) ∷ cs) r o = (λ e. all_end_above cs (rest_above x xs (joined cs) o e), end_in_order cs r.2 (ordered-rest (x ∷ xs) (joined cs) o))
