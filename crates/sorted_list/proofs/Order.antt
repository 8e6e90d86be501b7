-- What a binary search finds in a list that it orders, and what edits at that place do.
use Rattle.std.proofs.Common.{◌≡◌, ℕ, zero, suc, ◌<◌, ◌≤◌, List, [], ◌∷◌, length, take, drop, ◌-◌, Bool, true, false, refl, sym, ap, ◌∙◌, subst, arith, Some, None, Result, Ok, Err, set}
use Rattle.std.proofs.lemmas.List.{length-drop}
use Rattle.std.specs.Prelude.{if◌then◌else◌, slice_index_or, MatchResult}
use Rattle.std.specs.List.{insert, remove}
use Rattle.std.specs.List.Sorted.{IsSearchInRange, IsBinarySearchResult, IsNonDecreasingBy}
use Rattle.std.specs.Ordering.{is_eq, is_lt, ordering_index}
use Rattle.std.specs.declared.cmp.Ordering.{Ordering}
use Rattle.std.specs.declared.cmp.Ordering.TheVariants.{Less, Equal, Greater}
use Rattle.sorted_list.specs.Order.{AllAbove, Behind, IsOrdered, found, place, from, put_in, put_new, set_in, take_out, IsFound, IsGap}

take_all : {A : Type 0} (xs : List A) → take (length xs) xs ≡ xs
take_all [] = refl
take_all (x ∷ xs) = ap (λ (l : List _). x ∷ l) (take_all xs)

-- a slice from an index on
pub rest_from : {A : Type 0} (xs : List A) (n : ℕ) → take (length xs - n) (drop n xs) ≡ drop n xs
rest_from xs n = ap (λ (m : ℕ). take m (drop n xs)) (sym (length-drop n xs)) ∙ take_all (drop n xs)

module _ {T : Type 0} (ord : T → Ordering) where
  abbrev index : T → ℕ
  index x = ordering_index (ord x)

  above_index : (xs : List T) (j : ℕ) (d : T) → AllAbove ord xs → j < length xs → ord (slice_index_or xs j d) ≡ Greater
  above_index [] j d a l = absurd (omega arith)
  above_index (x ∷ xs) zero d a l = a.0
  above_index (x ∷ xs) (suc j) d a l = above_index xs j d a.1 (omega arith)

  first_below : (o : Ordering) (xs : List T) (j : ℕ) (d : T) → Behind ord o xs → j < length xs → ordering_index o ≤ index (slice_index_or xs j d)
  first_below Less xs j d b l = omega arith
  first_below Equal xs j d b l = rw (above_index xs j d b l) (omega arith)
  first_below Greater xs j d b l = rw (above_index xs j d b l) (omega arith)

  -- the answers rise
  rises : (xs : List T) → IsOrdered ord xs → IsNonDecreasingBy (λ x. ordering_index (ord x)) xs
  rises [] o i j d le lt = absurd (omega arith)
  rises (x ∷ xs) o zero zero d le lt = omega arith
  rises (x ∷ xs) o zero (suc j) d le lt = first_below (ord x) xs j d o.0 (omega arith)
  rises (x ∷ xs) o (suc i) zero d le lt = absurd (omega arith)
  rises (x ∷ xs) o (suc i) (suc j) d le lt = rises xs o.1 i j d (omega arith) (omega arith)

  not_greater : (o : Ordering) → o ≡ Equal → o ≡ Greater → ⊥
  not_greater o e g = cc

  below_later : (o : Ordering) (xs : List T) (at : ℕ) (d : T) → Behind ord o xs → at < length xs → ord (slice_index_or xs at d) ≡ Equal → o ≡ Less
  below_later Less xs at d b l e = refl
  below_later Equal xs at d b l e = absurd (not_greater (ord (slice_index_or xs at d)) e (above_index xs at d b l))
  below_later Greater xs at d b l e = absurd (not_greater (ord (slice_index_or xs at d)) e (above_index xs at d b l))

  pub found_at : (xs : List T) (at : ℕ) → IsOrdered ord xs → at < length xs → ((d : T) → ord (slice_index_or xs at d) ≡ Equal) → IsFound ord xs at
  found_at [] at o l e = absurd (omega arith)
  found_at (x ∷ xs) zero o l e = record { is_place = rw (e x) refl; is_found = λ d. rw (e x) refl }
  found_at (x ∷ xs) (suc at) o l e =
      let less : ord x ≡ Less = below_later (ord x) xs at x o.0 (omega arith) (e x) in
      let later = found_at xs at o.1 (omega arith) e in
      record { is_place = rw less (ap suc later.is_place); is_found = λ d. rw less (later.is_found d) }

  all_above_absent : (xs : List T) → ((j : ℕ) (d : T) → j < length xs → ord (slice_index_or xs j d) ≡ Greater) → found ord xs ≡ None
  all_above_absent [] h = refl
  all_above_absent (x ∷ xs) h = rw (h 0 x (omega arith)) (all_above_absent xs (λ j d l. h (suc j) d (omega arith)))

  pub gap_at : (xs : List T) (at : ℕ) → at ≤ length xs → ((j : ℕ) (d : T) → j < at → ord (slice_index_or xs j d) ≡ Less) → ((j : ℕ) (d : T) → at ≤ j → j < length xs → ord (slice_index_or xs j d) ≡ Greater) → IsGap ord xs at
  gap_at [] zero l below above = record { is_place = refl; is_absent = refl }
  gap_at [] (suc at) l below above = absurd (omega arith)
  gap_at (x ∷ xs) zero l below above = record {
    is_place = rw (above 0 x (omega arith) (omega arith)) refl;
    is_absent = rw (above 0 x (omega arith) (omega arith)) (all_above_absent xs (λ j d k. above (suc j) d (omega arith) (omega arith)));
  }
  gap_at (x ∷ xs) (suc at) l below above =
      let less : ord x ≡ Less = below 0 x (omega arith) in
      let later = gap_at xs at (omega arith) (λ j d k. below (suc j) d (omega arith)) (λ j d k m. above (suc j) d (omega arith) (omega arith)) in
      record { is_place = rw less (ap suc later.is_place); is_absent = rw less later.is_absent }

  -- what a binary search answers
  pub searched_ok : (xs : List T) (at : ℕ) → IsOrdered ord xs → IsSearchInRange (Ok at) (length xs) → IsBinarySearchResult ord xs (Ok at) → IsFound ord xs at
  searched_ok xs at o range is = found_at xs at o range is

  pub searched_err : (xs : List T) (at : ℕ) → IsOrdered ord xs → IsSearchInRange (Err at) (length xs) → IsBinarySearchResult ord xs (Err at) → IsGap ord xs at
  searched_err xs at o range is =
      let parts = is (rises xs o) in
      gap_at xs at range (λ j d l. parts.0 j d (omega arith) l) (λ j d l m. parts.1 j d l m)

  pub drop_place : (xs : List T) → drop (place ord xs) xs ≡ from ord xs
  drop_place [] = refl
  drop_place (x ∷ xs) = by (is_lt (ord x)) (drop_place xs)
    where
      by : (b : Bool) → drop (place ord xs) xs ≡ from ord xs → drop (if b then suc (place ord xs) else 0) (x ∷ xs) ≡ (if b then from ord xs else x ∷ xs)
      by true h = h
      by false h = refl

  -- edits at the place
  pub put_at : (xs : List T) (y : T) → insert xs (place ord xs) y ≡ put_in ord y xs
  put_at [] y = refl
  put_at (x ∷ xs) y = by (is_lt (ord x)) (put_at xs y)
    where
      by : (b : Bool) → insert xs (place ord xs) y ≡ put_in ord y xs → insert (x ∷ xs) (if b then suc (place ord xs) else 0) y ≡ (if b then x ∷ put_in ord y xs else y ∷ (x ∷ xs))
      by true h = ap (λ (l : List T). x ∷ l) h
      by false h = refl

  some_not_none : (y : T) → None ≡ Some y → ⊥
  some_not_none y e = cc

  pub set_at : (xs : List T) (y z : T) → IsOrdered ord xs → found ord xs ≡ Some z → set xs (place ord xs) y ≡ set_in ord y xs
  set_at [] y z o f = absurd (some_not_none z f)
  set_at (x ∷ xs) y z o f = by (ord x) o.0 (set_at xs y z o.1) f
    where
      none_above : (vs : List T) → AllAbove ord vs → found ord vs ≡ None
      none_above [] a = refl
      none_above (v ∷ vs) a = rw a.0 (none_above vs a.1)

      by : (o : Ordering) → Behind ord o xs → (found ord xs ≡ Some z → set xs (place ord xs) y ≡ set_in ord y xs) → (if is_eq o then Some x else found ord xs) ≡ Some z →
          set (x ∷ xs) (if is_lt o then suc (place ord xs) else 0) y ≡ (if is_eq o then y ∷ xs else x ∷ set_in ord y xs)
      by Less b h g = ap (λ (l : List T). x ∷ l) (h g)
      by Equal b h g = refl
      by Greater b h g = absurd (some_not_none z (sym (none_above xs b) ∙ g))

  pub none_above : (vs : List T) → AllAbove ord vs → found ord vs ≡ None
  none_above [] a = refl
  none_above (v ∷ vs) a = rw a.0 (none_above vs a.1)

  pub take_at : (xs : List T) (z : T) → IsOrdered ord xs → found ord xs ≡ Some z → remove xs (place ord xs) ≡ take_out ord xs
  take_at [] z o f = absurd (some_not_none z f)
  take_at (x ∷ xs) z o f = by (ord x) o.0 (take_at xs z o.1) f
    where
      by : (o : Ordering) → Behind ord o xs → (found ord xs ≡ Some z → remove xs (place ord xs) ≡ take_out ord xs) → (if is_eq o then Some x else found ord xs) ≡ Some z →
          remove (x ∷ xs) (if is_lt o then suc (place ord xs) else 0) ≡ (if is_eq o then xs else x ∷ take_out ord xs)
      by Less b h g = ap (λ (l : List T). x ∷ l) (h g)
      by Equal b h g = refl
      by Greater b h g = absurd (some_not_none z (sym (none_above xs b) ∙ g))

  -- what isn't there stays as it is
  pub set_absent : (xs : List T) (y : T) → found ord xs ≡ None → set_in ord y xs ≡ xs
  set_absent [] y f = refl
  set_absent (x ∷ xs) y f = by (is_eq (ord x)) f (set_absent xs y)
    where
      by : (b : Bool) → (if b then Some x else found ord xs) ≡ None → (found ord xs ≡ None → set_in ord y xs ≡ xs) → (if b then y ∷ xs else x ∷ set_in ord y xs) ≡ x ∷ xs
      by true g h = absurd (some_not_none x (sym g))
      by false g h = ap (λ (l : List T). x ∷ l) (h g)

  pub take_absent : (xs : List T) → found ord xs ≡ None → take_out ord xs ≡ xs
  take_absent [] f = refl
  take_absent (x ∷ xs) f = by (is_eq (ord x)) f (take_absent xs)
    where
      by : (b : Bool) → (if b then Some x else found ord xs) ≡ None → (found ord xs ≡ None → take_out ord xs ≡ xs) → (if b then xs else x ∷ take_out ord xs) ≡ x ∷ xs
      by true g h = absurd (some_not_none x (sym g))
      by false g h = ap (λ (l : List T). x ∷ l) (h g)

  -- an element that is put only where none is
  pub new_there : (xs : List T) (x y : T) → Some x ≡ found ord xs → xs ≡ put_new ord y xs
  new_there xs x y f = rw (sym f) refl

  pub new_gone : (xs : List T) (y : T) → None ≡ found ord xs → put_in ord y xs ≡ put_new ord y xs
  new_gone xs y f = rw (sym f) refl

  -- the calls of a sorted list, whose items ys are the vector's
  abbrev Answers : List T → Result ℕ ℕ → Type 0
  Answers xs r = IsSearchInRange r (length xs) × IsBinarySearchResult ord xs r

  ok_in : (xs ys : List T) (at : ℕ) → xs ≡ ys → IsOrdered ord ys → Answers xs (Ok at) → IsFound ord ys at
  ok_in xs ys at e o a = subst (λ (l : List T). IsFound ord l at) e (searched_ok xs at (subst (IsOrdered ord) (sym e) o) a.0 a.1)

  err_in : (xs ys : List T) (at : ℕ) → xs ≡ ys → IsOrdered ord ys → Answers xs (Err at) → IsGap ord ys at
  err_in xs ys at e o a = subst (λ (l : List T). IsGap ord l at) e (searched_err xs at (subst (IsOrdered ord) (sym e) o) a.0 a.1)

  pub find_ok : (xs ys : List T) (at : ℕ) (y : T) → xs ≡ ys → IsOrdered ord ys → Answers xs (Ok at) → y ≡ slice_index_or xs at y → Some y ≡ found ord ys
  find_ok xs ys at y e o a i = sym ((ok_in xs ys at e o a).is_found y ∙ ap Some (ap (λ (l : List T). slice_index_or l at y) (sym e) ∙ sym i))

  pub find_err : (xs ys : List T) (at : ℕ) → xs ≡ ys → IsOrdered ord ys → Answers xs (Err at) → None ≡ found ord ys
  find_err xs ys at e o a = sym (err_in xs ys at e o a).is_absent

  pub place_ok : (xs ys : List T) (at : ℕ) → xs ≡ ys → IsOrdered ord ys → Answers xs (Ok at) → at ≡ place ord ys
  place_ok xs ys at e o a = sym (ok_in xs ys at e o a).is_place

  pub place_err : (xs ys : List T) (at : ℕ) → xs ≡ ys → IsOrdered ord ys → Answers xs (Err at) → at ≡ place ord ys
  place_err xs ys at e o a = sym (err_in xs ys at e o a).is_place

  pub set_ok : (xs ys : List T) (at : ℕ) (y : T) → xs ≡ ys → IsOrdered ord ys → Answers xs (Ok at) → set xs at y ≡ set_in ord y ys
  set_ok xs ys at y e o a =
      let f = ok_in xs ys at e o a in
      ap (λ (l : List T). set l at y) e ∙ (ap (λ (n : ℕ). set ys n y) (sym f.is_place) ∙ set_at ys y (slice_index_or ys at y) o (f.is_found y))

  pub set_err : (xs ys : List T) (at : ℕ) (y : T) → xs ≡ ys → IsOrdered ord ys → Answers xs (Err at) → ys ≡ set_in ord y ys
  set_err xs ys at y e o a = sym (set_absent ys y (err_in xs ys at e o a).is_absent)

  pub take_ok : (xs ys : List T) (at : ℕ) (y : T) → xs ≡ ys → IsOrdered ord ys → Answers xs (Ok at) → remove xs at ≡ take_out ord ys
  take_ok xs ys at y e o a =
      let f = ok_in xs ys at e o a in
      ap (λ (l : List T). remove l at) e ∙ (ap (λ (n : ℕ). remove ys n) (sym f.is_place) ∙ take_at ys (slice_index_or ys at y) o (f.is_found y))

  pub take_err : (xs ys : List T) (at : ℕ) → xs ≡ ys → IsOrdered ord ys → Answers xs (Err at) → ys ≡ take_out ord ys
  take_err xs ys at e o a = sym (take_absent ys (err_in xs ys at e o a).is_absent)

  -- what a binary search answers
  pub searched : (xs : List T) (r : Result ℕ ℕ) → IsOrdered ord xs → IsSearchInRange r (length xs) → IsBinarySearchResult ord xs r → MatchResult r (IsFound ord xs) (IsGap ord xs)
  searched xs (Ok at) o range is = searched_ok xs at o range is
  searched xs (Err at) o range is = searched_err xs at o range is
