-- The chunk to which a binary search over the last elements leads.
use Rattle.std.proofs.Common.{◌≡◌, ℕ, zero, suc, ◌-◌, ◌<◌, ◌≤◌, List, [], ◌∷◌, length, Bool, true, false, refl, sym, ap, ◌∙◌, subst, arith, Option, None, Some, Ok, Err}
use Rattle.std.specs.Prelude.{slice_index_or, slice_get, if◌then◌else◌}
use Rattle.std.specs.Fn.{AlwaysReturns, Called, Mut}
use Rattle.std.specs.List.Sorted.{IsSearchInRange, IsBinarySearchResult, IsNonDecreasingBy}
use Rattle.std.specs.Ordering.{is_lt, ordering_index}
use Rattle.std.specs.declared.cmp.Ordering.{Ordering}
use Rattle.std.specs.declared.cmp.Ordering.TheVariants.{Less, Equal, Greater}
use Rattle.sorted_list.specs.Order.{Behind, IsOrdered, IsGap}
use Rattle.sorted_list.specs.Chunks.{joined, AreRoomy, last_of, side, is_below, ends_below, seat}
use Rattle.sorted_list.proofs.Chunks.{not_both, AllEndAbove, EndInOrder, end_in_order, above_ends}

pub last_is : {T : Type 0} (xs : List T) → slice_get xs (length xs - 1) ≡ last_of xs
last_is [] = refl
last_is (x ∷ []) = refl
last_is (x ∷ (y ∷ ys)) =
    let e : length (x ∷ (y ∷ ys)) - 1 ≡ suc (length (y ∷ ys) - 1) = omega arith in
    ap (slice_get (x ∷ (y ∷ ys))) e ∙ last_is (y ∷ ys)

side_less : (b : Bool) → side b ≡ Less → b ≡ true
side_less true e = refl
side_less false e = cc

side_greater : (b : Bool) → side b ≡ Greater → b ≡ false
side_greater true e = cc
side_greater false e = refl

side_not_equal : (b : Bool) → side b ≡ Equal → ⊥
side_not_equal true e = cc
side_not_equal false e = cc

less_first : (a b : Bool) → (a ≡ false → b ≡ false) → ordering_index (side a) ≤ ordering_index (side b)
less_first true true h = omega arith
less_first true false h = omega arith
less_first false true h = absurd (not_true (h refl))
  where
    not_true : true ≡ false → ⊥
    not_true e = cc
less_first false false h = omega arith

module _ {T : Type 0} (ord : T → Ordering) where
  abbrev by_end : List T → Ordering
  by_end c = side (ends_below ord c)

  above_at : (cs : List (List T)) (j : ℕ) (d : List T) → AllEndAbove ord cs → j < length cs → ends_below ord (slice_index_or cs j d) ≡ false
  above_at [] j d a l = absurd (omega arith)
  above_at (c ∷ cs) zero d a l = a.0
  above_at (c ∷ cs) (suc j) d a l = above_at cs j d a.1 (omega arith)

  rises : (cs : List (List T)) → EndInOrder ord cs → IsNonDecreasingBy (λ c. ordering_index (by_end c)) cs
  rises [] o i j d le lt = absurd (omega arith)
  rises (c ∷ cs) o zero zero d le lt = omega arith
  rises (c ∷ cs) o zero (suc j) d le lt = less_first (ends_below ord c) (ends_below ord (slice_index_or cs j d)) (λ e. above_at cs j d (o.0 e) (omega arith))
  rises (c ∷ cs) o (suc i) zero d le lt = absurd (omega arith)
  rises (c ∷ cs) o (suc i) (suc j) d le lt = rises cs o.1 i j d (omega arith) (omega arith)

  seat_at : (cs : List (List T)) (at : ℕ) → at ≤ length cs → ((j : ℕ) (d : List T) → j < at → ends_below ord (slice_index_or cs j d) ≡ true) → ((j : ℕ) (d : List T) → at ≤ j → j < length cs → ends_below ord (slice_index_or cs j d) ≡ false) → at ≡ seat ord cs
  seat_at [] zero l below above = refl
  seat_at [] (suc at) l below above = absurd (omega arith)
  seat_at (c ∷ cs) zero l below above = rw (above 0 c (omega arith) (omega arith)) refl
  seat_at (c ∷ cs) (suc at) l below above =
      rw (below 0 c (omega arith)) (ap suc (seat_at cs at (omega arith) (λ j d k. below (suc j) d (omega arith)) (λ j d k m. above (suc j) d (omega arith) (omega arith))))

  pub seat_err : (cs : List (List T)) (at : ℕ) → AreRoomy cs → IsOrdered ord (joined cs) → IsSearchInRange (Err at) (length cs) → IsBinarySearchResult by_end cs (Err at) → at ≡ seat ord cs
  seat_err cs at r o range is =
      let parts = is (rises cs (end_in_order ord cs r o)) in
      seat_at cs at range (λ j d l. side_less (ends_below ord (slice_index_or cs j d)) (parts.0 j d (omega arith) l)) (λ j d l m. side_greater (ends_below ord (slice_index_or cs j d)) (parts.1 j d l m))

  pub seat_ok : (cs : List (List T)) (at : ℕ) → IsBinarySearchResult by_end cs (Ok at) → ⊥
  seat_ok cs at is = side_not_equal (ends_below ord (slice_index_or cs at [])) (is [])

  last_above : (cs : List (List T)) (c : List T) → AllEndAbove ord cs → last_of cs ≡ Some c → ends_below ord c ≡ false
  last_above [] c a e = cc
  last_above (d ∷ []) c a e = subst (λ (o : Option (List T)). ends_below ord (chunk_in o) ≡ false) e a.0
    where
      chunk_in : Option (List T) → List T
      chunk_in None = []
      chunk_in (Some x) = x
  last_above (d ∷ (b ∷ bs)) c a e = last_above (b ∷ bs) c a.1 e

  all_end : (cs : List (List T)) (c : List T) → EndInOrder ord cs → last_of cs ≡ Some c → ends_below ord c ≡ true → length cs ≡ seat ord cs
  all_end [] c o e b = cc
  all_end (d ∷ []) c o e b = first (ends_below ord d) (λ f. not_both (ends_below ord c) (last_above (d ∷ []) c (f, tt) e) b)
    where
      first : (w : Bool) → (w ≡ false → ⊥) → length (d ∷ []) ≡ (if w then 1 else 0)
      first true n = refl
      first false n = absurd (n refl)
  all_end (d ∷ (x ∷ xs)) c o e b = first (ends_below ord d) (λ f. not_both (ends_below ord c) (last_above (x ∷ xs) c (o.0 f) e) b) (all_end (x ∷ xs) c o.1 e b)
    where
      first : (w : Bool) → (w ≡ false → ⊥) → length (x ∷ xs) ≡ seat ord (x ∷ xs) → suc (length (x ∷ xs)) ≡ (if w then suc (seat ord (x ∷ xs)) else 0)
      first true n h = ap suc h
      first false n h = absurd (n refl)

  -- where the last chunk ends below what is sought, each does
  pub seat_end : (cs : List (List T)) (c : List T) → AreRoomy cs → IsOrdered ord (joined cs) → Some c ≡ slice_get cs (length cs - 1) → ends_below ord c ≡ true → length cs ≡ seat ord cs
  seat_end cs c r o e b = all_end cs c (end_in_order ord cs r o) (sym (e ∙ last_is cs)) b

  less_in : (w : Ordering) (xs : List T) → Behind ord w xs → ends_below ord xs ≡ true → w ≡ Less
  less_in Less xs a b = refl
  less_in Equal xs a b = absurd (not_both (ends_below ord xs) (above_ends ord xs a) b)
  less_in Greater xs a b = absurd (not_both (ends_below ord xs) (above_ends ord xs a) b)

  less_is : (w : Ordering) → is_lt w ≡ true → w ≡ Less
  less_is Less e = refl
  less_is Equal e = cc
  less_is Greater e = cc

  -- where the last element is below what is sought, that isn't there
  pub gap_end : (xs : List T) → IsOrdered ord xs → ends_below ord xs ≡ true → IsGap ord xs (length xs)
  gap_end [] o b = cc
  gap_end (x ∷ []) o b =
      let l = less_is (ord x) b in
      record { is_place = rw l refl; is_absent = rw l refl }
  gap_end (x ∷ (y ∷ ys)) o b =
      let l = less_in (ord x) (y ∷ ys) o.0 b in
      let gap = gap_end (y ∷ ys) o.1 b in
      record { is_place = rw l (ap suc gap.is_place); is_absent = rw l gap.is_absent }

  pub below_end : (o : Option T) (x : T) → o ≡ Some x → ord x ≡ Less → is_below ord o ≡ true
  below_end o x e l = ap (λ (p : Option T). is_below ord p) e ∙ ap (λ (w : Ordering). is_lt w) l

  -- what the comparison of a chunk answers
  pub less_side : (o : Option T) (x : T) → o ≡ Some x → ord x ≡ Less → Less ≡ side (is_below ord o)
  less_side o x e l = sym (ap (λ (p : Option T). side (is_below ord p)) e ∙ ap (λ (w : Ordering). side (is_lt w)) l)

  pub greater_side : (o : Option T) (x : T) → o ≡ Some x → (ord x ≡ Less → ⊥) → Greater ≡ side (is_below ord o)
  greater_side o x e l = sym (ap (λ (p : Option T). side (is_below ord p)) e ∙ by (ord x) l)
    where
      by : (w : Ordering) → (w ≡ Less → ⊥) → side (is_lt w) ≡ Greater
      by Less n = absurd (n refl)
      by Equal n = refl
      by Greater n = refl

module _ {F X R : Type 0} (g : Mut F X R) (P : X → R → Type 0) where
  -- what a call that always answers so gives
  pub answer_is : (f : F) (a : X) (r : R) (f' : F) → Called g f a r f' → AlwaysReturns g P f → P a r
  answer_is f a r f' c h = (h.at (a ∷ []) r f' c).0
