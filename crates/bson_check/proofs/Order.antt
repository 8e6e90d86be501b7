-- Elements in the order of their names.
use Rattle.std.proofs.Common.{Ordering, Less, Equal, Greater, ◌≡◌, ℕ, ◌<◌, ◌≤◌, ◌⊎◌, inl, inr, Bool, true, false, List, length, slice_index, refl, sym, ap, ◌∙◌, arith}
use Rattle.std.specs.Cmp.{IsStrictWeakOrder}
use Rattle.std.specs.Cmp.Lexicographic.{slice_cmp}
use Rattle.std.specs.Ordering.{nat_cmp, is_lt, is_eq, ordering_reverse, ordering_then}
use Rattle.std.proofs.lemmas.Slice.Eq.{bytes_eq-Decides}
use Rattle.std.proofs.lemmas.Cmp.{nat_list_cmp_total, nat_cmp_total, on_total, then_total, back_total, tied_itself, tied_back}
use Rattle.std.proofs.lemmas.List.Sorted.{ranks_by, sorted_far}
use Rattle.std.proofs.lemmas.Map.Text.{is_eq-slice_cmp}
use Rattle.std.proofs.lemmas.Grind.{get_or_default_zero}
use Rattle.std.proofs.lemmas.Bool.{cases_lt}
use Rattle.std.proofs.lemmas.Bool.Decides.{nat_tests}
use Rattle.bson_check.specs.Blocks.{name_at, start_cmp, InOrder, Known}
use Rattle.bson_check.proofs.Walk.{less_of}

pub start_order : (body : List ℕ) → IsStrictWeakOrder (λ a b. is_lt (start_cmp body a b))
start_order body = ranks_by (then_total (on_total (name_at body) nat_list_cmp_total) (back_total nat_cmp_total)) (λ x. x)

not_less : (a b : List ℕ) (o : Ordering) → is_lt (ordering_then (slice_cmp nat_cmp a b) o) ≡ false → slice_cmp nat_cmp a b ≡ Less → ⊥
not_less a b o h e = let q : is_lt (ordering_then (slice_cmp nat_cmp a b) o) ≡ true = rw e refl in absurd cc

-- a isn't above b, and b is below n
below_too : (a b n : List ℕ) (o : Ordering) → slice_cmp nat_cmp b a ≡ o → (slice_cmp nat_cmp b a ≡ Less → ⊥) → slice_cmp nat_cmp b n ≡ Less → slice_cmp nat_cmp a n ≡ Less
below_too a b n Less e h l = absurd (h e)
below_too a b n Equal e h l = sym (nat_list_cmp_total.congr b a n e) ∙ l
below_too a b n Greater e h l = nat_list_cmp_total.trans a b n (nat_list_cmp_total.antisymm a b ∙ ap ordering_reverse e) l

no_earlier : (a b : ℕ) → is_lt (nat_cmp a b) ≡ false → b ≤ a
no_earlier a b h = grind (arith, nat_tests)

module _ (body block : List ℕ) (sorted : InOrder body block) (name : List ℕ) where
  abbrev is_low : ℕ → Bool
  is_low i = is_lt (slice_cmp nat_cmp (name_at body (slice_index block i)) name)

  far : (i j : ℕ) → i ≤ j → j < length block → is_lt (start_cmp body (slice_index block j) (slice_index block i)) ≡ false
  far i j le lt = sorted_far _ (start_order body) block sorted i j 0 le lt

  pub low_before : (i j : ℕ) → i ≤ j → j < length block → is_low j ≡ true → is_low i ≡ true
  low_before i j le lt h =
      let a = name_at body (slice_index block i) in
      let b = name_at body (slice_index block j) in
      ap is_lt (below_too a b name (slice_cmp nat_cmp b a) refl (not_less b a _ (far i j le lt)) (less_of (slice_cmp nat_cmp b name) h))

  high_by : (i j : ℕ) → i ≤ j → j < length block → is_low i ≡ false → (b : Bool) → is_low j ≡ b → is_low j ≡ false
  high_by i j le lt h true e = let q = low_before i j le lt e in absurd cc
  high_by i j le lt h false e = e

  pub high_behind : (i j : ℕ) → i ≤ j → j < length block → is_low i ≡ false → is_low j ≡ false
  high_behind i j le lt h = high_by i j le lt h (is_low j) refl

  module _ (at : ℕ) (below : (i : ℕ) → i < at → is_low i ≡ true) (above : (i : ℕ) → at ≤ i → i < length block → is_low i ≡ false) where
    up_to : (k : ℕ) → k < length block → name_at body (slice_index block k) ≡ name → at ≤ k
    up_to k lt same = go (cases_lt k at) where
      go : (k < at) ⊎ (at ≤ k) → at ≤ k
      go (inl less) =
          let low = below k less in
          let tied : is_low k ≡ false = ap (λ (n : List ℕ). is_lt (slice_cmp nat_cmp n name)) same ∙ ap is_lt (tied_itself nat_list_cmp_total name) in
          absurd cc
      go (inr le) = le

    tie : (k : ℕ) → k < length block → name_at body (slice_index block k) ≡ name → at ≤ k → (o : Ordering) → slice_cmp nat_cmp (name_at body (slice_index block at)) name ≡ o
        → (slice_index block k ≤ slice_index block at) × (name_at body (slice_index block at) ≡ name)
    tie k lt same le Less e = let h = above at (omega arith) (omega arith) in let q = ap is_lt e in absurd cc
    tie k lt same le Greater e =
        let a = name_at body (slice_index block at) in
        let back : slice_cmp nat_cmp (name_at body (slice_index block k)) a ≡ Less = ap (λ (n : List ℕ). slice_cmp nat_cmp n a) same ∙ nat_list_cmp_total.antisymm name a ∙ ap ordering_reverse e in
        absurd (not_less (name_at body (slice_index block k)) a _ (far at k le lt) back)
    tie k lt same le Equal e =
        let a = name_at body (slice_index block at) in
        let equal : slice_cmp nat_cmp (name_at body (slice_index block k)) a ≡ Equal = ap (λ (n : List ℕ). slice_cmp nat_cmp n a) same ∙ tied_back nat_list_cmp_total a name e in
        let f : is_lt (nat_cmp (slice_index block at) (slice_index block k)) ≡ false = sym (ap (λ (o : Ordering). is_lt (ordering_then o (nat_cmp (slice_index block at) (slice_index block k)))) equal) ∙ far at k le lt in
        (no_earlier (slice_index block at) (slice_index block k) f, (bytes_eq-Decides a name).0 (sym (is_eq-slice_cmp a name) ∙ ap is_eq e))

    -- of the elements of this name the first in the block is the earliest
    pub known_is_first : (left : ℕ) → Known body block name left → (at < length block) × (left < slice_index block at) × (name_at body (slice_index block at) ≡ name)
    known_is_first left k =
        let i = k.1.0 in
        let lt : i < length block = k.1.1 in
        let is : slice_index block i ≡ k.0 = sym (get_or_default_zero block i k.0 lt) ∙ k.1.2 in
        let same : name_at body (slice_index block i) ≡ name = ap (name_at body) is ∙ k.3 in
        let le = up_to i lt same in
        let t = tie i lt same le (slice_cmp nat_cmp (name_at body (slice_index block at)) name) refl in
        (omega arith, omega (arith, t.0, is, k.2), t.1)
