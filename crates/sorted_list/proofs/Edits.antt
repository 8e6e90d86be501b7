-- Edits of the chunk to which a search leads, as edits of the whole list.
use Rattle.std.proofs.Common.{◌≡◌, ℕ, zero, suc, ◌-◌, ◌<◌, ◌≤◌, ◌==◌, List, [], ◌∷◌, ◌++◌, length, drop, Bool, true, false, refl, sym, ap, ◌∙◌, subst, arith, Option, Some, None, append_assoc}
use Rattle.std.proofs.lemmas.List.{append-nil}
use Rattle.std.specs.Prelude.{if◌then◌else◌, slice_index_or, slice_get, slice_set}
use Rattle.std.specs.List.{insert, remove}
use Rattle.std.specs.declared.cmp.Ordering.{Ordering}
use Rattle.sorted_list.specs.Order.{IsOrdered, found, from, put_in, set_in, take_out}
use Rattle.sorted_list.specs.Chunks.{joined, chunk_len, AreRoomy, AreEmpty, ends_below, seat, near}
use Rattle.sorted_list.proofs.Chunks.{ordered-front, ordered-rest, all_below, found_behind, from_behind, put_behind, set_behind, take_behind, found_front, from_front, put_front, set_front, take_front}

pub positive : (n : ℕ) → (n == 0) ≡ false → 0 < n
positive zero e = absurd (not_false e)
  where
    not_false : true ≡ false → ⊥
    not_false e = cc
positive (suc n) e = omega arith

module _ {A : Type 0} where
  pub some_is : (a b : A) → Some a ≡ Some b → a ≡ b
  some_is a b e = cc

  pub none_some : (a : A) → None ≡ Some a → ⊥
  none_some a e = cc

  pub some_none : (a : A) → Some a ≡ None → ⊥
  some_none a e = cc

  pub get_at : (xs : List A) (n : ℕ) (x : A) → n < length xs → x ≡ slice_index_or xs n x → slice_get xs n ≡ Some x
  get_at [] n x l e = absurd (omega arith)
  get_at (y ∷ xs) zero x l e = ap Some (sym e)
  get_at (y ∷ xs) (suc n) x l e = get_at xs n x (omega arith) e

  pub get_past : (xs : List A) (n : ℕ) → length xs ≤ n → slice_get xs n ≡ None
  get_past [] n l = refl
  get_past (x ∷ xs) zero l = absurd (omega arith)
  get_past (x ∷ xs) (suc n) l = get_past xs n (omega arith)

  pub set_twice : (xs : List A) (n : ℕ) (a b : A) → slice_set (slice_set xs n a) n b ≡ slice_set xs n b
  set_twice [] n a b = refl
  set_twice (x ∷ xs) zero a b = refl
  set_twice (x ∷ xs) (suc n) a b = ap (λ (l : List A). x ∷ l) (set_twice xs n a b)

  pub set_at_self : (xs : List A) (n : ℕ) (a d : A) → n < length xs → slice_index_or (slice_set xs n a) n d ≡ a
  set_at_self [] n a d l = absurd (omega arith)
  set_at_self (x ∷ xs) zero a d l = refl
  set_at_self (x ∷ xs) (suc n) a d l = set_at_self xs n a d (omega arith)

  pub set_same : (xs : List A) (n : ℕ) (a : A) → n < length xs → a ≡ slice_index_or xs n a → slice_set xs n a ≡ xs
  set_same [] n a l e = refl
  set_same (x ∷ xs) zero a l e = ap (λ (y : A). y ∷ xs) e
  set_same (x ∷ xs) (suc n) a l e = ap (λ (ys : List A). x ∷ ys) (set_same xs n a (omega arith) e)

module _ {T : Type 0} where
  pub roomy_at : (cs : List (List T)) (n : ℕ) (d : List T) → slice_get cs n ≡ Some d → AreRoomy cs → (0 < length d) × (length d < chunk_len)
  roomy_at [] n d e r = absurd (none_some d e)
  roomy_at (c ∷ cs) zero d e r = subst (λ (x : List T). (0 < length x) × (length x < chunk_len)) (some_is c d e) (r.0, r.1)
  roomy_at (c ∷ cs) (suc n) d e r = roomy_at cs n d e r.2

  pub roomy_set : (cs : List (List T)) (n : ℕ) (d : List T) → AreRoomy cs → 0 < length d → length d < chunk_len → AreRoomy (slice_set cs n d)
  roomy_set [] n d r s l = tt
  roomy_set (c ∷ cs) zero d r s l = (s, l, r.2)
  roomy_set (c ∷ cs) (suc n) d r s l = (r.0, r.1, roomy_set cs n d r.2 s l)

  pub roomy_insert : (cs : List (List T)) (n : ℕ) (d : List T) → AreRoomy cs → 0 < length d → length d < chunk_len → AreRoomy (insert cs n d)
  roomy_insert [] zero d r s l = (s, l, tt)
  roomy_insert [] (suc n) d r s l = (s, l, tt)
  roomy_insert (c ∷ cs) zero d r s l = (s, l, r)
  roomy_insert (c ∷ cs) (suc n) d r s l = (r.0, r.1, roomy_insert cs n d r.2 s l)

  pub roomy_push : (cs : List (List T)) (d : List T) → AreRoomy cs → 0 < length d → length d < chunk_len → AreRoomy (cs ++ d ∷ [])
  roomy_push [] d r s l = (s, l, tt)
  roomy_push (c ∷ cs) d r s l = (r.0, r.1, roomy_push cs d r.2 s l)

  pub roomy_removed : (cs : List (List T)) (n : ℕ) (d : List T) → AreRoomy cs → AreRoomy (remove (slice_set cs n d) n)
  roomy_removed [] zero d r = tt
  roomy_removed [] (suc n) d r = tt
  roomy_removed (c ∷ cs) zero d r = r.2
  roomy_removed (c ∷ cs) (suc n) d r = (r.0, r.1, roomy_removed cs n d r.2)

  pub removed_joined : (cs : List (List T)) (n : ℕ) (d : List T) → n < length cs → d ≡ [] → joined (remove (slice_set cs n d) n) ≡ joined (slice_set cs n d)
  removed_joined [] n d l e = absurd (omega arith)
  removed_joined (c ∷ cs) zero d l e = ap (λ (x : List T). x ++ joined cs) (sym e)
  removed_joined (c ∷ cs) (suc n) d l e = ap (λ (x : List T). c ++ x) (removed_joined cs n d (omega arith) e)

  -- a chunk is parted
  pub parted_joined : (cs : List (List T)) (n : ℕ) (d lower upper : List T) → n < length cs → lower ++ upper ≡ d → joined (insert (slice_set cs n lower) (suc n) upper) ≡ joined (slice_set cs n d)
  parted_joined [] n d lower upper l e = absurd (omega arith)
  parted_joined (c ∷ cs) zero d lower upper l e = sym (append_assoc lower upper (joined cs)) ∙ ap (λ (x : List T). x ++ joined cs) e
  parted_joined (c ∷ cs) (suc n) d lower upper l e = ap (λ (x : List T). c ++ x) (parted_joined cs n d lower upper (omega arith) e)

  pub roomy_drop : (cs : List (List T)) (n : ℕ) → AreRoomy cs → AreRoomy (drop n cs)
  roomy_drop [] zero r = tt
  roomy_drop [] (suc n) r = tt
  roomy_drop (c ∷ cs) zero r = r
  roomy_drop (c ∷ cs) (suc n) r = roomy_drop cs n r.2

  pub joined_push : (cs : List (List T)) (d : List T) → joined (cs ++ d ∷ []) ≡ joined cs ++ d
  joined_push [] d = append-nil d
  joined_push (c ∷ cs) d = ap (λ (x : List T). c ++ x) (joined_push cs d) ∙ sym (append_assoc c (joined cs) d)

  pub pushed_joined : (cs : List (List T)) (n : ℕ) (d c : List T) (y : T) → n ≡ length cs - 1 → slice_get cs n ≡ Some d → c ≡ d ++ y ∷ [] → joined (slice_set cs n c) ≡ joined cs ++ y ∷ []
  pushed_joined [] n d c y e g h = absurd (none_some d g)
  pushed_joined (b ∷ []) zero d c y e g h = append-nil c ∙ (h ∙ ap (λ (l : List T). l ++ y ∷ []) (sym (some_is b d g) ∙ sym (append-nil b)))
  pushed_joined (b ∷ []) (suc n) d c y e g h = absurd (omega (arith, e))
  pushed_joined (b ∷ (a ∷ cs)) zero d c y e g h = absurd (omega (arith, e))
  pushed_joined (b ∷ (a ∷ cs)) (suc n) d c y e g h = ap (λ (l : List T). b ++ l) (pushed_joined (a ∷ cs) n d c y (omega (arith, e)) g h) ∙ sym (append_assoc b (joined (a ∷ cs)) (y ∷ []))

  pub empty_push : (cs : List (List T)) (d : List T) → AreEmpty cs → d ≡ [] → AreEmpty (cs ++ d ∷ [])
  empty_push [] d r e = (e, tt)
  empty_push (c ∷ cs) d r e = (r.0, empty_push cs d r.1 e)

  -- the last of empty chunks, and those before it
  pub empty_front : (cs : List (List T)) (d : List T) → AreEmpty (cs ++ d ∷ []) → AreEmpty cs
  empty_front [] d r = tt
  empty_front (c ∷ cs) d r = (r.0, empty_front cs d r.1)

  pub empty_last : (cs : List (List T)) (d : List T) → AreEmpty (cs ++ d ∷ []) → d ≡ []
  empty_last [] d r = r.0
  empty_last (c ∷ cs) d r = empty_last cs d r.1

module _ {T : Type 0} (ord : T → Ordering) where
  pub ordered_at : (cs : List (List T)) (n : ℕ) (d : List T) → slice_get cs n ≡ Some d → IsOrdered ord (joined cs) → IsOrdered ord d
  ordered_at [] n d e o = absurd (none_some d e)
  ordered_at (c ∷ cs) zero d e o = subst (IsOrdered ord) (some_is c d e) (ordered-front ord c (joined cs) o)
  ordered_at (c ∷ cs) (suc n) d e o = ordered_at cs n d e (ordered-rest ord c (joined cs) o)

  -- ---- what is found

  pub found_seat : (cs : List (List T)) (d : List T) → AreRoomy cs → IsOrdered ord (joined cs) → slice_get cs (seat ord cs) ≡ Some d → found ord (joined cs) ≡ found ord d
  found_seat [] d r o e = absurd (none_some d e)
  found_seat ([] ∷ cs) d r o e = absurd (omega (arith, r.0))
  found_seat ((x ∷ xs) ∷ cs) d r o e = by (found_seat cs d r.2 (ordered-rest ord (x ∷ xs) (joined cs) o)) (ends_below ord (x ∷ xs)) refl e
    where
      by : (slice_get cs (seat ord cs) ≡ Some d → found ord (joined cs) ≡ found ord d) → (b : Bool) → ends_below ord (x ∷ xs) ≡ b → slice_get ((x ∷ xs) ∷ cs) (if b then suc (seat ord cs) else 0) ≡ Some d → found ord ((x ∷ xs) ++ joined cs) ≡ found ord d
      by k true h g = found_behind ord (x ∷ xs) (joined cs) (all_below ord (x ∷ xs) (ordered-front ord (x ∷ xs) (joined cs) o) h) ∙ k g
      by k false h g = found_front ord x xs (joined cs) o h ∙ ap (found ord) (some_is (x ∷ xs) d g)

  pub found_none : (cs : List (List T)) → AreRoomy cs → IsOrdered ord (joined cs) → slice_get cs (seat ord cs) ≡ None → found ord (joined cs) ≡ None
  found_none [] r o e = refl
  found_none ([] ∷ cs) r o e = absurd (omega (arith, r.0))
  found_none ((x ∷ xs) ∷ cs) r o e = by (found_none cs r.2 (ordered-rest ord (x ∷ xs) (joined cs) o)) (ends_below ord (x ∷ xs)) refl e
    where
      by : (slice_get cs (seat ord cs) ≡ None → found ord (joined cs) ≡ None) → (b : Bool) → ends_below ord (x ∷ xs) ≡ b → slice_get ((x ∷ xs) ∷ cs) (if b then suc (seat ord cs) else 0) ≡ None → found ord ((x ∷ xs) ++ joined cs) ≡ None
      by k true h g = found_behind ord (x ∷ xs) (joined cs) (all_below ord (x ∷ xs) (ordered-front ord (x ∷ xs) (joined cs) o) h) ∙ k g
      by k false h g = absurd (some_none (x ∷ xs) g)

  -- ---- what isn't below

  pub from_seat : (cs : List (List T)) (d : List T) → AreRoomy cs → IsOrdered ord (joined cs) → slice_get cs (seat ord cs) ≡ Some d → from ord d ++ joined (drop (suc (seat ord cs)) cs) ≡ from ord (joined cs)
  from_seat [] d r o e = absurd (none_some d e)
  from_seat ([] ∷ cs) d r o e = absurd (omega (arith, r.0))
  from_seat ((x ∷ xs) ∷ cs) d r o e = by (from_seat cs d r.2 (ordered-rest ord (x ∷ xs) (joined cs) o)) (ends_below ord (x ∷ xs)) refl e
    where
      by : (slice_get cs (seat ord cs) ≡ Some d → from ord d ++ joined (drop (suc (seat ord cs)) cs) ≡ from ord (joined cs)) → (b : Bool) → ends_below ord (x ∷ xs) ≡ b → slice_get ((x ∷ xs) ∷ cs) (if b then suc (seat ord cs) else 0) ≡ Some d → from ord d ++ joined (drop (suc (if b then suc (seat ord cs) else 0)) ((x ∷ xs) ∷ cs)) ≡ from ord ((x ∷ xs) ++ joined cs)
      by k true h g = k g ∙ sym (from_behind ord (x ∷ xs) (joined cs) (all_below ord (x ∷ xs) (ordered-front ord (x ∷ xs) (joined cs) o) h))
      by k false h g = ap (λ (l : List T). from ord l ++ joined cs) (sym (some_is (x ∷ xs) d g)) ∙ sym (from_front ord x xs (joined cs) h)

  pub from_none : (cs : List (List T)) → AreRoomy cs → IsOrdered ord (joined cs) → slice_get cs (seat ord cs) ≡ None → from ord (joined cs) ≡ []
  from_none [] r o e = refl
  from_none ([] ∷ cs) r o e = absurd (omega (arith, r.0))
  from_none ((x ∷ xs) ∷ cs) r o e = by (from_none cs r.2 (ordered-rest ord (x ∷ xs) (joined cs) o)) (ends_below ord (x ∷ xs)) refl e
    where
      by : (slice_get cs (seat ord cs) ≡ None → from ord (joined cs) ≡ []) → (b : Bool) → ends_below ord (x ∷ xs) ≡ b → slice_get ((x ∷ xs) ∷ cs) (if b then suc (seat ord cs) else 0) ≡ None → from ord ((x ∷ xs) ++ joined cs) ≡ []
      by k true h g = from_behind ord (x ∷ xs) (joined cs) (all_below ord (x ∷ xs) (ordered-front ord (x ∷ xs) (joined cs) o) h) ∙ k g
      by k false h g = absurd (some_none (x ∷ xs) g)

  -- ---- an element in the place of what is sought

  pub set_seat : (cs : List (List T)) (d : List T) (y : T) → AreRoomy cs → IsOrdered ord (joined cs) → slice_get cs (seat ord cs) ≡ Some d → joined (slice_set cs (seat ord cs) (set_in ord y d)) ≡ set_in ord y (joined cs)
  set_seat [] d y r o e = absurd (none_some d e)
  set_seat ([] ∷ cs) d y r o e = absurd (omega (arith, r.0))
  set_seat ((x ∷ xs) ∷ cs) d y r o e = by (set_seat cs d y r.2 (ordered-rest ord (x ∷ xs) (joined cs) o)) (ends_below ord (x ∷ xs)) refl e
    where
      by : (slice_get cs (seat ord cs) ≡ Some d → joined (slice_set cs (seat ord cs) (set_in ord y d)) ≡ set_in ord y (joined cs)) → (b : Bool) → ends_below ord (x ∷ xs) ≡ b → slice_get ((x ∷ xs) ∷ cs) (if b then suc (seat ord cs) else 0) ≡ Some d → joined (slice_set ((x ∷ xs) ∷ cs) (if b then suc (seat ord cs) else 0) (set_in ord y d)) ≡ set_in ord y ((x ∷ xs) ++ joined cs)
      by k true h g = ap (λ (l : List T). (x ∷ xs) ++ l) (k g) ∙ sym (set_behind ord (x ∷ xs) (joined cs) y (all_below ord (x ∷ xs) (ordered-front ord (x ∷ xs) (joined cs) o) h))
      by k false h g = ap (λ (l : List T). set_in ord y l ++ joined cs) (sym (some_is (x ∷ xs) d g)) ∙ sym (set_front ord x xs (joined cs) y o h)

  pub set_none : (cs : List (List T)) (y : T) → AreRoomy cs → IsOrdered ord (joined cs) → slice_get cs (seat ord cs) ≡ None → joined cs ≡ set_in ord y (joined cs)
  set_none [] y r o e = refl
  set_none ([] ∷ cs) y r o e = absurd (omega (arith, r.0))
  set_none ((x ∷ xs) ∷ cs) y r o e = by (set_none cs y r.2 (ordered-rest ord (x ∷ xs) (joined cs) o)) (ends_below ord (x ∷ xs)) refl e
    where
      by : (slice_get cs (seat ord cs) ≡ None → joined cs ≡ set_in ord y (joined cs)) → (b : Bool) → ends_below ord (x ∷ xs) ≡ b → slice_get ((x ∷ xs) ∷ cs) (if b then suc (seat ord cs) else 0) ≡ None → (x ∷ xs) ++ joined cs ≡ set_in ord y ((x ∷ xs) ++ joined cs)
      by k true h g = ap (λ (l : List T). (x ∷ xs) ++ l) (k g) ∙ sym (set_behind ord (x ∷ xs) (joined cs) y (all_below ord (x ∷ xs) (ordered-front ord (x ∷ xs) (joined cs) o) h))
      by k false h g = absurd (some_none (x ∷ xs) g)

  -- ---- what is sought is taken out

  pub take_seat : (cs : List (List T)) (d : List T) → AreRoomy cs → IsOrdered ord (joined cs) → slice_get cs (seat ord cs) ≡ Some d → joined (slice_set cs (seat ord cs) (take_out ord d)) ≡ take_out ord (joined cs)
  take_seat [] d r o e = absurd (none_some d e)
  take_seat ([] ∷ cs) d r o e = absurd (omega (arith, r.0))
  take_seat ((x ∷ xs) ∷ cs) d r o e = by (take_seat cs d r.2 (ordered-rest ord (x ∷ xs) (joined cs) o)) (ends_below ord (x ∷ xs)) refl e
    where
      by : (slice_get cs (seat ord cs) ≡ Some d → joined (slice_set cs (seat ord cs) (take_out ord d)) ≡ take_out ord (joined cs)) → (b : Bool) → ends_below ord (x ∷ xs) ≡ b → slice_get ((x ∷ xs) ∷ cs) (if b then suc (seat ord cs) else 0) ≡ Some d → joined (slice_set ((x ∷ xs) ∷ cs) (if b then suc (seat ord cs) else 0) (take_out ord d)) ≡ take_out ord ((x ∷ xs) ++ joined cs)
      by k true h g = ap (λ (l : List T). (x ∷ xs) ++ l) (k g) ∙ sym (take_behind ord (x ∷ xs) (joined cs) (all_below ord (x ∷ xs) (ordered-front ord (x ∷ xs) (joined cs) o) h))
      by k false h g = ap (λ (l : List T). take_out ord l ++ joined cs) (sym (some_is (x ∷ xs) d g)) ∙ sym (take_front ord x xs (joined cs) o h)

  pub take_none : (cs : List (List T)) → AreRoomy cs → IsOrdered ord (joined cs) → slice_get cs (seat ord cs) ≡ None → joined cs ≡ take_out ord (joined cs)
  take_none [] r o e = refl
  take_none ([] ∷ cs) r o e = absurd (omega (arith, r.0))
  take_none ((x ∷ xs) ∷ cs) r o e = by (take_none cs r.2 (ordered-rest ord (x ∷ xs) (joined cs) o)) (ends_below ord (x ∷ xs)) refl e
    where
      by : (slice_get cs (seat ord cs) ≡ None → joined cs ≡ take_out ord (joined cs)) → (b : Bool) → ends_below ord (x ∷ xs) ≡ b → slice_get ((x ∷ xs) ∷ cs) (if b then suc (seat ord cs) else 0) ≡ None → (x ∷ xs) ++ joined cs ≡ take_out ord ((x ∷ xs) ++ joined cs)
      by k true h g = ap (λ (l : List T). (x ∷ xs) ++ l) (k g) ∙ sym (take_behind ord (x ∷ xs) (joined cs) (all_below ord (x ∷ xs) (ordered-front ord (x ∷ xs) (joined cs) o) h))
      by k false h g = absurd (some_none (x ∷ xs) g)

  -- ---- an element is put in: at the seat, or in the last chunk

  pub near_seat : (cs : List (List T)) → seat ord cs < length cs → seat ord cs ≡ near ord cs
  near_seat [] l = absurd (omega arith)
  near_seat (c ∷ []) l = by (ends_below ord c) l
    where
      by : (b : Bool) → (if b then suc zero else zero) < suc zero → (if b then suc zero else zero) ≡ zero
      by true l = absurd (omega arith)
      by false l = refl
  near_seat (c ∷ (d ∷ ds)) l = by (near_seat (d ∷ ds)) (ends_below ord c) l
    where
      by : (seat ord (d ∷ ds) < length (d ∷ ds) → seat ord (d ∷ ds) ≡ near ord (d ∷ ds)) → (b : Bool) → (if b then suc (seat ord (d ∷ ds)) else 0) < length (c ∷ (d ∷ ds)) → (if b then suc (seat ord (d ∷ ds)) else 0) ≡ (if b then suc (near ord (d ∷ ds)) else 0)
      by k true l = ap suc (k (omega arith))
      by k false l = refl

  pub near_end : (cs : List (List T)) → 0 < length cs → seat ord cs ≡ length cs → seat ord cs ≡ suc (near ord cs)
  near_end [] s e = absurd (omega arith)
  near_end (c ∷ []) s e = e
  near_end (c ∷ (d ∷ ds)) s e = by (near_end (d ∷ ds) (omega arith)) (ends_below ord c) e
    where
      by : (seat ord (d ∷ ds) ≡ length (d ∷ ds) → seat ord (d ∷ ds) ≡ suc (near ord (d ∷ ds))) → (b : Bool) → (if b then suc (seat ord (d ∷ ds)) else 0) ≡ length (c ∷ (d ∷ ds)) → (if b then suc (seat ord (d ∷ ds)) else 0) ≡ suc (if b then suc (near ord (d ∷ ds)) else 0)
      by k true e = ap suc (k (omega (arith, e)))
      by k false e = absurd (omega (arith, e))

  pub put_near : (cs : List (List T)) (d : List T) (y : T) → AreRoomy cs → IsOrdered ord (joined cs) → slice_get cs (near ord cs) ≡ Some d → joined (slice_set cs (near ord cs) (put_in ord y d)) ≡ put_in ord y (joined cs)
  put_near [] d y r o e = absurd (none_some d e)
  put_near ([] ∷ cs) d y r o e = absurd (omega (arith, r.0))
  put_near ((x ∷ xs) ∷ []) d y r o e = ap (λ (l : List T). put_in ord y l ++ []) (sym (some_is (x ∷ xs) d e)) ∙ (append-nil (put_in ord y (x ∷ xs)) ∙ ap (put_in ord y) (sym (append-nil (x ∷ xs))))
  put_near ((x ∷ xs) ∷ (c ∷ cs)) d y r o e = by (put_near (c ∷ cs) d y r.2 (ordered-rest ord (x ∷ xs) (joined (c ∷ cs)) o)) (ends_below ord (x ∷ xs)) refl e
    where
      by : (slice_get (c ∷ cs) (near ord (c ∷ cs)) ≡ Some d → joined (slice_set (c ∷ cs) (near ord (c ∷ cs)) (put_in ord y d)) ≡ put_in ord y (joined (c ∷ cs))) → (b : Bool) → ends_below ord (x ∷ xs) ≡ b → slice_get ((x ∷ xs) ∷ (c ∷ cs)) (if b then suc (near ord (c ∷ cs)) else 0) ≡ Some d → joined (slice_set ((x ∷ xs) ∷ (c ∷ cs)) (if b then suc (near ord (c ∷ cs)) else 0) (put_in ord y d)) ≡ put_in ord y ((x ∷ xs) ++ joined (c ∷ cs))
      by k true h g = ap (λ (l : List T). (x ∷ xs) ++ l) (k g) ∙ sym (put_behind ord (x ∷ xs) (joined (c ∷ cs)) y (all_below ord (x ∷ xs) (ordered-front ord (x ∷ xs) (joined (c ∷ cs)) o) h))
      by k false h g = ap (λ (l : List T). put_in ord y l ++ joined (c ∷ cs)) (sym (some_is (x ∷ xs) d g)) ∙ sym (put_front ord x xs (joined (c ∷ cs)) y h)

  -- ---- the calls of a list, whose elements zs are those of the chunks cs

  abbrev pub Seat : List (List T) → ℕ → Type 0
  Seat cs n = AreRoomy cs → IsOrdered ord (joined cs) → n ≡ seat ord cs

  pub seat_is : (xs cs : List (List T)) (n : ℕ) → xs ≡ cs → Seat xs n → Seat cs n
  seat_is xs cs n e h = subst (λ (l : List (List T)). Seat l n) e h

  pub at_seat : (cs : List (List T)) (n : ℕ) (zs : List T) → joined cs ≡ zs → AreRoomy cs → IsOrdered ord zs → Seat cs n → n ≡ seat ord cs
  at_seat cs n zs e r o s = s r (subst (IsOrdered ord) (sym e) o)

  got_seat : (cs : List (List T)) (n : ℕ) (o : Option (List T)) → n ≡ seat ord cs → slice_get cs n ≡ o → slice_get cs (seat ord cs) ≡ o
  got_seat cs n o e g = subst (λ (m : ℕ). slice_get cs m ≡ o) e g

  pub find_done : (cs : List (List T)) (n : ℕ) (zs d : List T) (x : Option T) → joined cs ≡ zs → AreRoomy cs → IsOrdered ord zs → Seat cs n → slice_get cs n ≡ Some d → (IsOrdered ord d → x ≡ found ord d) → x ≡ found ord zs
  find_done cs n zs d x e r o s g k =
      let p = subst (IsOrdered ord) (sym e) o in
      k (ordered_at cs n d g p) ∙ (sym (found_seat cs d r p (got_seat cs n (Some d) (at_seat cs n zs e r o s) g)) ∙ ap (found ord) e)

  pub find_gone : (cs : List (List T)) (n : ℕ) (zs : List T) → joined cs ≡ zs → AreRoomy cs → IsOrdered ord zs → Seat cs n → length cs ≤ n → None ≡ found ord zs
  find_gone cs n zs e r o s l =
      sym (found_none cs r (subst (IsOrdered ord) (sym e) o) (got_seat cs n None (at_seat cs n zs e r o s) (get_past cs n l))) ∙ ap (found ord) e

  pub from_done : (cs : List (List T)) (n : ℕ) (zs d f : List T) → joined cs ≡ zs → AreRoomy cs → IsOrdered ord zs → Seat cs n → slice_get cs n ≡ Some d → (IsOrdered ord d → f ≡ from ord d) → f ++ joined (drop (suc n) cs) ≡ from ord zs
  from_done cs n zs d f e r o s g k =
      let p = subst (IsOrdered ord) (sym e) o in
      let q = at_seat cs n zs e r o s in
      (λ i. k (ordered_at cs n d g p) i ++ joined (drop (suc (q i)) cs)) ∙ (from_seat cs d r p (got_seat cs n (Some d) q g) ∙ ap (from ord) e)

  pub from_gone : (cs : List (List T)) (n : ℕ) (zs : List T) → joined cs ≡ zs → AreRoomy cs → IsOrdered ord zs → Seat cs n → length cs ≤ n → [] ≡ from ord zs
  from_gone cs n zs e r o s l =
      sym (from_none cs r (subst (IsOrdered ord) (sym e) o) (got_seat cs n None (at_seat cs n zs e r o s) (get_past cs n l))) ∙ ap (from ord) e

  pub set_done : (cs : List (List T)) (n : ℕ) (zs d c : List T) (y : T) → joined cs ≡ zs → AreRoomy cs → IsOrdered ord zs → Seat cs n → slice_get cs n ≡ Some d → (IsOrdered ord d → c ≡ set_in ord y d) → joined (slice_set cs n c) ≡ set_in ord y zs
  set_done cs n zs d c y e r o s g k =
      let p = subst (IsOrdered ord) (sym e) o in
      let q = at_seat cs n zs e r o s in
      (λ i. joined (slice_set cs (q i) (k (ordered_at cs n d g p) i))) ∙ (set_seat cs d y r p (got_seat cs n (Some d) q g) ∙ ap (set_in ord y) e)

  pub set_gone : (cs : List (List T)) (n : ℕ) (zs : List T) (y : T) → joined cs ≡ zs → AreRoomy cs → IsOrdered ord zs → Seat cs n → length cs ≤ n → zs ≡ set_in ord y zs
  set_gone cs n zs y e r o s l =
      sym e ∙ (set_none cs y r (subst (IsOrdered ord) (sym e) o) (got_seat cs n None (at_seat cs n zs e r o s) (get_past cs n l)) ∙ ap (set_in ord y) e)

  pub take_done : (cs : List (List T)) (n : ℕ) (zs d c : List T) → joined cs ≡ zs → AreRoomy cs → IsOrdered ord zs → Seat cs n → slice_get cs n ≡ Some d → (IsOrdered ord d → c ≡ take_out ord d) → joined (slice_set cs n c) ≡ take_out ord zs
  take_done cs n zs d c e r o s g k =
      let p = subst (IsOrdered ord) (sym e) o in
      let q = at_seat cs n zs e r o s in
      (λ i. joined (slice_set cs (q i) (k (ordered_at cs n d g p) i))) ∙ (take_seat cs d r p (got_seat cs n (Some d) q g) ∙ ap (take_out ord) e)

  pub take_gone : (cs : List (List T)) (n : ℕ) (zs : List T) → joined cs ≡ zs → AreRoomy cs → IsOrdered ord zs → Seat cs n → length cs ≤ n → zs ≡ take_out ord zs
  take_gone cs n zs e r o s l =
      sym e ∙ (take_none cs r (subst (IsOrdered ord) (sym e) o) (got_seat cs n None (at_seat cs n zs e r o s) (get_past cs n l)) ∙ ap (take_out ord) e)

  pub put_done : (cs : List (List T)) (n : ℕ) (zs d c : List T) (y : T) → joined cs ≡ zs → AreRoomy cs → IsOrdered ord zs → n ≡ near ord cs → slice_get cs n ≡ Some d → (IsOrdered ord d → c ≡ put_in ord y d) → joined (slice_set cs n c) ≡ put_in ord y zs
  put_done cs n zs d c y e r o q g k =
      let p = subst (IsOrdered ord) (sym e) o in
      (λ i. joined (slice_set cs (q i) (k (ordered_at cs n d g p) i))) ∙ (put_near cs d y r p (subst (λ (m : ℕ). slice_get cs m ≡ Some d) q g) ∙ ap (put_in ord y) e)

  pub found_near : (cs : List (List T)) (d : List T) → AreRoomy cs → IsOrdered ord (joined cs) → slice_get cs (near ord cs) ≡ Some d → found ord (joined cs) ≡ found ord d
  found_near [] d r o e = absurd (none_some d e)
  found_near ([] ∷ cs) d r o e = absurd (omega (arith, r.0))
  found_near ((x ∷ xs) ∷ []) d r o e = ap (found ord) (append-nil (x ∷ xs) ∙ some_is (x ∷ xs) d e)
  found_near ((x ∷ xs) ∷ (c ∷ cs)) d r o e = by (found_near (c ∷ cs) d r.2 (ordered-rest ord (x ∷ xs) (joined (c ∷ cs)) o)) (ends_below ord (x ∷ xs)) refl e
    where
      by : (slice_get (c ∷ cs) (near ord (c ∷ cs)) ≡ Some d → found ord (joined (c ∷ cs)) ≡ found ord d) → (b : Bool) → ends_below ord (x ∷ xs) ≡ b → slice_get ((x ∷ xs) ∷ (c ∷ cs)) (if b then suc (near ord (c ∷ cs)) else 0) ≡ Some d → found ord ((x ∷ xs) ++ joined (c ∷ cs)) ≡ found ord d
      by k true h g = found_behind ord (x ∷ xs) (joined (c ∷ cs)) (all_below ord (x ∷ xs) (ordered-front ord (x ∷ xs) (joined (c ∷ cs)) o) h) ∙ k g
      by k false h g = found_front ord x xs (joined (c ∷ cs)) o h ∙ ap (found ord) (some_is (x ∷ xs) d g)

  -- what is sought is there where it is in the chunk into which it would go
  pub near_done : (cs : List (List T)) (n : ℕ) (zs d : List T) (x : Option T) → joined cs ≡ zs → AreRoomy cs → IsOrdered ord zs → n ≡ near ord cs → slice_get cs n ≡ Some d → (IsOrdered ord d → x ≡ found ord d) → x ≡ found ord zs
  near_done cs n zs d x e r o q g k =
      let p = subst (IsOrdered ord) (sym e) o in
      k (ordered_at cs n d g p) ∙ (sym (found_near cs d r p (subst (λ (m : ℕ). slice_get cs m ≡ Some d) q g)) ∙ ap (found ord) e)

  -- the chunk that is chosen
  pub near_at : (xs cs : List (List T)) (n : ℕ) (zs : List T) → xs ≡ cs → joined cs ≡ zs → AreRoomy cs → IsOrdered ord zs → (AreRoomy xs → IsOrdered ord (joined xs) → n ≡ near ord xs) → n ≡ near ord cs
  near_at xs cs n zs e is r o h = subst (λ (l : List (List T)). AreRoomy l → IsOrdered ord (joined l) → n ≡ near ord l) e h r (subst (IsOrdered ord) (sym is) o)
