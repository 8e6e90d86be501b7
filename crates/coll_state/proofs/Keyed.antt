-- Lists whose keys rise: what a search finds after an edit.
use Rattle.std.proofs.Common.{◌≡◌, List, [], ◌∷◌, Bool, true, false, cond, refl, sym, ap, ◌∙◌, subst, Option, Some, None, inl, inr}
use Rattle.std.specs.Prelude.{◌⊎◌, if◌then◌else◌}
use Rattle.std.specs.Ordering.{is_eq, is_lt, eq_by_cmp, ordering_reverse}
use Rattle.std.specs.declared.cmp.Ordering.{Ordering}
use Rattle.std.specs.declared.cmp.Ordering.TheVariants.{Less, Equal, Greater}
use Rattle.std.specs.Cmp.{IsTotalOrder, eq_by_cmp_equiv}
use Rattle.std.specs.FinMap.{IsAntisymmetric}
use Rattle.std.proofs.lemmas.Bool.{cases_Bool}
use Rattle.sorted_list.specs.Order.{AllAbove, Behind, IsOrdered, found, put_in, set_in, take_out}
use Rattle.coll_state.specs.Stock.{AllAfter, Rise, beside}
use Rattle.sorted_list.proofs.Order.{none_above}

pub is_equal : (o : Ordering) → is_eq o ≡ true → o ≡ Equal
is_equal Less e = cc
is_equal Equal e = refl
is_equal Greater e = cc

less_apart : (o : Ordering) → is_lt o ≡ true → is_eq o ≡ true → ⊥
less_apart Less l e = cc
less_apart Equal l e = cc
less_apart Greater l e = cc

no_some : {X : Type 0} (x : X) → Some x ≡ None → ⊥
no_some x e = cc

module _ {K T : Type 0} (R : K → K → Ordering) (total : IsTotalOrder R) (anti : IsAntisymmetric R) (key : T → K) where
  flips : (a b : K) → eq_by_cmp R a b ≡ eq_by_cmp R b a
  flips a b = (eq_by_cmp_equiv total).symm a b

  turn : (a b : K) (o : Ordering) → R a b ≡ o → R b a ≡ ordering_reverse o
  turn a b o e = total.antisymm b a ∙ ap ordering_reverse e

  same : (a b : K) → eq_by_cmp R a b ≡ true → a ≡ b
  same a b e = anti a b (is_equal (R a b) e)

  pub after_trans : (a b : K) (xs : List T) → R a b ≡ Less → AllAfter R key b xs → AllAfter R key a xs
  after_trans a b [] l h = tt
  after_trans a b (x ∷ xs) l h = (total.trans a b (key x) l h.0, after_trans a b xs l h.1)

  above_after : (a k : K) (xs : List T) → AllAfter R key a xs → (a ≡ k) ⊎ (R k a ≡ Less) → AllAbove (beside R key k) xs
  above_after a k [] h o = tt
  above_after a k (x ∷ xs) h o = (turn k (key x) Less (less o), above_after a k xs h.1 o)
    where
      less : (a ≡ k) ⊎ (R k a ≡ Less) → R k (key x) ≡ Less
      less (inl e) = subst (λ (z : K). R z (key x) ≡ Less) e h.0
      less (inr l) = total.trans k a (key x) l h.0

  behind : (k : K) (x : T) (xs : List T) (o : Ordering) → R (key x) k ≡ o → AllAfter R key (key x) xs → Behind (beside R key k) o xs
  behind k x xs Less e h = tt
  behind k x xs Equal e h = above_after (key x) k xs h (inl (anti (key x) k e))
  behind k x xs Greater e h = above_after (key x) k xs h (inr (turn (key x) k Greater e))

  -- a search by any key finds its way
  pub rise_ordered : (xs : List T) (k : K) → Rise R key xs → IsOrdered (beside R key k) xs
  rise_ordered [] k r = tt
  rise_ordered (x ∷ xs) k r = (behind k x xs (R (key x) k) refl r.0, rise_ordered xs k r.1)

  -- two keys that one element can't have both
  apart : (x : T) (k q : K) → eq_by_cmp R (key x) q ≡ true → eq_by_cmp R q k ≡ true → eq_by_cmp R (key x) k ≡ true
  apart x k q e f = subst (λ (z : K). eq_by_cmp R (key x) z ≡ true) (same q k f) e

  swapped : (a b : Bool) (x y f : Option T) → (a ≡ true → b ≡ true → ⊥) → cond a x (cond b y f) ≡ cond b y (cond a x f)
  swapped true true x y f h = absurd (h refl refl)
  swapped true false x y f h = refl
  swapped false true x y f h = refl
  swapped false false x y f h = refl

  pub found_put : (xs : List T) (k q : K) (y : T) → key y ≡ k → found (beside R key q) (put_in (beside R key k) y xs) ≡ (if eq_by_cmp R q k then Some y else found (beside R key q) xs)
  found_put [] k q y e = ap (λ (b : Bool). if b then Some y else None) (ap (λ (z : K). eq_by_cmp R z q) e ∙ flips k q)
  found_put (x ∷ xs) k q y e = elim (cases_Bool (is_lt (R (key x) k))) [
    | inl l ↦ rw l (ap (cond (eq_by_cmp R (key x) q) (Some x)) (found_put xs k q y e)
        ∙ swapped (eq_by_cmp R (key x) q) (eq_by_cmp R q k) (Some x) (Some y) (found (beside R key q) xs) (λ a b. less_apart (R (key x) k) l (apart x k q a b)))
    | inr l ↦ rw l (ap (λ (b : Bool). if b then Some y else found (beside R key q) (x ∷ xs)) (ap (λ (z : K). eq_by_cmp R z q) e ∙ flips k q))
  ]

  same_again : (a b : Bool) (x y f : Option T) → a ≡ b → cond a y f ≡ cond b y (cond a x f)
  same_again true true x y f e = refl
  same_again false false x y f e = refl
  same_again true false x y f e = cc
  same_again false true x y f e = cc

  pub found_set : (xs : List T) (k q : K) (y z : T) → key y ≡ k → found (beside R key k) xs ≡ Some z → found (beside R key q) (set_in (beside R key k) y xs) ≡ (if eq_by_cmp R q k then Some y else found (beside R key q) xs)
  found_set [] k q y z e f = absurd (no_some z (sym f))
  found_set (x ∷ xs) k q y z e f = elim (cases_Bool (eq_by_cmp R (key x) k)) [
    | inl s ↦ (let is : eq_by_cmp R (key x) q ≡ eq_by_cmp R q k = ap (λ (z : K). eq_by_cmp R z q) (same (key x) k s) ∙ flips k q in
        rw s (ap (λ (z : K). if eq_by_cmp R z q then Some y else found (beside R key q) xs) (e ∙ sym (same (key x) k s))
        ∙ same_again (eq_by_cmp R (key x) q) (eq_by_cmp R q k) (Some x) (Some y) (found (beside R key q) xs) is))
    | inr s ↦ (let g : found (beside R key k) xs ≡ Some z = rw s at f in
        rw s (ap (cond (eq_by_cmp R (key x) q) (Some x)) (found_set xs k q y z e g)
        ∙ swapped (eq_by_cmp R (key x) q) (eq_by_cmp R q k) (Some x) (Some y) (found (beside R key q) xs) (λ a b. clash (eq_by_cmp R (key x) k) s (apart x k q a b))))
  ]
    where
      clash : (b : Bool) → b ≡ false → b ≡ true → ⊥
      clash b f t = cc

  none_again : (a b : Bool) (x f : Option T) → a ≡ b → (b ≡ true → f ≡ None) → f ≡ cond b None (cond a x f)
  none_again true true x f e h = h refl
  none_again false false x f e h = refl
  none_again true false x f e h = cc
  none_again false true x f e h = cc

  nothing : (b : Bool) → ◌≡◌ {A = Option T} None (cond b None None)
  nothing true = refl
  nothing false = refl

  pub found_take : (xs : List T) (k q : K) → Rise R key xs → found (beside R key q) (take_out (beside R key k) xs) ≡ (if eq_by_cmp R q k then None else found (beside R key q) xs)
  found_take [] k q r = nothing (eq_by_cmp R q k)
  found_take (x ∷ xs) k q r = elim (cases_Bool (eq_by_cmp R (key x) k)) [
    | inl s ↦ (let is : eq_by_cmp R (key x) q ≡ eq_by_cmp R q k = ap (λ (z : K). eq_by_cmp R z q) (same (key x) k s) ∙ flips k q in
        rw s (none_again (eq_by_cmp R (key x) q) (eq_by_cmp R q k) (Some x) (found (beside R key q) xs) is
        (λ t. none_above (beside R key q) xs (above_after (key x) q xs r.0 (inl (same (key x) q (is ∙ t)))))))
    | inr s ↦ rw s (ap (cond (eq_by_cmp R (key x) q) (Some x)) (found_take xs k q r.1)
        ∙ swapped (eq_by_cmp R (key x) q) (eq_by_cmp R q k) (Some x) None (found (beside R key q) xs) (λ a b. clash (eq_by_cmp R (key x) k) s (apart x k q a b)))
  ]
    where
      clash : (b : Bool) → b ≡ false → b ≡ true → ⊥
      clash b f t = cc

  -- keys that rise do so after an edit
  after_put : (a k : K) (y : T) (xs : List T) → key y ≡ k → R a k ≡ Less → AllAfter R key a xs → AllAfter R key a (put_in (beside R key k) y xs)
  after_put a k y [] e l h = (subst (λ (z : K). R a z ≡ Less) (sym e) l, tt)
  after_put a k y (x ∷ xs) e l h = elim (cases_Bool (is_lt (R (key x) k))) [
    | inl s ↦ rw s (h.0, after_put a k y xs e l h.1)
    | inr s ↦ rw s (subst (λ (z : K). R a z ≡ Less) (sym e) l, (h.0, h.1))
  ]

  pub rise_put : (xs : List T) (k : K) (y : T) → key y ≡ k → found (beside R key k) xs ≡ None → Rise R key xs → Rise R key (put_in (beside R key k) y xs)
  rise_put [] k y e n r = (tt, tt)
  rise_put (x ∷ xs) k y e n r = by (R (key x) k) refl (λ m. rise_put xs k y e m r.1)
    where
      above : R (key x) k ≡ Greater → R (key y) (key x) ≡ Less
      above p = subst (λ (z : K). R z (key x) ≡ Less) (sym e) (turn (key x) k Greater p)

      by : (o : Ordering) → R (key x) k ≡ o → (found (beside R key k) xs ≡ None → Rise R key (put_in (beside R key k) y xs)) → Rise R key (put_in (beside R key k) y (x ∷ xs))
      by Less p later = rw p (after_put (key x) k y xs e p r.0, later (rw p at n))
      by Equal p later = absurd (no_some x (rw p at n))
      by Greater p later = rw p ((above p, after_trans (key y) (key x) xs (above p) r.0), (r.0, r.1))

  after_set : (a k : K) (y : T) (xs : List T) → key y ≡ k → AllAfter R key a xs → AllAfter R key a (set_in (beside R key k) y xs)
  after_set a k y [] e h = tt
  after_set a k y (x ∷ xs) e h = elim (cases_Bool (eq_by_cmp R (key x) k)) [
    | inl s ↦ rw s (subst (λ (z : K). R a z ≡ Less) (same (key x) k s ∙ sym e) h.0, h.1)
    | inr s ↦ rw s (h.0, after_set a k y xs e h.1)
  ]

  pub rise_set : (xs : List T) (k : K) (y : T) → key y ≡ k → Rise R key xs → Rise R key (set_in (beside R key k) y xs)
  rise_set [] k y e r = tt
  rise_set (x ∷ xs) k y e r = elim (cases_Bool (eq_by_cmp R (key x) k)) [
    | inl s ↦ rw s (subst (λ (z : K). AllAfter R key z xs) (same (key x) k s ∙ sym e) r.0, r.1)
    | inr s ↦ rw s (after_set (key x) k y xs e r.0, rise_set xs k y e r.1)
  ]

  after_take : (a k : K) (xs : List T) → AllAfter R key a xs → AllAfter R key a (take_out (beside R key k) xs)
  after_take a k [] h = tt
  after_take a k (x ∷ xs) h = elim (cases_Bool (eq_by_cmp R (key x) k)) [
    | inl s ↦ rw s h.1
    | inr s ↦ rw s (h.0, after_take a k xs h.1)
  ]

  pub rise_take : (xs : List T) (k : K) → Rise R key xs → Rise R key (take_out (beside R key k) xs)
  rise_take [] k r = tt
  rise_take (x ∷ xs) k r = elim (cases_Bool (eq_by_cmp R (key x) k)) [
    | inl s ↦ rw s r.1
    | inr s ↦ rw s (after_take (key x) k xs r.0, rise_take xs k r.1)
  ]
