-- The order of texts finds those that begin with one another.
use Rattle.std.proofs.Common.{◌≡◌, ◌≢◌, ℕ, ◌<◌, ◌≤◌, List, [], ◌∷◌, ◌++◌, Bool, true, false, refl, sym, ap, ◌∙◌, subst, arith, inl, inr, length, take}
use Rattle.std.specs.Prelude.{◌||◌, ◌&&◌, ◌⊎◌, not, nat_lt, nat_eq, ◌==◌, cond, if◌then◌else◌}
use Rattle.std.specs.declared.cmp.Ordering.{Ordering}
use Rattle.std.specs.declared.cmp.Ordering.TheVariants.{Less, Equal, Greater}
use Rattle.std.specs.Ordering.{is_gt, is_lt, is_eq, ordering_then, nat_cmp, match_ordering}
use Rattle.std.specs.Str.{bytes_eq}
use Rattle.std.specs.List.{list_any, starts_with, slice_get}
use Rattle.std.specs.Cmp.Lexicographic.{slice_cmp}
use Rattle.std.specs.BTreeMap.{is_at}
use Rattle.std.specs.BTreeSet.{BTreeSet, insert_key, IsKeyRangeOf, IsKeyInRange}
use Rattle.std.specs.BTreeMap.Range.{IsLeBy}
use Rattle.std.specs.Option.{IfSome}
use Rattle.std.specs.declared.ops.Bound.{Bound}
use Rattle.std.specs.declared.ops.Bound.TheVariants.{Included, Unbounded}
use Rattle.std.proofs.lemmas.Bool.{cases_Bool, and_parts}
use Rattle.std.proofs.lemmas.Grind.{common_steps}
use Rattle.std.proofs.lemmas.Slice.Eq.{bytes_eq-Decides}
use Rattle.std.proofs.lemmas.Map.Text.{is_eq-slice_cmp}
use Rattle.update_ops.specs.Prefixes.{Text, starts, clash, has, has_front, IsBehind, IsPrefixFree}
use Rattle.std.specs.Set.{remove_key}
use Rattle.std.proofs.lemmas.Map.Made.{length-remove_key}

-- ---- one byte and what is behind it

not_gt : (x y : ℕ) (o : Ordering) → is_gt (ordering_then (nat_cmp x y) o) ≡ false → (x < y) ⊎ ((x ≡ y) × (is_gt o ≡ false))
not_gt x y o h =
    elim (cases_Bool (nat_lt x y)) [
      | inl a ↦ inl (grind (arith, common_steps))
      | inr a ↦ elim (cases_Bool (x == y)) [
        | inl b ↦ (let e : is_gt o ≡ false = rw (a, b) at h in inr (grind (arith, common_steps), e))
        | inr b ↦ (let e : true ≡ false = rw (a, b) at h in cc)
      ]
    ]

not_lt : (x y : ℕ) (o : Ordering) → is_lt (ordering_then (nat_cmp x y) o) ≡ false → (y < x) ⊎ ((x ≡ y) × (is_lt o ≡ false))
not_lt x y o h =
    elim (cases_Bool (nat_lt x y)) [
      | inl a ↦ (let e : true ≡ false = rw a at h in cc)
      | inr a ↦ elim (cases_Bool (x == y)) [
        | inl b ↦ (let e : is_lt o ≡ false = rw (a, b) at h in inr (grind (arith, common_steps), e))
        | inr b ↦ inl (grind (arith, common_steps))
      ]
    ]

test_is : (x y : ℕ) → (x == y) ≡ true → x ≡ y
test_is x y e = grind (arith, common_steps)

is_test : (x y : ℕ) → x ≡ y → (x == y) ≡ true
is_test x y e = grind (arith, common_steps)

-- ---- between a text and one that begins with it, all begin with it

pub between : (s t u : Text) → starts s u ≡ true → is_gt (slice_cmp nat_cmp s t) ≡ false → is_gt (slice_cmp nat_cmp t u) ≡ false → starts s t ≡ true
between [] t u h a b = refl
between (x ∷ s) t [] h a b = cc
between (x ∷ s) [] (z ∷ u) h a b = cc
between (x ∷ s) (y ∷ t) (z ∷ u) h a b =
    let k = and_parts (x == z) (starts s u) h in
    let e = test_is x z k.0 in
    next (not_gt x y (slice_cmp nat_cmp s t) a) (not_gt y z (slice_cmp nat_cmp t u) b) e (between s t u k.1)
  where
    next : (x < y) ⊎ ((x ≡ y) × (is_gt (slice_cmp nat_cmp s t) ≡ false)) → (y < z) ⊎ ((y ≡ z) × (is_gt (slice_cmp nat_cmp t u) ≡ false)) → x ≡ z →
        (is_gt (slice_cmp nat_cmp s t) ≡ false → is_gt (slice_cmp nat_cmp t u) ≡ false → starts s t ≡ true) → (x == y) && starts s t ≡ true
    next (inl l) (inl m) e ih = absurd (omega arith)
    next (inl l) (inr m) e ih = let f = m.0 in absurd (omega arith)
    next (inr l) (inl m) e ih = let f = l.0 in absurd (omega arith)
    next (inr l) (inr m) e ih = rw (is_test x y l.0, ih l.1 m.1) refl

-- the same with the other test of the lower bound
pub between_from : (s t u : Text) → starts s u ≡ true → is_lt (slice_cmp nat_cmp t s) ≡ false → is_gt (slice_cmp nat_cmp t u) ≡ false → starts s t ≡ true
between_from [] t u h a b = refl
between_from (x ∷ s) t [] h a b = cc
between_from (x ∷ s) [] (z ∷ u) h a b = cc
between_from (x ∷ s) (y ∷ t) (z ∷ u) h a b =
    let k = and_parts (x == z) (starts s u) h in
    let e = test_is x z k.0 in
    next (not_lt y x (slice_cmp nat_cmp t s) a) (not_gt y z (slice_cmp nat_cmp t u) b) e (between_from s t u k.1)
  where
    next : (x < y) ⊎ ((y ≡ x) × (is_lt (slice_cmp nat_cmp t s) ≡ false)) → (y < z) ⊎ ((y ≡ z) × (is_gt (slice_cmp nat_cmp t u) ≡ false)) → x ≡ z →
        (is_lt (slice_cmp nat_cmp t s) ≡ false → is_gt (slice_cmp nat_cmp t u) ≡ false → starts s t ≡ true) → (x == y) && starts s t ≡ true
    next (inl l) (inl m) e ih = absurd (omega arith)
    next (inl l) (inr m) e ih = let f = m.0 in absurd (omega arith)
    next (inr l) (inl m) e ih = let f = l.0 in absurd (omega arith)
    next (inr l) (inr m) e ih = rw (is_test x y (sym l.0), ih l.1 m.1) refl

-- a text isn't above one that begins with it
pub not_above : (s t : Text) → starts s t ≡ true → is_gt (slice_cmp nat_cmp s t) ≡ false
not_above [] [] h = refl
not_above [] (y ∷ t) h = refl
not_above (x ∷ s) [] h = cc
not_above (x ∷ s) (y ∷ t) h = let k = and_parts (x == y) (starts s t) h in at (test_is x y k.0) (not_above s t k.1)
  where
    at : x ≡ y → is_gt (slice_cmp nat_cmp s t) ≡ false → is_gt (ordering_then (nat_cmp x y) (slice_cmp nat_cmp s t)) ≡ false
    at e ih = let a : nat_lt x y ≡ false = grind (arith, common_steps) in rw (a, is_test x y e) ih

-- ---- members

pub any_has : (p : Text → Bool) (ts : List Text) → list_any p ts ≡ true → (t : Text) × (has ts t ≡ true) × (p t ≡ true)
any_has p [] e = cc
any_has p (t ∷ ts) e =
    elim (cases_Bool (p t)) [
      | inl c ↦ (t, rw ((bytes_eq-Decides t t).1 refl) refl, c)
      | inr c ↦ (let r = any_has p ts (rw c at e) in (r.0, later (bytes_eq r.0 t) r.1, r.2))
    ]
  where
    later : (b : Bool) {c : Bool} → c ≡ true → b || c ≡ true
    later true e = refl
    later false e = e

pub has_any : (p : Text → Bool) (ts : List Text) (t : Text) → has ts t ≡ true → p t ≡ true → list_any p ts ≡ true
has_any p [] t h e = cc
has_any p (s ∷ ts) t h e =
    elim (cases_Bool (bytes_eq t s)) [
      | inl c ↦ (let f : p s ≡ true = subst (λ (z : Text). p z ≡ true) ((bytes_eq-Decides t s).0 c) e in rw f refl)
      | inr c ↦ (let g : list_any p ts ≡ true = has_any p ts t (rw c at h) e in grind arith)
    ]

pub contains_has : (ts : List Text) (t : Text) → list_any (is_at (slice_cmp nat_cmp t)) ts ≡ has ts t
contains_has [] t = refl
contains_has (s ∷ ts) t = rw (is_eq-slice_cmp t s, contains_has ts t) refl

-- ---- a text more

pub any_insert : (p : Text → Bool) (ts : List Text) (t : Text) → list_any p (insert_key (slice_cmp nat_cmp) ts t) ≡ p t || list_any p ts
any_insert p [] t = refl
any_insert p (s ∷ ts) t = by (slice_cmp nat_cmp t s) refl (any_insert p ts t)
  where
    same : slice_cmp nat_cmp t s ≡ Equal → t ≡ s
    same e = (bytes_eq-Decides t s).0 (sym (is_eq-slice_cmp t s) ∙ ap is_eq e)

    by : (o : Ordering) → slice_cmp nat_cmp t s ≡ o → list_any p (insert_key (slice_cmp nat_cmp) ts t) ≡ p t || list_any p ts →
        list_any p (match_ordering o (t ∷ (s ∷ ts)) (s ∷ ts) (s ∷ insert_key (slice_cmp nat_cmp) ts t)) ≡ p t || (p s || list_any p ts)
    by Less e ih = refl
    by Equal e ih = let f : p t ≡ p s = ap p (same e) in grind arith
    by Greater e ih = grind arith

pub free_insert : (ts : List Text) (t : Text) → IsPrefixFree ts → list_any (clash t) ts ≡ false → IsPrefixFree (insert_key (slice_cmp nat_cmp) ts t)
free_insert ts t free none a b ha hb e = by (member a ha) (member b hb)
  where
    member : (s : Text) → has (insert_key (slice_cmp nat_cmp) ts t) s ≡ true → (s ≡ t) ⊎ (has ts s ≡ true)
    member s h =
        let f : bytes_eq s t || has ts s ≡ true = sym (any_insert (bytes_eq s) ts t) ∙ h in
        elim (cases_Bool (bytes_eq s t)) [ inl c ↦ inl ((bytes_eq-Decides s t).0 c) | inr c ↦ inr (rw c at f) ]

    no : (s : Text) → has ts s ≡ true → clash t s ≡ true → ⊥
    no s h c = let f : list_any (clash t) ts ≡ true = has_any (clash t) ts s h c in let g : true ≡ false = sym f ∙ none in cc

    by : (a ≡ t) ⊎ (has ts a ≡ true) → (b ≡ t) ⊎ (has ts b ≡ true) → a ≡ b
    by (inl x) (inl y) = x ∙ sym y
    by (inl x) (inr y) = let f : starts t b ≡ true = subst (λ (z : Text). starts z b ≡ true) x e in absurd (no b y (grind arith))
    by (inr x) (inl y) = let f : starts a t ≡ true = subst (λ (z : Text). starts a z ≡ true) y e in absurd (no a x (grind arith))
    by (inr x) (inr y) = free a b x y e

pub prefix_is : (s t : Text) → starts_with nat_eq t s ≡ starts s t
prefix_is [] t = refl
prefix_is (x ∷ s) [] = refl
prefix_is (x ∷ s) (y ∷ t) = ap (λ (b : Bool). (x == y) && b) (prefix_is s t)

-- ---- what the neighbours of a text tell

either : (p : Text → Bool) (ts : List Text) (t : Text) → has ts t ≡ true → ((u : Text) → has ts u ≡ true → p u ≡ true → p t ≡ true) → p t ≡ list_any p ts
either p ts t h k =
    elim (cases_Bool (list_any p ts)) [
      | inl c ↦ (let r = any_has p ts c in k r.0 r.1 r.2 ∙ sym c)
      | inr c ↦ elim (cases_Bool (p t)) [
        | inl d ↦ (let f : list_any p ts ≡ true = has_any p ts t h d in let g : true ≡ false = sym f ∙ c in cc)
        | inr d ↦ d ∙ sym c
      ]
    ]

neither : (p : Text → Bool) (ts : List Text) → ((u : Text) → has ts u ≡ true → p u ≡ true → ⊥) → false ≡ list_any p ts
neither p ts k = elim (cases_Bool (list_any p ts)) [ inl c ↦ (let r = any_has p ts c in absurd (k r.0 r.1 r.2)) | inr c ↦ sym c ]

-- the first text that isn't below this one
pub next_tells : (ts : List Text) (s t : Text) → has ts t ≡ true → is_gt (slice_cmp nat_cmp s t) ≡ false →
    ((u : Text) → is_gt (slice_cmp nat_cmp s u) ≡ false → has ts u ≡ true → is_gt (slice_cmp nat_cmp t u) ≡ false) → starts s t ≡ list_any (starts s) ts
next_tells ts s t h l least = either (starts s) ts t h (λ u k e. between s t u e l (least u (not_above s u e) k))

-- the last text that isn't above this one, where none begins with another
pub last_tells : (ts : List Text) (s t : Text) → IsPrefixFree ts → has ts t ≡ true → is_gt (slice_cmp nat_cmp t s) ≡ false →
    ((u : Text) → is_gt (slice_cmp nat_cmp u s) ≡ false → has ts u ≡ true → is_lt (slice_cmp nat_cmp t u) ≡ false) → starts t s ≡ list_any (λ u. starts u s) ts
last_tells ts s t free h l most = either (λ u. starts u s) ts t h (λ u k e.
    let f : u ≡ t = free u t k h (between_from u t s e (most u (not_above u s e) k) l) in subst (λ (z : Text). starts z s ≡ true) f e)

pub none_goes_on : (ts : List Text) (s : Text) → ((u : Text) → is_gt (slice_cmp nat_cmp s u) ≡ false → has ts u ≡ false) → false ≡ list_any (starts s) ts
none_goes_on ts s none = neither (starts s) ts (λ u h e. let f : true ≡ false = sym h ∙ none u (not_above s u e) in cc)

pub none_in_front : (ts : List Text) (s : Text) → ((u : Text) → is_gt (slice_cmp nat_cmp u s) ≡ false → has ts u ≡ false) → false ≡ list_any (λ u. starts u s) ts
none_in_front ts s none = neither (λ u. starts u s) ts (λ u h e. let f : true ≡ false = sym h ∙ none u (not_above u s e) in cc)

-- ---- either way

pub any_clash : (ts : List Text) (s : Text) → list_any (clash s) ts ≡ list_any (starts s) ts || list_any (λ u. starts u s) ts
any_clash [] s = refl
any_clash (t ∷ ts) s = let ih = any_clash ts s in grind (arith, ih)

-- ---- what the ranges of a set tell

abbrev order : Text → Text → Ordering
order = slice_cmp nat_cmp

abbrev pub RangeFrom : BTreeSet Text → Text → List Text → Type 0
RangeFrom set s r = IsKeyRangeOf (slice_cmp nat_cmp) (Included s) Unbounded set r

abbrev pub RangeUpTo : BTreeSet Text → Text → List Text → Type 0
RangeUpTo set s r = IsKeyRangeOf (slice_cmp nat_cmp) Unbounded (Included s) set r

pub goes_on_by : (set : BTreeSet Text) (s x : Text) (r t : List Text) → r ≡ x ∷ t → RangeFrom set s r → starts s x ≡ list_any (starts s) set.keys
goes_on_by set s x r t e k =
    let first : IsKeyInRange order (Included s) Unbounded set x = subst (λ (l : List Text). IfSome (slice_get l 0) (IsKeyInRange order (Included s) Unbounded set)) e k.1 in
    next_tells set.keys s x (sym (contains_has set.keys x) ∙ first.1) first.0.0 (λ u l h.
    subst (λ (l : List Text). IfSome (slice_get l 0) (λ k. IsLeBy order k u)) e (k.2 u (l, tt) (contains_has set.keys u ∙ h)))

pub none_goes_on_by : (set : BTreeSet Text) (s : Text) (r : List Text) → r ≡ [] → RangeFrom set s r → false ≡ list_any (starts s) set.keys
none_goes_on_by set s r e k = none_goes_on set.keys s (λ u l. sym (contains_has set.keys u) ∙ k.5 e u (l, tt))

pub front_by : (set : BTreeSet Text) (s x : Text) (r t : List Text) → IsPrefixFree set.keys → r ≡ t ++ x ∷ [] → RangeUpTo set s r → starts x s ≡ list_any (λ u. starts u s) set.keys
front_by set s x r t free e k =
    let last = k.3 x t e in
    last_tells set.keys s x free (sym (contains_has set.keys x) ∙ last.1) last.0.1 (λ u l h. k.4 x t e u (tt, l) (contains_has set.keys u ∙ h))

pub no_front_by : (set : BTreeSet Text) (s : Text) (r : List Text) → r ≡ [] → RangeUpTo set s r → false ≡ list_any (λ u. starts u s) set.keys
no_front_by set s r e k = none_in_front set.keys s (λ u l. sym (contains_has set.keys u) ∙ k.5 e u (tt, l))

-- ---- fronts of fronts

pub starts_trans : (s t u : Text) → starts s t ≡ true → starts t u ≡ true → starts s u ≡ true
starts_trans [] t u a b = refl
starts_trans (x ∷ s) [] u a b = cc
starts_trans (x ∷ s) (y ∷ t) [] a b = cc
starts_trans (x ∷ s) (y ∷ t) (z ∷ u) a b =
    let h = and_parts (x == y) (starts s t) a in
    let k = and_parts (y == z) (starts t u) b in
    rw (is_test x z (test_is x y h.0 ∙ test_is y z k.0), starts_trans s t u h.1 k.1) refl

-- what has a front among the texts adds nothing to what they are fronts of
pub front_adds_none : (ts : List Text) (s t : Text) → has_front ts s ≡ true → has_front ts t ≡ starts s t || has_front ts t
front_adds_none ts s t h =
    elim (cases_Bool (starts s t)) [
      | inl c ↦ (let r = any_has (λ u. starts u s) ts h in
          let f : has_front ts t ≡ true = has_any (λ u. starts u t) ts r.0 r.1 (starts_trans r.0 s t r.2 c) in rw (c, f) refl)
      | inr c ↦ rw c refl
    ]

-- ---- a text less

abbrev removed : List Text → Text → List Text
removed ts s = remove_key (is_at (slice_cmp nat_cmp s)) ts

pub any_removed : (p : Text → Bool) (ts : List Text) (s : Text) → has ts s ≡ true → list_any p ts ≡ p s || list_any p (removed ts s)
any_removed p [] s h = cc
any_removed p (t ∷ ts) s h = by (is_eq (slice_cmp nat_cmp s t)) (is_eq-slice_cmp s t) (any_removed p ts s)
  where
    by : (b : Bool) → b ≡ bytes_eq s t → (has ts s ≡ true → list_any p ts ≡ p s || list_any p (removed ts s)) →
        p t || list_any p ts ≡ p s || list_any p (cond b ts (t ∷ removed ts s))
    by true e ih = let f : p s ≡ p t = ap p ((bytes_eq-Decides s t).0 (sym e)) in grind arith
    by false e ih = let f : has ts s ≡ true = rw (sym e) at h in let g = ih f in grind arith

pub fewer_removed : (p : Text → Bool) (ts : List Text) (s : Text) → has ts s ≡ true → list_any p ts ≡ false → list_any p (removed ts s) ≡ false
fewer_removed p ts s h e = let f = sym (any_removed p ts s h) ∙ e in grind arith

pub free_removed : (ts : List Text) (s : Text) → has ts s ≡ true → IsPrefixFree ts → IsPrefixFree (removed ts s)
free_removed ts s h free a b ha hb e = free a b (more a ha) (more b hb) e
  where
    more : (t : Text) → has (removed ts s) t ≡ true → has ts t ≡ true
    more t k = any_removed (bytes_eq t) ts s h ∙ (let f : bytes_eq t s || true ≡ true = grind arith in rw k f)

-- a text that begins with s is taken out
pub front_removed : (ts : List Text) (s next t : Text) → IsBehind s next ts → starts s t || has_front (removed ts next) t ≡ starts s t || has_front ts t
front_removed ts s next t h =
    let e = any_removed (λ u. starts u t) ts next h.0 in
    elim (cases_Bool (starts next t)) [
      | inl c ↦ (let f : starts s t ≡ true = starts_trans s next t h.1 c in rw f refl)
      | inr c ↦ (let g : has_front ts t ≡ has_front (removed ts next) t = e ∙ rw c refl in rw g refl)
    ]

pub shorter : (ts : List Text) (s : Text) → has ts s ≡ true → length (removed ts s) < length ts
shorter ts s h = let e = length-remove_key (is_at (slice_cmp nat_cmp s)) ts (contains_has ts s ∙ h) in omega arith

pub first_has : (set : BTreeSet Text) (s x : Text) (r t : List Text) → r ≡ x ∷ t → RangeFrom set s r → has set.keys x ≡ true
first_has set s x r t e k =
    let first : IsKeyInRange order (Included s) Unbounded set x = subst (λ (l : List Text). IfSome (slice_get l 0) (IsKeyInRange order (Included s) Unbounded set)) e k.1 in
    sym (contains_has set.keys x) ∙ first.1

pub no_clash : (ts : List Text) (s : Text) → list_any (starts s) ts ≡ false → has_front ts s ≡ false → list_any (clash s) ts ≡ false
no_clash ts s a b = any_clash ts s ∙ rw (a, b) refl
