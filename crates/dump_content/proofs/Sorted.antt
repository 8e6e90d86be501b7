-- The entries of a map are in order, each name once.
use Rattle.std.proofs.Common.{◌≡◌, List, [], ◌∷◌, Bool, true, false, cond, refl, sym, ap, ◌∙◌, subst, Option, Some, None}
use Rattle.std.specs.Prelude.{⊤, ◌&&◌, T}
use Rattle.std.specs.Ordering.{is_lt, is_eq, eq_by_cmp}
use Rattle.std.specs.FinMap as map
use Rattle.std.specs.FinMap.Entries.{below_all, is_sorted}
use Rattle.std.specs.declared.cmp.Ordering.{Ordering}
use Rattle.std.specs.declared.cmp.Ordering.TheVariants.{Less, Equal, Greater}

pub first_of : (a b : Bool) → T (a && b) → T a
first_of true b p = tt
first_of false b p = p

pub second_of : (a b : Bool) → T (a && b) → T b
second_of true b p = p
second_of false b p = absurd p

less_not : {K : Type 0} (R : K → K → Ordering) → ((a : K) → eq_by_cmp R a a ≡ true) → (a b : K) → T (is_lt (R a b)) → a ≡ b → ⊥
less_not R self a b p e = by (R a b) refl p
  where
    by : (o : Ordering) → R a b ≡ o → T (is_lt o) → ⊥
    by Less f q = (let g = subst (λ (z : _). eq_by_cmp R a z ≡ true) e (self a) in let h : eq_by_cmp R a b ≡ false = ap is_eq f in cc)
    by Equal f q = q
    by Greater f q = q

module _ {K X : Type 0} (R : K → K → Ordering) (self : (a : K) → eq_by_cmp R a a ≡ true) (same : (a b : K) → eq_by_cmp R a b ≡ true → a ≡ b) where
  -- of each entry
  abbrev pub AllEntries : (K → X → Type 0) → List (K × X) → Type 0
  AllEntries P [] = ⊤
  AllEntries P (e ∷ es) = P e.0 e.1 × AllEntries P es

  -- each entry's name comes behind this one, so it isn't it
  pub below_apart : (k : K) (es : List (K × X)) → T (below_all R k es) → AllEntries (λ q v. k ≡ q → ⊥) es
  below_apart k [] h = tt
  below_apart k (e ∷ es) h = (less_not R self k e.0 (first_of (is_lt (R k e.0)) (below_all R k es) h), below_apart k es (second_of (is_lt (R k e.0)) (below_all R k es) h))

  none_found : (k : K) (es : List (K × X)) → AllEntries (λ q v. k ≡ q → ⊥) es → map.find R k es ≡ None
  none_found k [] h = refl
  none_found k (e ∷ es) h = by (eq_by_cmp R k e.0) refl (none_found k es h.1)
    where
      by : (b : Bool) → eq_by_cmp R k e.0 ≡ b → map.find R k es ≡ None → map.find R k (e ∷ es) ≡ None
      by true q r = absurd (h.0 (same k e.0 q))
      by false q r = ap (λ (b : Bool). cond b (Some e.1) (map.find R k es)) q ∙ r

  pub head_apart : (e : K × X) (es : List (K × X)) → T (is_sorted R (e ∷ es)) → AllEntries (λ q v. e.0 ≡ q → ⊥) es
  head_apart e es h = below_apart e.0 es (first_of (below_all R e.0 es) (is_sorted R es) h)

  pub tail_sorted : (e : K × X) (es : List (K × X)) → T (is_sorted R (e ∷ es)) → T (is_sorted R es)
  tail_sorted e es h = second_of (below_all R e.0 es) (is_sorted R es) h

  pub head_alone : (e : K × X) (es : List (K × X)) → T (is_sorted R (e ∷ es)) → map.find R e.0 es ≡ None
  head_alone e es h = none_found e.0 es (head_apart e es h)

  -- what holds of all that is found holds of each entry
  pub each_entry : (P : K → X → Type 0) (es : List (K × X)) → T (is_sorted R es) → ((k : K) (v : X) → map.find R k es ≡ Some v → P k v) → AllEntries P es
  each_entry P [] h f = tt
  each_entry P (e ∷ es) h f = (f e.0 e.1 (ap (λ (b : Bool). cond b (Some e.1) (map.find R e.0 es)) (self e.0)), each_entry P es (tail_sorted e es h) (λ k v g. f k v (still k v g)))
    where
      still : (k : K) (v : X) → map.find R k es ≡ Some v → map.find R k (e ∷ es) ≡ Some v
      still k v g = by (eq_by_cmp R k e.0) refl
        where
          by : (b : Bool) → eq_by_cmp R k e.0 ≡ b → map.find R k (e ∷ es) ≡ Some v
          by true q = (let n = head_alone e es h in let m : map.find R k es ≡ None = subst (λ (z : K). map.find R z es ≡ None) (sym (same k e.0 q)) n in cc)
          by false q = ap (λ (b : Bool). cond b (Some e.1) (map.find R k es)) q ∙ g

  -- entries put one after the other
  abbrev pub put_all : map.FinMap R X → List (K × X) → map.FinMap R X
  put_all m [] = m
  put_all m (e ∷ es) = put_all (map.insert m e.0 e.1) es

  abbrev pub or_in : Option X → Option X → Option X
  or_in None o = o
  or_in (Some v) o = Some v

  pub get_put : ((m : map.FinMap R X) (k : K) (v : X) (q : K) → map.get (map.insert m k v) q ≡ cond (eq_by_cmp R q k) (Some v) (map.get m q)) → (m : map.FinMap R X) (es : List (K × X)) (q : K) → T (is_sorted R es) → map.get (put_all m es) q ≡ or_in (map.find R q es) (map.get m q)
  get_put at m [] q h = refl
  get_put at m (e ∷ es) q h = get_put at (map.insert m e.0 e.1) es q (tail_sorted e es h) ∙ (ap (or_in (map.find R q es)) (at m e.0 e.1 q) ∙ by (eq_by_cmp R q e.0) refl (map.find R q es) refl)
    where
      by : (b : Bool) → eq_by_cmp R q e.0 ≡ b → (o : Option X) → map.find R q es ≡ o → or_in o (cond (eq_by_cmp R q e.0) (Some e.1) (map.get m q)) ≡ or_in (cond (eq_by_cmp R q e.0) (Some e.1) (map.find R q es)) (map.get m q)
      by true f None g = ap (λ (b : Bool). cond b (Some e.1) (map.get m q)) f ∙ sym (ap (λ (b : Bool). or_in (cond b (Some e.1) (map.find R q es)) (map.get m q)) f)
      by true f (Some v) g = (let n = head_alone e es h in let k : map.find R q es ≡ None = subst (λ (z : K). map.find R z es ≡ None) (sym (same q e.0 f)) n in cc)
      by false f None g = ap (λ (b : Bool). cond b (Some e.1) (map.get m q)) f ∙ sym (ap (λ (b : Bool). or_in (cond b (Some e.1) (map.find R q es)) (map.get m q)) f ∙ ap (λ (o : Option X). or_in o (map.get m q)) g)
      by false f (Some v) g = sym (ap (λ (b : Bool). or_in (cond b (Some e.1) (map.find R q es)) (map.get m q)) f ∙ ap (λ (o : Option X). or_in o (map.get m q)) g)
