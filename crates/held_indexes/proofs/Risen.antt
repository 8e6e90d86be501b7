-- Lists of entries whose keys rise: each entry is found under its key, and no two are of one key.
use Rattle.std.proofs.Common.{◌≡◌, List, [], ◌∷◌, Bool, true, false, cond, refl, sym, ap, ◌∙◌, Option, Some, None, inl, inr}
use Rattle.std.specs.Prelude.{⊤, ◌⊎◌, T, if◌then◌else◌}
use Rattle.std.specs.Ordering.{is_eq, is_lt}
use Rattle.std.specs.declared.cmp.Ordering.{Ordering}
use Rattle.std.specs.declared.cmp.Ordering.TheVariants.{Less, Equal, Greater}
use Rattle.std.specs.FinMap as map
use Rattle.std.specs.FinMap.Entries.{below_all}
use Rattle.std.proofs.lemmas.Bool.{cases_Bool}
use Rattle.state_model.specs.Keys.{Key, key_cmp, same_key}
use Rattle.state_model.proofs.Keys.{key_is, key_refl}
use Rattle.index_build.proofs.Built.{first, second}

module _ {X : Type 0} where
  is_less : (o : Ordering) (x y : Option X) → T (is_lt o) → cond (is_eq o) x y ≡ y
  is_less Less x y t = refl
  is_less Equal x y t = absurd t
  is_less Greater x y t = absurd t

  -- nothing stands under a key that is below all
  none_below : (k : Key) (es : List (Key × X)) → T (below_all key_cmp k es) → map.find key_cmp k es ≡ None
  none_below k [] t = refl
  none_below k (e ∷ es) t = is_less (key_cmp k e.0) (Some e.1) (map.find key_cmp k es) (first (is_lt (key_cmp k e.0)) (below_all key_cmp k es) t) ∙ none_below k es (second (is_lt (key_cmp k e.0)) (below_all key_cmp k es) t)

  found_head : (e : Key × X) (es : List (Key × X)) → map.find key_cmp e.0 (e ∷ es) ≡ Some e.1
  found_head e es = ap (λ (b : Bool). cond b (Some e.1) (map.find key_cmp e.0 es)) (key_refl e.0)

  not_both : (v : X) → None ≡ Some v → ⊥
  not_both v e = cc

  -- what is found behind an entry is of another key
  pub other_key : (e : Key × X) (es : List (Key × X)) (k : Key) (v : X) → T (below_all key_cmp e.0 es) → map.find key_cmp k es ≡ Some v → same_key k e.0 ≡ false
  other_key e es k v t f = by (cases_Bool (same_key k e.0))
    where
      by : (same_key k e.0 ≡ true) ⊎ (same_key k e.0 ≡ false) → same_key k e.0 ≡ false
      by (inl x) = absurd (not_both v (sym (none_below e.0 es t) ∙ (ap (λ z. map.find key_cmp z es) (sym (key_is k e.0 x)) ∙ f)))
      by (inr x) = x

  pub found_rest : (e : Key × X) (es : List (Key × X)) (k : Key) (v : X) → T (below_all key_cmp e.0 es) → map.find key_cmp k es ≡ Some v → map.find key_cmp k (e ∷ es) ≡ Some v
  found_rest e es k v t f = ap (λ (b : Bool). cond b (Some e.1) (map.find key_cmp k es)) (other_key e es k v t f) ∙ f

  -- a fact of each entry
  abbrev pub Each : (Key → X → Type 0) → List (Key × X) → Type 0
  Each P [] = ⊤
  Each P (e ∷ es) = P e.0 e.1 × Each P es

  pub each_found : (P : Key → X → Type 0) (es : List (Key × X)) → T (map.is_sorted key_cmp es) → ((k : Key) (v : X) → map.find key_cmp k es ≡ Some v → P k v) → Each P es
  each_found P [] s h = tt
  each_found P (e ∷ es) s h =
      (h e.0 e.1 (found_head e es), each_found P es (second (below_all key_cmp e.0 es) (map.is_sorted key_cmp es) s) (λ k v f. h k v (found_rest e es k v (first (below_all key_cmp e.0 es) (map.is_sorted key_cmp es) s) f)))

  -- a relation of each two entries, the earlier one first
  abbrev pub EachTwo : (X → X → Type 0) → List (Key × X) → Type 0
  EachTwo R [] = ⊤
  EachTwo R (e ∷ es) = Each (λ k v. R e.1 v) es × EachTwo R es

  pub each_two : (R : X → X → Type 0) (es : List (Key × X)) → T (map.is_sorted key_cmp es) → ((k q : Key) (v w : X) → map.find key_cmp k es ≡ Some v → map.find key_cmp q es ≡ Some w → same_key q k ≡ false → R v w) → EachTwo R es
  each_two R [] s h = tt
  each_two R (e ∷ es) s h =
      (let b = first (below_all key_cmp e.0 es) (map.is_sorted key_cmp es) s in
      let r = second (below_all key_cmp e.0 es) (map.is_sorted key_cmp es) s in (
        each_found (λ k v. R e.1 v) es r (λ k v f. h e.0 k e.1 v (found_head e es) (found_rest e es k v b f) (other_key e es k v b f)),
        each_two R es r (λ k q v w f g d. h k q v w (found_rest e es k v b f) (found_rest e es q w b g) d),
      ))
