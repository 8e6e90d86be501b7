-- The entries of a map by names: each stands under its name.
use Rattle.std.proofs.Common.{◌≡◌, List, [], ◌∷◌, Bool, true, false, cond, refl, sym, ap, ◌∙◌, Some, None, inl, inr}
use Rattle.std.specs.Prelude.{◌⊎◌, ◌||◌, T}
use Rattle.std.specs.List.{list_any}
use Rattle.std.specs.Ordering.{is_lt}
use Rattle.std.specs.FinMap as map
use Rattle.std.specs.FinMap.Entries.{below_all}
use Rattle.std.proofs.lemmas.Bool.{cases_Bool}
use Rattle.state_model.specs.Keys.{Key, key_cmp, same_key}
use Rattle.state_model.proofs.Keys.{key_is, key_refl}
use Rattle.index_build.proofs.Built.{is_less, first, second}

module _ {X : Type 0} where
  -- nothing stands under a key that is below all
  none_below : (k : Key) (es : List (Key × X)) → T (below_all key_cmp k es) → map.find key_cmp k es ≡ None
  none_below k [] t = refl
  none_below k (e ∷ es) t = is_less (key_cmp k e.0) (Some e.1) (map.find key_cmp k es) (first (is_lt (key_cmp k e.0)) (below_all key_cmp k es) t) ∙ none_below k es (second (is_lt (key_cmp k e.0)) (below_all key_cmp k es) t)

  no_some : {A : Type 0} (x : X) → None ≡ Some x → A
  no_some x e = cc

  pub sorted_rest : (e : Key × X) (es : List (Key × X)) → T (map.is_sorted key_cmp (e ∷ es)) → T (map.is_sorted key_cmp es)
  sorted_rest e es s = second (below_all key_cmp e.0 es) (map.is_sorted key_cmp es) s

  pub find_here : (e : Key × X) (es : List (Key × X)) → map.find key_cmp e.0 (e ∷ es) ≡ Some e.1
  find_here e es = ap (λ b. cond b (Some e.1) (map.find key_cmp e.0 es)) (key_refl e.0)

  -- what stands behind an entry stands under another key
  pub find_later : (e : Key × X) (es : List (Key × X)) (q : Key) (x : X) → T (map.is_sorted key_cmp (e ∷ es)) → map.find key_cmp q es ≡ Some x → map.find key_cmp q (e ∷ es) ≡ Some x
  find_later e es q x s f = by (cases_Bool (same_key q e.0))
    where
      by : (same_key q e.0 ≡ true) ⊎ (same_key q e.0 ≡ false) → cond (same_key q e.0) (Some e.1) (map.find key_cmp q es) ≡ Some x
      by (inl t) = no_some x (sym (none_below e.0 es (first (below_all key_cmp e.0 es) (map.is_sorted key_cmp es) s)) ∙ (ap (λ (k : Key). map.find key_cmp k es) (sym (key_is q e.0 t)) ∙ f))
      by (inr t) = rw t f

  -- an entry that passes a test stands under its key
  pub found_entry : (p : Key × X → Bool) (es : List (Key × X)) → T (map.is_sorted key_cmp es) → list_any p es ≡ true → (x : Key × X) × (map.find key_cmp x.0 es ≡ Some x.1) × (p x ≡ true)
  found_entry p [] s h = cc
  found_entry p (e ∷ es) s h = by (cases_Bool (p e)) (λ g. found_entry p es (sorted_rest e es s) g)
    where
      by : (p e ≡ true) ⊎ (p e ≡ false) → (list_any p es ≡ true → (x : Key × X) × (map.find key_cmp x.0 es ≡ Some x.1) × (p x ≡ true)) → (x : Key × X) × (map.find key_cmp x.0 (e ∷ es) ≡ Some x.1) × (p x ≡ true)
      by (inl t) later = (e, find_here e es, t)
      by (inr t) later = let l = later (sym (ap (λ b. b || list_any p es) t) ∙ h) in (l.0, find_later e es l.0.0 l.0.1 s l.1, l.2)
