-- What is found among the entries of a map.
use Rattle.std.proofs.Common.{◌≡◌, List, [], ◌∷◌, Bool, true, false, cond, refl, ap, ◌∙◌, Some}
use Rattle.std.specs.Prelude.{◌||◌}
use Rattle.std.specs.List.{list_any}
use Rattle.std.specs.Ordering.{eq_by_cmp}
use Rattle.std.specs.declared.cmp.Ordering.{Ordering}
use Rattle.std.specs.FinMap as map

-- an entry whose name meets a test is named by its own name
module _ {K X : Type 0} (R : K → K → Ordering) (self : (a : K) → eq_by_cmp R a a ≡ true) where
  abbrev pub Found : (K → Bool) → List (K × X) → Type 0
  Found p es = (k : K) × (v : X) × (p k ≡ true) × (map.find R k es ≡ Some v)

  pub any_found : (p : K → Bool) (es : List (K × X)) → list_any (λ (e : K × X). p e.0) es ≡ true → Found p es
  any_found p [] h = cc
  any_found p (x ∷ es) h = by (p x.0) refl h (λ g. any_found p es g)
    where
      more : (k : K) (v : X) → p k ≡ true → map.find R k es ≡ Some v → (b : Bool) → eq_by_cmp R k x.0 ≡ b → Found p (x ∷ es)
      more k v q e true f = (k, x.1, q, ap (λ (b : Bool). cond b (Some x.1) (map.find R k es)) f)
      more k v q e false f = (k, v, q, ap (λ (b : Bool). cond b (Some x.1) (map.find R k es)) f ∙ e)

      by : (b : Bool) → p x.0 ≡ b → (b || list_any (λ (e : K × X). p e.0) es) ≡ true → (list_any (λ (e : K × X). p e.0) es ≡ true → Found p es) → Found p (x ∷ es)
      by true q g ih = (x.0, x.1, q, ap (λ (b : Bool). cond b (Some x.1) (map.find R x.0 es)) (self x.0))
      by false q g ih = let r = ih g in more r.0 r.1 r.2 r.3 (eq_by_cmp R r.0 x.0) refl
