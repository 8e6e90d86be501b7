-- A place in code is split at its last part.
use Rattle.std.proofs.Common.{◌≡◌, List, [], ◌∷◌, ◌++◌, Bool, refl, ap, None}
use Rattle.bson_value.specs.declared.value.Value.{Value}
use Rattle.bson_value.specs.Place.{Shape}
use Rattle.doc_path.specs.declared.parts.Part.{Part}
use Rattle.doc_path.specs.declared.parts.Change.{Change}
use Rattle.doc_path.specs.Touch.{walk_by}
use Rattle.doc_path.specs.Played.{way_and_last, touch_by, touch_at}

pub split : (w : Part) (ws : List Part) (p : Part) → way_and_last w (ws ++ (p ∷ [])) ≡ (w ∷ ws, p)
split w [] p = refl
split w (x ∷ ws) p = ap (λ (z : List Part × Part). (w ∷ z.0, z.1)) (split x ws p)

pub split-append : (ws : List Part) (p : Part) (c : Change) → touch_at (ws ++ (p ∷ [])) c ≡ touch_by (ws, p) c
split-append [] p c = refl
split-append (w ∷ ws) p c = ap (λ (z : List Part × Part). touch_by z c) (split w ws p)

pub walk-append : (taken : Part → Shape → Bool) (ws : List Part) (p : Part) (g : Value → Value) (v : Value) → walk_by taken None ws (walk_by taken None (p ∷ []) g) v ≡ walk_by taken None (ws ++ (p ∷ [])) g v
walk-append taken [] p g v = refl
walk-append taken (w ∷ ws) p g v = ap (λ (h : Value → Value). walk_by taken None (w ∷ []) h v) (λ i u. walk-append taken ws p g u i)
