-- A change at a place is a touch that is played, or left at once.
use Rattle.std.proofs.Common.{◌≡◌, ℕ, ◌+◌, ◌<◌, List, [], ◌∷◌, ◌++◌, length, drop, get_or, Bool, true, false, refl, sym, ap, ◌∙◌, subst}
use Rattle.std.proofs.lemmas.List.{at_drop_more}
use Rattle.std.specs.Prelude.{◌||◌}
use Rattle.bson_value.specs.declared.value.Value.{Value}
use Rattle.doc_path.specs.declared.parts.Part.{Part}
use Rattle.doc_path.specs.declared.parts.Form.{Form}
use Rattle.doc_path.specs.declared.parts.Change.{Change}
use Rattle.doc_path.specs.Touch.{changed}
use Rattle.doc_path.specs.Played.{is_far, any_far, left_at, played, touch_at, too_long}
use Rattle.doc_path.proofs.Played.{plays, leaves}

neither : (a b : Bool) → a || b ≡ false → (a ≡ false) × (b ≡ false)
neither true b e = (e, absurd (let f : true ≡ false = e in cc))
neither false b e = (refl, e)

pub plays_if : (f : Form) (parts ws : List Part) (p : Part) (c : Change) (v w : Value) → parts ≡ ws ++ (p ∷ []) → left_at parts || too_long c ≡ false → w ≡ changed f ws p c v → w ≡ played f (touch_at parts c) v
plays_if f parts ws p c v w s l e =
    let h = neither (left_at (ws ++ (p ∷ []))) (too_long c) (subst (λ (z : List Part). left_at z || too_long c ≡ false) s l) in
    subst (λ (z : List Part). w ≡ played f (touch_at z c) v) (sym s) (plays f ws p c v w h.0 h.1 e)

pub leaves_if : (f : Form) (parts ws : List Part) (p : Part) (c : Change) (v : Value) → parts ≡ ws ++ (p ∷ []) → left_at parts || too_long c ≡ true → v ≡ played f (touch_at parts c) v
leaves_if f parts ws p c v s l =
    subst (λ (z : List Part). v ≡ played f (touch_at z c) v) (sym s) (leaves f ws p c v (subst (λ (z : List Part). left_at z || too_long c ≡ true) s l))

-- whether one of the parts is far, part by part
pub far_step : (ps : List Part) (i : ℕ) (p : Part) → i < length ps → p ≡ get_or ps i p → any_far (drop i ps) ≡ is_far p || any_far (drop (i + 1) ps)
far_step ps i p l at = at_drop_more any_far ps i p l ∙ ap (λ (q : Part). is_far q || any_far (drop (i + 1) ps)) (sym at)
