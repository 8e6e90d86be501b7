-- A change in code is a touch that is played.
use Rattle.std.proofs.Common.{◌≡◌, List, [], ◌∷◌, ◌++◌, Bool, true, false, refl, sym, ◌∙◌, subst}
use Rattle.std.specs.Prelude.{◌||◌}
use Rattle.bson_value.specs.declared.value.Value.{Value}
use Rattle.doc_path.specs.declared.parts.Part.{Part}
use Rattle.doc_path.specs.declared.parts.Form.{Form}
use Rattle.doc_path.specs.declared.parts.Form.TheVariants.{V1, V2}
use Rattle.doc_path.specs.declared.parts.Change.{Change}
use Rattle.doc_path.specs.declared.parts.Change.TheVariants.{Put, Delete, Resize as Length}
use Rattle.doc_path.specs.Touch.{Touch, takes, resize_here, play, changed}
use Rattle.doc_path.specs.Played.{left_at, is_left, played, touch_by, touch_at, too_long}
use Rattle.doc_path.specs.Laws.{ChangeIsPlayed, FarChangeStays}
use Rattle.doc_path.proofs.Last.{split-append, walk-append}

pub or_no : (b : Bool) → b || false ≡ b
or_no true = refl
or_no false = refl

pub left_by : (ws : List Part) (p : Part) (c : Change) → is_left (touch_by (ws, p) c) ≡ left_at (ws ++ (p ∷ [])) || too_long c
left_by ws p (Put a) = sym (or_no (left_at (ws ++ (p ∷ []))))
left_by ws p Delete = sym (or_no (left_at (ws ++ (p ∷ []))))
left_by ws p (Length n) = refl

pub changed_by : (f : Form) (ws : List Part) (p : Part) (c : Change) (v : Value) → changed f ws p c v ≡ play f (touch_by (ws, p) c) v
changed_by V1 ws p (Put a) v = refl
changed_by V2 ws p (Put a) v = refl
changed_by V1 ws p Delete v = refl
changed_by V2 ws p Delete v = refl
changed_by V1 ws p (Length n) v = walk-append (takes V1) ws p (resize_here n) v
changed_by V2 ws p (Length n) v = walk-append (takes V2) ws p (resize_here n) v

pub plays : (f : Form) (ws : List Part) (p : Part) (c : Change) (v w : Value) → left_at (ws ++ (p ∷ [])) ≡ false → too_long c ≡ false → w ≡ changed f ws p c v → w ≡ played f (touch_at (ws ++ (p ∷ [])) c) v
plays f ws p c v w a b e =
    let l : is_left (touch_by (ws, p) c) ≡ false = left_by ws p c ∙ rw (a, b) refl in
    subst (λ (t : Touch). w ≡ played f t v) (sym (split-append ws p c)) (rw l (e ∙ changed_by f ws p c v))

pub leaves : (f : Form) (ws : List Part) (p : Part) (c : Change) (v : Value) → left_at (ws ++ (p ∷ [])) || too_long c ≡ true → v ≡ played f (touch_at (ws ++ (p ∷ [])) c) v
leaves f ws p c v a =
    let l : is_left (touch_by (ws, p) c) ≡ true = left_by ws p c ∙ a in
    subst (λ (t : Touch). v ≡ played f t v) (sym (split-append ws p c)) (rw l refl)

pub change_is_played : ChangeIsPlayed
change_is_played f ws p c v a b = plays f ws p c v (changed f ws p c v) a b refl

pub far_change_stays : FarChangeStays
far_change_stays f ws p c v a = sym (leaves f ws p c v a)
