-- The changes that `set`, `unset` and `resize` make, as touches that are played in the second form.
use Rattle.std.specs.Prelude.{ℕ, ◌≡◌, ◌≤◌, ◌<◌, ◌↔◌, length, List, [], ◌∷◌, ◌++◌, false, Some}
use Rattle.bson_value.specs.declared.value.Value.{Value, Object, Array, Null}
use Rattle.doc_path.specs.declared.parts.Part.{Part}
use Rattle.doc_path.specs.declared.parts.Part.TheVariants.{Name as name, Index as index}
use Rattle.doc_path.specs.declared.parts.Form.TheVariants.{V2}
use Rattle.doc_path.specs.declared.parts.Change.{Change}
use Rattle.doc_path.specs.declared.parts.Change.TheVariants.{Put, Delete, Resize as Length}
use Rattle.doc_path.specs.Touch.{limit, Way, Fits}
use Rattle.doc_path.specs.Played.{any_far, left_at, too_long, played, touch_at}
use Rattle.doc_path.specs.Ways.{value_in, changed_at, HasRoom}
use Rattle.touch_laws.specs.Agree.{Done}

-- where a place leads through low indexes, the second form's way leads too
abbrev pub SameWay : Type 0
SameWay = (ps : List Part) (v c : Value) → any_far ps ≡ false → (value_in ps v ≡ Some c) ↔ Way V2 ps (λ w. w ≡ c) v

-- a plain change is what the touch at its place does, unless that is left at once
abbrev pub PlainIsPlayed : Type 0
PlainIsPlayed = (ps : List Part) (c : Change) (v : Value) → (ps ≡ [] → ⊥) → left_at ps ≡ false → too_long c ≡ false → changed_at ps c v ≡ played V2 (touch_at ps c) v

-- where a value may be set, the touch fits, and it is done in the document after it
abbrev pub SetFitsRoom : Type 0
SetFitsRoom = (ps : List Part) (a v : Value) → any_far ps ≡ false → HasRoom ps v → Fits V2 (touch_at ps (Put a)) v

abbrev pub SetIsDone : Type 0
SetIsDone = (ps : List Part) (a v : Value) → any_far ps ≡ false → HasRoom ps v → Done V2 (touch_at ps (Put a)) (changed_at ps (Put a) v)

-- the same of a field of a document, whether it is there or not
abbrev pub UnsetFitsField : Type 0
UnsetFitsField = (ws : List Part) (k : List ℕ) (fs : List (List ℕ × Value)) (v : Value) → any_far ws ≡ false → value_in ws v ≡ Some (Object fs) → Fits V2 (touch_at (ws ++ (name k ∷ [])) Delete) v

abbrev pub UnsetIsDone : Type 0
UnsetIsDone = (ws : List Part) (k : List ℕ) (fs : List (List ℕ × Value)) (v : Value) → any_far ws ≡ false → value_in ws v ≡ Some (Object fs) → Done V2 (touch_at (ws ++ (name k ∷ [])) Delete) (changed_at (ws ++ (name k ∷ [])) Delete v)

-- an element that is unset is one that is set to null
abbrev pub UnsetElementIsNull : Type 0
UnsetElementIsNull = (ws : List Part) (n : ℕ) (c v : Value) → value_in (ws ++ (index n ∷ [])) v ≡ Some c → changed_at (ws ++ (index n ∷ [])) Delete v ≡ changed_at (ws ++ (index n ∷ [])) (Put Null) v

-- the same of an array, to a length that it has
abbrev pub ResizeFitsArray : Type 0
ResizeFitsArray = (ps : List Part) (n : ℕ) (vs : List Value) (v : Value) → (ps ≡ [] → ⊥) → any_far ps ≡ false → n < limit → value_in ps v ≡ Some (Array vs) → n ≤ length vs → Fits V2 (touch_at ps (Length n)) v

abbrev pub ResizeIsDone : Type 0
ResizeIsDone = (ps : List Part) (n : ℕ) (vs : List Value) (v : Value) → (ps ≡ [] → ⊥) → any_far ps ≡ false → n < limit → value_in ps v ≡ Some (Array vs) → Done V2 (touch_at ps (Length n)) (changed_at ps (Length n) v)
