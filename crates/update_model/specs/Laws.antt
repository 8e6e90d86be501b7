-- The laws of updates.
use Rattle.std.specs.Prelude.{◌≡◌, ◌↔◌, true, List, [], map, None, Ok}
use Rattle.bson_value.specs.declared.value.Value.{Value, Object}
use Rattle.doc_path.specs.declared.parts.Form.TheVariants.{V2}
use Rattle.doc_path.specs.Played.{NoneLeft, touch_of}
use Rattle.touch_laws.specs.Agree.{Records}
use Rattle.update_model.specs.declared.operator.Operator.{Operator}
use Rattle.update_model.specs.declared.updated.Updated.{Updated}
use Rattle.update_model.specs.Arguments.{Fields}
use Rattle.update_model.specs.Touched.{whole}
use Rattle.update_model.specs.Reading.{operators, ops_fault}
use Rattle.update_model.specs.Updating.{updated}
use Rattle.update_model.specs.Equality.{same}

abbrev pub SameIsEqual : Type 0
SameIsEqual = (a b : Value) → (same a b ≡ true) ↔ (a ≡ b)

-- an accepted update is recorded by its touches, with a Set of the whole array in place of each length
abbrev pub UpdateIsRecorded : Type 0
UpdateIsRecorded = (ops : List Operator) (doc : Fields) (u : Updated) → updated ops doc ≡ Ok u → Records V2 (map (whole (Object u.doc)) u.touches) (Object doc) (Object u.doc)

-- no touch of an update by operators that were read is left at once
abbrev pub NoneIsLeftAtOnce : Type 0
NoneIsLeftAtOnce = (d doc : Fields) (u : Updated) → ops_fault d ≡ None → updated (operators d) doc ≡ Ok u → NoneLeft (map touch_of u.touches)

-- where such an update has no touch, the document is as before
abbrev pub NoTouchesNoChange : Type 0
NoTouchesNoChange = (d doc : Fields) (u : Updated) → ops_fault d ≡ None → updated (operators d) doc ≡ Ok u → u.touches ≡ [] → u.doc ≡ doc
