-- Updates that are replayed.
use Rattle.std.specs.Prelude.{◌≡◌, List, map, None, Ok}
use Rattle.bson_value.specs.declared.value.Value.{Value, Object}
use Rattle.bson_value.specs.Alike.{◌~◌}
use Rattle.doc_path.specs.declared.parts.Form.TheVariants.{V1, V2}
use Rattle.doc_path.specs.declared.touches.Touch.{Touch}
use Rattle.doc_path.specs.Touch.{Touch as Played}
use Rattle.doc_path.specs.Played.{played_all, touch_of}
use Rattle.touch_laws.specs.Agree.{Records}
use Rattle.update_model.specs.declared.operator.Operator.{Operator}
use Rattle.update_model.specs.declared.updated.Updated.{Updated}
use Rattle.update_model.specs.Arguments.{Fields}
use Rattle.update_model.specs.Reading.{operators, ops_fault}
use Rattle.update_model.specs.Updating.{updated}
use Rattle.update_replay.specs.Forms.{named, first_form}

abbrev pub NamesRecord : Type 0
NamesRecord = (ts : List Played) (old new : Value) → Records V2 ts old new → Records V1 (map named ts) old new

-- the touches of an update in the first form
abbrev pub first_forms : Updated → List Touch
first_forms u = map (first_form (Object u.doc)) u.touches

abbrev pub FirstFormRecords : Type 0
FirstFormRecords = (ops : List Operator) (doc : Fields) (u : Updated) → updated ops doc ≡ Ok u → Records V1 (map touch_of (first_forms u)) (Object doc) (Object u.doc)

abbrev pub FirstFormReplays : Type 0
FirstFormReplays = (d doc : Fields) (u : Updated) → ops_fault d ≡ None → updated (operators d) doc ≡ Ok u → played_all V1 (map touch_of (first_forms u)) (Object doc) ~ Object u.doc

abbrev pub SecondFormRecords : Type 0
SecondFormRecords = (d doc : Fields) (u : Updated) → ops_fault d ≡ None → updated (operators d) doc ≡ Ok u → Records V2 (map touch_of u.touches) (Object doc) (Object u.doc)

abbrev pub SecondFormReplays : Type 0
SecondFormReplays = (d doc : Fields) (u : Updated) → ops_fault d ≡ None → updated (operators d) doc ≡ Ok u → played_all V2 (map touch_of u.touches) (Object doc) ~ Object u.doc
