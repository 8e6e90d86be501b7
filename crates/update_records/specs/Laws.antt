-- What is recorded of an update of well-formed documents records it.
use Rattle.std.specs.Prelude.{⊤, ◌≡◌, List, map, Option, Some, None, Ok}
use Rattle.bson_value.specs.declared.value.Value.{Object}
use Rattle.bson_value.specs.WellFormed.{IsWellFormedDocument}
use Rattle.doc_path.specs.declared.parts.Form.{Form}
use Rattle.doc_path.specs.declared.touches.Touch.{Touch}
use Rattle.doc_path.specs.Played.{NoneLeft, touch_of}
use Rattle.touch_laws.specs.Agree.{Records}
use Rattle.update_model.specs.declared.updated.Updated.{Updated}
use Rattle.update_model.specs.Arguments.{Fields}
use Rattle.update_model.specs.Reading.{operators, ops_fault}
use Rattle.update_model.specs.Updating.{updated}
use Rattle.update_action.specs.Recorded.{recorded}

-- touches that are recorded record the update, and replay leaves none of them at once; where none are, the whole document is recorded
abbrev pub AreRecorded : Option (Form × List Touch) → Fields → Fields → Type 0
AreRecorded None old new = ⊤
AreRecorded (Some r) old new = NoneLeft (map touch_of r.1) × Records r.0 (map touch_of r.1) (Object old) (Object new)

-- of every accepted update of a well-formed document by well-formed operators
abbrev pub UpdatesRecord : Type 0
UpdatesRecord = (form : Form) (old ops : Fields) (u : Updated) → IsWellFormedDocument old → IsWellFormedDocument ops → ops_fault ops ≡ None → updated (operators ops) old ≡ Ok u → AreRecorded (recorded form u.doc u.touches) old u.doc

-- and the document after it is well-formed again
abbrev pub UpdatesStayWellFormed : Type 0
UpdatesStayWellFormed = (old ops : Fields) (u : Updated) → IsWellFormedDocument old → IsWellFormedDocument ops → ops_fault ops ≡ None → updated (operators ops) old ≡ Ok u → IsWellFormedDocument u.doc
