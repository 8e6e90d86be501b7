-- What is written of an accepted update is read again.
use Rattle.std.specs.Prelude.{◌≡◌, List, map, None, Ok}
use Rattle.bson_value.specs.declared.value.Value.{Object}
use Rattle.doc_path.specs.declared.parts.Form.{Form}
use Rattle.doc_path.specs.declared.touches.Touch.{Touch}
use Rattle.doc_path.specs.Played.{NoneLeft, touch_of}
use Rattle.update_model.specs.declared.updated.Updated.{Updated}
use Rattle.update_model.specs.Arguments.{Fields}
use Rattle.update_model.specs.Reading.{operators, ops_fault}
use Rattle.update_model.specs.Updating.{updated}
use Rattle.update_replay.specs.Forms.{in_form}
use Rattle.entry_model.specs.Touches.{IsReadAs}
use Rattle.entry_model.specs.Spelling.{level_limit}

-- the touches in a form, written and read as us, which record the update
abbrev pub DeltaIsRead : Type 0
DeltaIsRead = (form : Form) (d doc : Fields) (u : Updated) → ops_fault d ≡ None → updated (operators d) doc ≡ Ok u →
    (us : List Touch) × IsReadAs form level_limit (in_form form (Object u.doc) u.touches) us (Object doc) (Object u.doc) × NoneLeft (map touch_of us)
