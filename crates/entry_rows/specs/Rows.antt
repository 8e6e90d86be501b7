-- The texts of what is answered.
use Rattle.std.specs.Prelude.{◌≡◌, ◌++◌, ℕ, List, Some, codes, if◌then◌else◌}
use Rattle.std.specs.Fmt.{decimal}
use Rattle.std.specs.List.{flat_map}
use Rattle.containers.specs.Entries.{lookup}
use Rattle.row_script.specs.Documents.{Document}
use Rattle.row_script.specs.Jsons.{value_text}
use Rattle.row_script.specs.Names.{ns_text}
use Rattle.bson_value.specs.declared.value.Value.{Value}
use Rattle.bson_value.specs.declared.value.Value.TheVariants.{Object}
use Rattle.doc_path.specs.declared.parts.Part.{Part}
use Rattle.doc_path.specs.declared.parts.Part.TheVariants.{Name, Index}
use Rattle.doc_path.specs.declared.parts.Form.{Form}
use Rattle.doc_path.specs.declared.parts.Form.TheVariants.{V1, V2}
use Rattle.doc_path.specs.declared.touches.Touch.{Touch}
use Rattle.doc_path.specs.declared.touches.Touch.TheVariants.{Set, Unset, Resize}
use Rattle.entry_model.specs.declared.entry.Action.{Action, out-Action}
use Rattle.entry_model.specs.declared.entry.Action.TheOpen.{Action-F}
use Rattle.entry_model.specs.declared.entry.Entry.{Entry}
use Rattle.update_model.specs.declared.updated.Updated.{Updated}
use Rattle.update_action.specs.Recorded.{action_of}
use Rattle.update_model.specs.declared.fault.OpsFault.{OpsFault}
use Rattle.update_model.specs.declared.fault.OpsFault.TheVariants as ops_faults
use Rattle.update_model.specs.declared.fault.UpdateFault.{UpdateFault}
use Rattle.update_model.specs.declared.fault.UpdateFault.TheVariants as update_faults

abbrev pub document_json : Document → List ℕ
document_json doc = value_text (Object doc)

-- a dot before a name, and # before an index
abbrev pub part_text : Part → List ℕ
part_text (Name name) = codes "." ++ name
part_text (Index at) = codes "#" ++ decimal at

abbrev pub place_text : List Part → List ℕ
place_text place = flat_map part_text place

abbrev pub touch_text : Touch → List ℕ
touch_text (Set place value fresh) = (if fresh then codes " fresh " else codes " set ") ++ place_text place ++ codes " " ++ value_text value
touch_text (Unset place) = codes " unset " ++ place_text place
touch_text (Resize place len) = codes " resize " ++ place_text place ++ codes " " ++ decimal len

abbrev pub touches_text : List Touch → List ℕ
touches_text touches = flat_map touch_text touches

abbrev pub form_text : Form → List ℕ
form_text V1 = codes "delta1 "
form_text V2 = codes "delta2 "

abbrev pub definition_text : Document → List ℕ
definition_text def = codes " " ++ document_json def

-- an action, of a group only that it is one
abbrev pub action_text_at : Action-F Action Entry → List ℕ
action_text_at Action-F.Nothing = codes "nothing"
action_text_at (Action-F.Put doc) = codes "put " ++ document_json doc
action_text_at (Action-F.Remove id) = codes "remove " ++ value_text id
action_text_at (Action-F.Whole id doc) = codes "whole " ++ value_text id ++ codes " " ++ document_json doc
action_text_at (Action-F.Delta id form touches) = form_text form ++ value_text id ++ touches_text touches
action_text_at (Action-F.Create options) = codes "create " ++ document_json options
action_text_at Action-F.DropColl = codes "drop"
action_text_at Action-F.DropDb = codes "drop database"
action_text_at (Action-F.AddIndexes defs) = codes "indexes" ++ flat_map definition_text defs
action_text_at (Action-F.DropIndex name) = codes "drop index " ++ name
action_text_at (Action-F.Rename from to) = codes "rename " ++ ns_text from ++ codes " " ++ ns_text to
action_text_at (Action-F.Group entries) = codes "group"
action_text_at (Action-F.Other name) = codes "other \"" ++ name ++ codes "\""

abbrev pub action_text : Action → List ℕ
action_text a = action_text_at (out-Action a)

-- an action records an update of the document that has an `_id`
abbrev pub Records : Form → Updated → Action → Type 0
Records form u action = (id : Value) × (lookup (codes "_id") u.doc ≡ Some id) × (action ≡ action_of form id u.doc u.touches)

-- an entry, of a group without its items
abbrev pub item_text : Entry → List ℕ
item_text e = decimal e.ts.secs ++ codes ":" ++ decimal e.ts.inc ++ codes " " ++ ns_text e.ns ++ codes " " ++ action_text e.action

abbrev pub ops_fault_word : OpsFault → List ℕ
ops_fault_word ops_faults.NoMemory = codes "NoMemory"
ops_fault_word ops_faults.UnknownOperator = codes "UnknownOperator"
ops_fault_word ops_faults.Conflict = codes "Conflict"
ops_fault_word ops_faults.BadPath = codes "BadPath"
ops_fault_word ops_faults.ImmutableId = codes "ImmutableId"
ops_fault_word ops_faults.BadArgument = codes "BadArgument"

abbrev pub update_fault_word : UpdateFault → List ℕ
update_fault_word update_faults.NoMemory = codes "NoMemory"
update_fault_word update_faults.NotViable = codes "NotViable"
update_fault_word update_faults.WrongType = codes "WrongType"
update_fault_word update_faults.Overflow = codes "Overflow"
update_fault_word update_faults.Backfill = codes "Backfill"
update_fault_word update_faults.TooLong = codes "TooLong"
update_fault_word update_faults.Deep = codes "Deep"
