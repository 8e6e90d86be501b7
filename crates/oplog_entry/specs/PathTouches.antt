-- The touches that the paths of the first form spell.
use Rattle.std.specs.Prelude.{ℕ, ℤ, pos, suc, List, [], Bool, true, false, if◌then◌else◌, Option, Some, None, Result, Ok, Err}
use Rattle.containers.specs.Entries.{lookup}
use Rattle.bson_value.specs.declared.value.Value.{Value-F, out-Value}
use Rattle.bson_value.specs.declared.value.Value.{Value}
use Rattle.doc_path.specs.declared.parts.Part.TheVariants.{Name as name}
use Rattle.doc_path.specs.declared.touches.Touch.{Touch}
use Rattle.doc_path.specs.declared.touches.Touch.TheVariants.{Set, Unset}
use Rattle.doc_path.specs.Paths.{parts_of}
use Rattle.doc_path.specs.declared.parts.Form.{Form}
use Rattle.doc_path.specs.declared.parts.Form.TheVariants.{V1, V2}
use Rattle.entry_model.specs.Edits.{Edit, mapped}
use Rattle.entry_model.specs.declared.fault.EntryFault.{EntryFault}
use Rattle.oplog_entry.specs.DiffFields.{at_front}
use Rattle.entry_model.specs.declared.fault.EntryFault.TheVariants.{BadField, UnknownUpdate}
use Rattle.entry_model.specs.Written.{Fields, v_name}
use Rattle.entry_model.specs.Reads.{Read, int_eq, v1_field, v2_field, each_field}
use Rattle.entry_model.specs.Spelling.{level_limit}

abbrev pub path_set : List ℕ × Value → Touch
path_set f = Set (mapped name (parts_of f.0)) f.1 false

abbrev pub path_unset : List ℕ × Value → Touch
path_unset f = Unset (mapped name (parts_of f.0))

-- a field of an update's o, by the form that `$v` says
abbrev pub form_field : Form → List ℕ → Value → Read
form_field V1 n v = v1_field n v
form_field V2 n v = v2_field (suc level_limit) n v

-- the touches of edits with nothing before them
abbrev pub listed : Result (List Edit) EntryFault → Result (List Touch) EntryFault
listed (Ok es) = Ok (mapped (at_front []) es)
listed (Err e) = Err e

-- the touches of all fields of an update's o, or its first fault
abbrev pub fields_touches : Form → Fields → Result (List Touch) EntryFault
fields_touches form fs = listed (each_field (form_field form) fs)

-- the form that `$v` says, or its fault
abbrev pub form_said : ℤ → Result Form EntryFault
form_said z = if int_eq z (pos 1) then Ok V1 else (if int_eq z (pos 2) then Ok V2 else Err (UnknownUpdate z))

abbrev pub form_in : Value-F Value → Result Form EntryFault
form_in (Value-F.Int z) = form_said z
form_in (Value-F.Long z) = form_said z
form_in _ = Err (BadField v_name)

abbrev pub form_of : Option Value → Result Form EntryFault
form_of None = Ok V1
form_of (Some v) = form_in (out-Value v)

abbrev pub form_read : Fields → Result Form EntryFault
form_read fs = form_of (lookup v_name fs)

-- whether the second form has no `diff`
abbrev pub lacks_diff : Form → Option Value → Bool
lacks_diff V1 d = false
lacks_diff V2 None = true
lacks_diff V2 (Some v) = false
