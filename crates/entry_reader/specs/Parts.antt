-- The parts of an entry that changes one document, each None where it is missing or of another kind.
use Rattle.std.specs.Prelude.{ℕ, suc, List, codes, if◌then◌else◌, Option, Some, None, option_map, Result, Ok, Err}
use Rattle.std.specs.Str.{bytes_eq}
use Rattle.containers.specs.Entries.{lookup}
use Rattle.bson_value.specs.declared.value.Value.{Value, Value-F, out-Value}
use Rattle.bson_value.specs.declared.value.Ts.{Ts}
use Rattle.bson_value.specs.declared.namespace.NsName.{NsName}
use Rattle.doc_path.specs.Played.{id_name}
use Rattle.doc_path.specs.declared.parts.Form.{Form}
use Rattle.doc_path.specs.declared.touches.Touch.{Touch}
use Rattle.entry_model.specs.declared.entry.Entry.{Entry}
use Rattle.entry_model.specs.declared.entry.Action.{Action}
use Rattle.entry_model.specs.declared.entry.Action.TheVariants.{Put, Remove, Whole, Delta}
use Rattle.entry_model.specs.declared.fault.EntryFault.{EntryFault}
use Rattle.entry_model.specs.Written.{Fields}
use Rattle.entry_model.specs.Reading.{text_in, document_in, stamp_in, is_whole, namespace_of}
use Rattle.entry_model.specs.Touches.{touches_read}
use Rattle.entry_model.specs.Spelling.{level_limit}

-- a value of a kind
abbrev pub kind_at : {A : Type 0} → (Value-F Value → Option A) → Option Value → Option A
kind_at kind None = None
kind_at kind (Some v) = kind (out-Value v)

abbrev pub text_at : Option Value → Option (List ℕ)
text_at v = kind_at text_in v

abbrev pub stamp_at : Option Value → Option Ts
stamp_at v = kind_at stamp_in v

abbrev pub document_at : Option Value → Option Fields
document_at v = kind_at document_in v

abbrev pub id_at : Option Fields → Option Value
id_at None = None
id_at (Some o) = lookup id_name o

-- ---- what each operation does, by o and o2

abbrev pub put_of : Option Fields → Option Action
put_of None = None
put_of (Some o) = option_map (λ id. Put o) (lookup id_name o)

abbrev pub remove_of : Option Fields → Option Action
remove_of o = option_map (λ id. Remove id) (id_at o)

abbrev pub whole_of : Value → Option Fields → Option Action
whole_of id None = None
whole_of id (Some o) = Some (Whole id o)

abbrev pub delta_by : Value → Result (Form × List Touch) EntryFault → Option Action
delta_by id (Ok r) = Some (Delta id r.0 r.1)
delta_by id (Err e) = None

abbrev pub delta_of : Value → Fields → Option Action
delta_of id o = delta_by id (touches_read (suc level_limit) o)

abbrev pub delta_at : Value → Option Fields → Option Action
delta_at id None = None
delta_at id (Some o) = delta_of id o

abbrev pub updated : Value → Fields → Option Action
updated id o = if is_whole o then whole_of id (Some o) else delta_of id o

abbrev pub update_by : Option Fields → Option Value → Option Action
update_by None id = None
update_by (Some o) None = None
update_by (Some o) (Some id) = updated id o

abbrev pub update_of : Option Fields → Option Fields → Option Action
update_of o o2 = update_by o (id_at o2)

abbrev pub action_of : List ℕ → Option Fields → Option Fields → Option Action
action_of op o o2 =
    if bytes_eq op (codes "i") then put_of o
    else (if bytes_eq op (codes "d") then remove_of o
    else (if bytes_eq op (codes "u") then update_of o o2
    else None))

-- ---- the entry

abbrev pub entry_by : Ts → Option NsName → Option Action → Option Entry
entry_by ts None a = None
entry_by ts (Some ns) None = None
entry_by ts (Some ns) (Some a) = Some (record { ts = ts; ns = ns; action = a })

abbrev pub head_by : Option Ts → Option (List ℕ) → Option (Ts × List ℕ)
head_by None text = None
head_by (Some ts) None = None
head_by (Some ts) (Some text) = Some (ts, text)

abbrev pub change_at : Option (Ts × List ℕ) → Option (List ℕ) → Option Fields → Option Fields → Option Entry
change_at None op o o2 = None
change_at (Some h) None o o2 = None
change_at (Some h) (Some op) o o2 = entry_by h.0 (namespace_of h.1) (action_of op o o2)
