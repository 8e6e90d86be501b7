-- The action that records an update: a delta of its touches, or the whole document where the delta is longer.
use Rattle.std.specs.Prelude.{ℕ, suc, List, length, false, Option, Some, None, Result, Ok, Err, if◌then◌else◌, nat_lt}
use Rattle.bson_value.specs.declared.value.Value.{Value, Object}
use Rattle.bson_value.specs.Spelling.{document_text}
use Rattle.bson_check.specs.declared.fault.BsonFault.{BsonFault}
use Rattle.bson_check.specs.Reading.{document_of}
use Rattle.doc_path.specs.declared.parts.Part.{Part}
use Rattle.doc_path.specs.declared.parts.Form.{Form}
use Rattle.doc_path.specs.declared.touches.Touch.{Touch}
use Rattle.doc_path.specs.declared.touches.Touch.TheVariants.{Set, Unset, Resize}
use Rattle.doc_path.specs.Ways.{value_in}
use Rattle.update_replay.specs.Forms.{in_form}
use Rattle.entry_model.specs.declared.entry.Action.{Action}
use Rattle.entry_model.specs.declared.entry.Action.TheVariants.{Whole, Delta}
use Rattle.entry_model.specs.Written.{Fields}
use Rattle.entry_model.specs.Touches.{written, touches_read}
use Rattle.entry_model.specs.Reading.{Read}
use Rattle.entry_model.specs.Spelling.{level_limit}

-- ---- in the first form, with indexes where it has the names of their digits, which are spelled alike; new is the document after the update

abbrev pub set_or_length : List Part → ℕ → Option Value → Touch
set_or_length place n None = Resize place n
set_or_length place n (Some a) = Set place a false

abbrev pub without_length : Value → Touch → Touch
without_length new (Set place a fresh) = Set place a fresh
without_length new (Unset place) = Unset place
without_length new (Resize place n) = set_or_length place n (value_in place new)

-- ---- the delta, and its reading

abbrev pub delta_text : Form → Fields → List Touch → List ℕ
delta_text form new ts = document_text (written form level_limit (in_form form (Object new) ts))

-- the touches of these fields, in their order
abbrev pub read_or_none : Read (Form × List Touch) → Option (Form × List Touch)
read_or_none (Ok r) = Some r
read_or_none (Err e) = None

abbrev pub touches_in : Result Fields BsonFault → Option (Form × List Touch)
touches_in (Ok o) = read_or_none (touches_read (suc level_limit) o)
touches_in (Err e) = None

-- no entry has more bytes
abbrev pub byte_limit : ℕ
byte_limit = 16793600

abbrev pub delta_of : Form → Fields → List Touch → Option (Form × List Touch)
delta_of form new ts = touches_in (document_of byte_limit level_limit (delta_text form new ts))

-- ---- the action

-- the touches that are recorded, with their form; none where the whole document is: its delta is longer, or isn't read again
abbrev pub recorded : Form → Fields → List Touch → Option (Form × List Touch)
recorded form new ts = if nat_lt (length (document_text new)) (length (delta_text form new ts)) then None else delta_of form new ts

abbrev pub delta_or_whole : Value → Fields → Option (Form × List Touch) → Action
delta_or_whole id new (Some r) = Delta id r.0 r.1
delta_or_whole id new None = Whole id new

abbrev pub action_of : Form → Value → Fields → List Touch → Action
action_of form id new ts = delta_or_whole id new (recorded form new ts)
