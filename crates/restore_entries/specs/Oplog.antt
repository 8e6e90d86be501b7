-- Which documents of an oplog a restore replays, and which it refuses.
use Rattle.std.specs.Prelude.{ℕ, List, codes, Bool, true, false, not, ◌&&◌, ◌||◌, ◌==◌, nat_lt, if◌then◌else◌, Option, Some, None, Ok, Err}
use Rattle.std.specs.Str.{bytes_eq}
use Rattle.std.specs.List.{before_first}
use Rattle.containers.specs.Entries.{lookup}
use Rattle.bson_value.specs.declared.value.Value.{Value, Value-F, out-Value}
use Rattle.bson_value.specs.declared.value.Ts.{Ts}
use Rattle.bson_value.specs.declared.namespace.NsName.{NsName}
use Rattle.entry_model.specs.declared.entry.Entry.{Entry}
use Rattle.entry_model.specs.Written.{Fields}
use Rattle.entry_model.specs.Reading.{Read, is_dot, namespace_of, head_of, entry_of}
use Rattle.restore_filter.specs.Rules.{Rules}
use Rattle.restore_filter.specs.Names.{takes}
use Rattle.restore_entries.specs.declared.reading.EntryReading.{EntryReading}
use Rattle.restore_entries.specs.declared.reading.EntryReading.TheVariants.{Passed, Kept, Unreadable}
use Rattle.restore_entries.specs.Cut.{takes_entry, cut_entry}

abbrev pub earlier : Ts → Ts → Bool
earlier a b = nat_lt a.secs b.secs || ((a.secs == b.secs) && nat_lt a.inc b.inc)

abbrev pub is_before : Option Ts → Ts → Bool
is_before None ts = true
is_before (Some l) ts = earlier ts l

-- the timestamp and the text of the namespace
abbrev pub Head : Type 0
Head = Ts × List ℕ

-- before the limit, and of another database than `config`
abbrev pub is_asked : Option Ts → Head → Bool
is_asked l h = is_before l h.0 && not (bytes_eq (before_first is_dot h.1) (codes "config"))

abbrev pub is_c : Value-F Value → Bool
is_c (Value-F.Str t) = bytes_eq t (codes "c")
is_c _ = false

abbrev pub is_c_there : Option Value → Bool
is_c_there None = false
is_c_there (Some v) = is_c (out-Value v)

abbrev pub is_command : Fields → Bool
is_command fs = is_c_there (lookup (codes "op") fs)

-- an entry that can't be read was to be replayed: a command, or one whose namespace is none or is taken
abbrev pub matters : Rules → Fields → Option NsName → Bool
matters r fs None = true
matters r fs (Some n) = is_command fs || takes r n

abbrev pub at_fault : Rules → Fields → Head → EntryReading
at_fault r fs h = if matters r fs (namespace_of h.1) then Unreadable (Some h.0) else Passed

abbrev pub at_entry : Rules → Entry → EntryReading
at_entry r e = if takes_entry r e then Kept (cut_entry r e) else Passed

abbrev pub at_head : Rules → Fields → Head → Read Entry → EntryReading
at_head r fs h (Ok e) = at_entry r e
at_head r fs h (Err f) = at_fault r fs h

abbrev pub from_head : Rules → Option Ts → Fields → Read Head → EntryReading
from_head r l fs (Err f) = Unreadable None
from_head r l fs (Ok h) = if is_asked l h then at_head r fs h (entry_of fs) else Passed

-- what a document of the oplog is to a restore with this filter and this limit
unfoldable pub reading_of : Rules → Option Ts → Fields → EntryReading
reading_of r l fs = from_head r l fs (head_of fs)
