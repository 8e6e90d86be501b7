-- Entries that change one document.
use Rattle.std.specs.Prelude.{ℕ, List, codes, Bool, false, ◌||◌, if◌then◌else◌, Option, None, Ok, Err}
use Rattle.std.specs.Str.{bytes_eq}
use Rattle.std.specs.Result.{result_ok}
use Rattle.entry_model.specs.declared.entry.Entry.{Entry}
use Rattle.entry_model.specs.Written.{Fields}
use Rattle.entry_model.specs.Reading.{Read, field, text_in, entry_of}

-- an insert, a delete or an update
abbrev pub changes_one : List ℕ → Bool
changes_one op = bytes_eq op (codes "i") || (bytes_eq op (codes "d") || bytes_eq op (codes "u"))

abbrev pub is_change : Read (List ℕ) → Bool
is_change (Ok op) = changes_one op
is_change (Err e) = false

-- the entry that a document is, where its operation is an insert, a delete or an update; nothing where it is another or has a fault
unfoldable pub change_of : Fields → Option Entry
change_of fs = if is_change (field text_in (codes "op") fs) then result_ok (entry_of fs) else None
