-- The laws of recorded entries.
use Rattle.std.specs.Prelude.{◌≡◌, Ok}
use Rattle.bson_value.specs.declared.value.Ts.{Ts}
use Rattle.entry_model.specs.Spelling.{entry_fields}
use Rattle.entry_model.specs.Reading.{entry_of}
use Rattle.entry_model.specs.Writable.{IsWritable}
use Rattle.history_model.specs.Entries.{Content, entry_at}
use Rattle.history_model.specs.Runs.{Schedule, run}
use Rattle.history_model.specs.Recordings.{EachMade}
use Rattle.recorded_entries.specs.Given.{AreGivenLines}
use Rattle.recorded_entries.specs.Good.{IsGood}
use Rattle.recorded_entries.specs.Kept.{AreKept}

-- ---- of every good content

-- it can be written, so that its document is read as the entry
abbrev pub GoodIsWritable : Type 0
GoodIsWritable = (ts : Ts) (c : Content) → IsGood c → IsWritable (entry_at ts c)

abbrev pub GoodIsReadBack : Type 0
GoodIsReadBack = (ts : Ts) (c : Content) → IsGood c → entry_of (entry_fields (entry_at ts c)) ≡ Ok (entry_at ts c)

-- ---- of every schedule

abbrev pub RecordedIsGood : Type 0
RecordedIsGood = (s : Schedule) → AreGivenLines s.lines → EachMade (λ m. IsGood m.content) (run s).made

abbrev pub RowsAreKept : Type 0
RowsAreKept = (s : Schedule) → AreGivenLines s.lines → AreKept (run s).stage.rows
