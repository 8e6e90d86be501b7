-- What a restore keeps of recorded entries.
use Rattle.std.specs.Prelude.{⊤, ◌≡◌, List, [], Bool, true, Option}
use Rattle.bson_value.specs.declared.value.Ts.{Ts}
use Rattle.entry_model.specs.Spelling.{entry_fields}
use Rattle.state_model.specs.Moves.{Move}
use Rattle.state_model.specs.Cut.{taken}
use Rattle.replay.specs.Moves.{moves_of}
use Rattle.replay.specs.Refusals.{first_refused}
use Rattle.restore_filter.specs.Rules.{Rules}
use Rattle.restore_filter.specs.Names.{takes}
use Rattle.restore_entries.specs.declared.reading.EntryReading.{EntryReading}
use Rattle.restore_entries.specs.declared.reading.EntryReading.TheVariants.{Passed, Kept, Unreadable}
use Rattle.restore_entries.specs.Oplog.{reading_of}
use Rattle.history_model.specs.Entries.{Content, entry_at, content_moves}
use Rattle.history_model.specs.Histories.{is_before}
use Rattle.recorded_entries.specs.Good.{IsGood}

-- a reading that stands for these moves
abbrev pub StandsFor : List Move → EntryReading → Type 0
StandsFor ms Passed = ms ≡ []
StandsFor ms (Kept e) = moves_of e ≡ ms
StandsFor ms (Unreadable ts) = ⊥

-- those that the filter takes, where the entry is before the limit, and else none
abbrev pub kept_moves : Bool → Rules → Content → List Move
kept_moves true r c = taken (takes r) (content_moves c)
kept_moves _ r c = []

abbrev pub GoodIsKept : Type 0
GoodIsKept = (r : Rules) (l : Option Ts) (ts : Ts) (c : Content) → IsGood c → StandsFor (kept_moves (is_before l ts) r c) (reading_of r l (entry_fields (entry_at ts c)))
