-- What is recorded is replayed as what it records.
use Rattle.std.specs.Prelude.{⊤, ◌≡◌, None}
use Rattle.bson_value.specs.declared.value.Ts.{Ts}
use Rattle.replay.specs.Moves.{moves_of}
use Rattle.replay.specs.Refusals.{first_refused}
use Rattle.history_model.specs.Entries.{Content, Rename, entry_at, content_moves}
use Rattle.recorded_entries.specs.Good.{IsGood}

-- the entry stands for its moves
abbrev pub GoodMovesAre : Type 0
GoodMovesAre = (ts : Ts) (c : Content) → IsGood c → moves_of (entry_at ts c) ≡ content_moves c

abbrev pub IsNoRename : Content → Type 0
IsNoRename (Rename a b) = ⊥
IsNoRename c = ⊤

-- none that is no rename is refused
abbrev pub GoodIsPlayed : Type 0
GoodIsPlayed = (ts : Ts) (c : Content) → IsNoRename c → first_refused (entry_at ts c) ≡ None
