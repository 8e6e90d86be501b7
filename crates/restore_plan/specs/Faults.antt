-- What a restore that fails is told as.
use Rattle.std.specs.Prelude.{⊤, ◌≡◌, Option, Some}
use Rattle.replay.specs.declared.fault.ReplayFault.{ReplayFault}
use Rattle.replay.specs.declared.fault.ReplayFault.TheVariants as entries
use Rattle.index_build.specs.declared.fault.CountFault.{CountFault}
use Rattle.index_build.specs.declared.fault.CountFault.TheVariants as counts
use Rattle.restore_plan.specs.declared.fault.RestoreFault.{RestoreFault}
use Rattle.restore_plan.specs.declared.fault.RestoreFault.TheVariants.{NoMemory, Rename, OtherCommand, Parallel, Duplicate}

-- an entry that isn't replayed
abbrev pub of_replay : ReplayFault → RestoreFault
of_replay entries.NoMemory = NoMemory
of_replay (entries.Rename ts) = Rename ts
of_replay (entries.OtherCommand ts name) = OtherCommand ts name

-- indexes that can't be built
abbrev pub of_indexes : CountFault → RestoreFault
of_indexes counts.NoMemory = NoMemory
of_indexes (counts.Parallel ns index id) = Parallel ns index id
of_indexes (counts.Duplicate ns index first second) = Duplicate ns index first second

-- this fault, or memory ran out
abbrev pub IsFault : RestoreFault → Option RestoreFault → Type 0
IsFault NoMemory o = ⊤
IsFault f o = o ≡ Some f
