-- The numbers of the statuses, and which status is due.
use Rattle.std.specs.Prelude.{⊤, ◌≡◌, ◌⊎◌, ℕ, List}
use Rattle.bson_value.specs.declared.namespace.NsName.{NsName}
use Rattle.bson_value.specs.declared.value.Ts.{Ts}
use Rattle.bson_value.specs.declared.value.Value.{Value}
use Rattle.archive_format.specs.declared.fault.FormatFault.{FormatFault}
use Rattle.restore_plan.specs.declared.fault.RestoreFault.{RestoreFault}
use Rattle.restore_plan.specs.declared.fault.RestoreFault.TheVariants as faults
use Rattle.schedule_text.specs.declared.fault.LineKind.{LineKind}
use Rattle.tools_commands.specs.declared.status.Status.{Status}
use Rattle.tools_commands.specs.declared.status.Status.TheVariants as is

-- of an archive that can't be restored
abbrev pub restore_code : RestoreFault → ℕ
restore_code (faults.Metadata ns at) = 3
restore_code (faults.NoId ns) = 3
restore_code (faults.Duplicate ns i a b) = 6
restore_code (faults.Parallel ns i a) = 7
restore_code (faults.Entry ts) = 8
restore_code (faults.Rename ts) = 8
restore_code (faults.OtherCommand ts name) = 8
restore_code faults.NoMemory = 11

abbrev pub code_of : Status → ℕ
code_of is.Done = 0
code_of (is.Usage at) = 1
code_of (is.BadSchedule line kind) = 2
code_of (is.BadArchive f) = 3
code_of (is.Rolled start oldest) = 4
code_of (is.Renamed ts) = 5
code_of (is.NotRestored f) = restore_code f
code_of is.ReadFault = 9
code_of is.WriteFault = 10
code_of is.NoMemory = 11

-- it is a fault of a restore with this number
abbrev pub IsFailure : ℕ → Status → Type 0
IsFailure n s = (f : RestoreFault) × (s ≡ is.NotRestored f) × (restore_code f ≡ n)

-- what the number of a status tells of it
pub record Numbered (s : Status) : Type 0 where
  pub done : code_of s ≡ 0 → s ≡ is.Done
  pub usage : code_of s ≡ 1 → (at : ℕ) × (s ≡ is.Usage at)
  pub bad_schedule : code_of s ≡ 2 → (line : ℕ) × (kind : LineKind) × (s ≡ is.BadSchedule line kind)
  pub bad_archive : code_of s ≡ 3 → ((f : FormatFault) × (s ≡ is.BadArchive f)) ⊎ IsFailure 3 s
  pub rolled : code_of s ≡ 4 → (start : Ts) × (oldest : Ts) × (s ≡ is.Rolled start oldest)
  pub renamed : code_of s ≡ 5 → (ts : Ts) × (s ≡ is.Renamed ts)
  pub duplicate_key : code_of s ≡ 6 → (ns : NsName) × (i : List ℕ) × (a : Value) × (b : Value) × (s ≡ is.NotRestored (faults.Duplicate ns i a b))
  pub parallel_arrays : code_of s ≡ 7 → (ns : NsName) × (i : List ℕ) × (a : Value) × (s ≡ is.NotRestored (faults.Parallel ns i a))
  pub unknown_operation : code_of s ≡ 8 → IsFailure 8 s
  pub read_fault : code_of s ≡ 9 → s ≡ is.ReadFault
  pub write_fault : code_of s ≡ 10 → s ≡ is.WriteFault
  pub no_memory : code_of s ≡ 11 → (s ≡ is.NoMemory) ⊎ (s ≡ is.NotRestored faults.NoMemory)

-- the law that numbers tell statuses apart
abbrev pub NumbersTellApart : Type 0
NumbersTellApart = (s : Status) → Numbered s

-- a status that an end or memory brings, whichever is due
abbrev pub IsOutside : Status → Type 0
IsOutside is.ReadFault = ⊤
IsOutside is.WriteFault = ⊤
IsOutside is.NoMemory = ⊤
IsOutside _ = ⊥

-- the status has the number that is due, or comes from outside
abbrev pub Gives : Status → ℕ → Type 0
Gives status due = (code_of status ≡ due) ⊎ IsOutside status
