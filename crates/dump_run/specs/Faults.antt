-- Why a dump fails at its mark, or at a step that sends entries.
use Rattle.std.specs.Prelude.{◌≡◌, Bool, true, false, Option, Some, None}
use Rattle.bson_value.specs.declared.value.Ts.{Ts}
use Rattle.tool_io.specs.declared.ends.Fault.{Fault}
use Rattle.tool_io.specs.declared.ends.Fault.TheVariants as ends
use Rattle.history_model.specs.Stages.{Oplog}
use Rattle.history_model.specs.Runs.{is_gone, oldest, renamed_since}
use Rattle.dump_run.specs.declared.fault.DumpFault.{DumpFault}
use Rattle.dump_run.specs.declared.fault.DumpFault.TheVariants as faults

-- of a sink
abbrev pub of_sink : Fault → DumpFault
of_sink ends.NoMemory = faults.NoMemory
of_sink ends.Failed = faults.WriteFault

-- the entry at Start is gone
abbrev pub rolled_if : Bool → Ts → Oplog → Option DumpFault
rolled_if true start es = Some (faults.Rolled start (oldest start es))
rolled_if false start es = None

abbrev pub renamed_or : Option Ts → Option DumpFault → Option DumpFault
renamed_or (Some ts) rest = Some (faults.Renamed ts)
renamed_or None rest = rest

-- at the mark: a rename goes before a rolled oplog
abbrev pub fault_at_mark : Ts → Option Ts → Oplog → Option DumpFault
fault_at_mark start renamed es = renamed_or (renamed_since start renamed) (rolled_if (is_gone start es) start es)

abbrev pub IsOfSink : DumpFault → Type 0
IsOfSink f = (e : Fault) × (f ≡ of_sink e)

-- the call had no place
abbrev pub is_refusal : DumpFault → Bool
is_refusal faults.NotNow = true
is_refusal faults.NoCursor = true
is_refusal (faults.Renamed ts) = false
is_refusal (faults.Rolled start oldest) = false
is_refusal faults.WriteFault = false
is_refusal faults.NoMemory = false
