-- What is told of a status at the end of a call.
use Rattle.std.specs.Prelude.{◌≡◌, ◌⊎◌}
use Rattle.tools_commands.specs.declared.status.Status.{Status}
use Rattle.tools_commands.specs.declared.status.Status.TheVariants as is
use Rattle.tools_commands.specs.Lines.{line_of, no_memory_line}
use Rattle.tools_commands.specs.Ends.{Turn, Same, WritesFront, Tells}

-- the status has its line on the report; one that is done has none
abbrev pub Reports : Status → Turn → Type 0
Reports is.Done report = Same report
Reports (is.Usage at) report = Tells report (line_of (is.Usage at))
Reports (is.BadSchedule line kind) report = Tells report (line_of (is.BadSchedule line kind))
Reports (is.BadArchive f) report = Tells report (line_of (is.BadArchive f))
Reports (is.Rolled start oldest) report = Tells report (line_of (is.Rolled start oldest))
Reports (is.Renamed ts) report = Tells report (line_of (is.Renamed ts))
Reports (is.NotRestored f) report = Tells report (line_of (is.NotRestored f))
Reports is.ReadFault report = Tells report (line_of is.ReadFault)
Reports is.WriteFault report = Tells report (line_of is.WriteFault)
Reports is.NoMemory report = Tells report (line_of is.NoMemory)

-- there was no memory for the line of this status
abbrev pub RunsOut : Status → Turn → Type 0
RunsOut status report = WritesFront report (line_of status) ⊎ WritesFront report no_memory_line

-- the status behind the report, for the one before it
abbrev pub Told : Status → Status → Turn → Type 0
Told status final report = ((final ≡ status) × Reports status report) ⊎ ((final ≡ is.NoMemory) × RunsOut status report)
