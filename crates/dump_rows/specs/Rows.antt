-- What calls of a store and of a dump answer, as texts.
use Rattle.std.specs.Prelude.{ℕ, List, [], ◌++◌, codes, Result, Ok, Err}
use Rattle.std.specs.Fmt.{decimal}
use Rattle.dump_run.specs.declared.fault.DumpFault.{DumpFault}
use Rattle.dump_run.specs.declared.fault.DumpFault.TheVariants as faults
use Rattle.dump_run.specs.declared.fault.DumpReport.{DumpReport}
use Rattle.schedule_report.specs.Lines.{row_name, ts_text}
use Rattle.store_core.specs.declared.fault.StoreFault.{StoreFault}
use Rattle.store_core.specs.declared.fault.StoreFault.TheVariants as store_faults

-- how many entries are recorded, or why none is
abbrev pub command_text : Result ℕ StoreFault → List ℕ
command_text (Ok n) = decimal n
command_text (Err (store_faults.Refused row)) = row_name row
command_text (Err store_faults.NoMemory) = []

abbrev pub fault_text : DumpFault → List ℕ
fault_text faults.NotNow = codes "NotNow"
fault_text faults.NoCursor = codes "NoCursor"
fault_text (faults.Renamed ts) = codes "Renamed " ++ ts_text ts
fault_text (faults.Rolled start oldest) = codes "Rolled " ++ ts_text start ++ codes " " ++ ts_text oldest
fault_text faults.WriteFault = codes "WriteFault"
fault_text faults.NoMemory = codes "NoMemory"

abbrev pub step_text : {A : Type 0} → Result A DumpFault → List ℕ
step_text (Ok a) = codes "done"
step_text (Err fault) = fault_text fault

abbrev pub finish_text : Result DumpReport DumpFault → List ℕ
finish_text (Ok report) = decimal report.documents ++ codes " documents " ++ decimal report.entries ++ codes " entries"
finish_text (Err fault) = fault_text fault
