-- The lines that are told of a dump: at its end its moments and counts, or why it failed.
use Rattle.std.specs.Prelude.{ℕ, List, ◌++◌, codes}
use Rattle.std.specs.Fmt.{decimal}
use Rattle.bson_value.specs.declared.value.Ts.{Ts}
use Rattle.dump_run.specs.declared.fault.DumpReport.{DumpReport}
use Rattle.schedule_report.specs.Lines.{ts_text}

abbrev pub report_line : DumpReport → List ℕ
report_line r =
    codes "start " ++ (ts_text r.start ++ (codes " lastread " ++ (ts_text r.last_read ++ (codes " end " ++ (ts_text r.end ++ (codes " documents " ++ (decimal r.documents ++ (codes " entries " ++ (decimal r.entries ++ codes "\n")))))))))

abbrev pub rolled_line : Ts → Ts → List ℕ
rolled_line start oldest = codes "rolled: start " ++ (ts_text start ++ (codes " oldest " ++ (ts_text oldest ++ codes "\n")))

abbrev pub renamed_line : Ts → List ℕ
renamed_line ts = codes "renamed: " ++ (ts_text ts ++ codes "\n")
