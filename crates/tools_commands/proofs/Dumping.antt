-- What a dump that came to its end leaves, and the telling of its last line.
use Rattle.std.proofs.Common.{◌≡◌, ℕ, List, ◌++◌, refl}
use Rattle.std.specs.Io.KnownBytes.{Appends}
use Rattle.tool_io.specs.Causes.{AppendsFront}
use Rattle.tool_io.specs.Ends.{End}
use Rattle.tool_io.proofs.Writes.{appends_two, front_next}
use Rattle.history_model.specs.Runs.{Schedule}
use Rattle.history_model.specs.Histories.{refusals}
use Rattle.dump_model.specs.Archives.{written}
use Rattle.dump_run.specs.declared.fault.DumpReport.{DumpReport}
use Rattle.schedule_report.specs.Lines.{refusals_text}
use Rattle.schedule_dump.specs.Progress.{ends}
use Rattle.schedule_dump.specs.Outcomes.{Dumps}
use Rattle.schedule_dump.specs.Texts.{report_line}
use Rattle.tools_commands.specs.Ends.{turn, Writes}
use Rattle.tools_commands.specs.DumpAnswers.{TellsAll, TellsFront}

module _ (s : Schedule) (r : DumpReport) (o p q t u : End) (d : Dumps r s (ends o q) (ends p t)) where
  pub told_all : Appends t.bytes u.bytes (report_line r) → Writes (turn o p) (written s) × TellsAll s (turn q u)
  told_all a = (d.wrote, (refusals_text (refusals s) ++ report_line r, (r, d.done, d.reports, refl), appends_two q.bytes t.bytes u.bytes (refusals_text (refusals s)) (report_line r) d.told a))

  pub told_some : AppendsFront t.bytes u.bytes (report_line r) → Writes (turn o p) (written s) × TellsFront s (turn q u)
  told_some a = (d.wrote, (refusals_text (refusals s) ++ report_line r, (r, d.done, d.reports, refl), front_next q.bytes t.bytes u.bytes (refusals_text (refusals s)) (report_line r) d.told a))
