use Rattle.std.proofs.Common.{◌≡◌, ℕ, List, refl, Option, Err, sym, subst, map as each}
use Rattle.schedule_model.specs.declared.line.Line.{Line}
use Rattle.schedule_text.specs.declared.schedule.NumberedLine.{NumberedLine}
use Rattle.history_model.specs.WellFormed.{AreWellFormedLines}
use Rattle.history_model.specs.Laws.{RunsStayOk}
use Rattle.history_model.specs.Runs.{Schedule, first_stage}
use Rattle.store_core.specs.Stores.{Stored, StandsAt}
use Rattle.schedule_report.specs.Schedules.{schedule_in, numbered}
use Rattle.schedule_dump.specs.Progress.{BeforeStart}
use Rattle.schedule_dump.proofs.Reaching.{at_first}
use Rattle.schedule_dump.proofs.Coming.{breaks, never_output}
use Rattle.schedule_dump.proofs.run.dump.Goals as goal

formed : (lines xs : List NumberedLine) → xs ≡ lines → AreWellFormedLines (each numbered xs) → AreWellFormedLines (each numbered lines)
formed lines xs e h = subst (λ (x : List NumberedLine). AreWellFormedLines (each numbered x)) e h

waits : (s : Schedule) (store : Stored) (lines xs : List NumberedLine) (a : Option (List ℕ)) → s.lines ≡ each numbered lines → xs ≡ lines → RunsStayOk → AreWellFormedLines s.lines → StandsAt store (first_stage s.caps) → BeforeStart s store (each numbered xs) a a
waits s store lines xs a is e stay f at =
    subst (λ (x : List NumberedLine). BeforeStart s store (each numbered x) a a) (sym e) (subst (λ (ls : List (ℕ × Line)). BeforeStart s store ls a a) is (at_first s store a stay f at))

pub returns-in-Ok-run_up_to_start-clause-comes : goal.returns-in-Ok-run_up_to_start-clause-comes
returns-in-Ok-run_up_to_start-clause-comes g c =
    let s = schedule_in c.args.schedule in
    let a = (g.R.Sink.end c.args.report.now).bytes in
    let f = formed c.args.schedule.lines c.as_slice.result.now c.as_slice.ensures c.lines_are_well_formed.ensures in
    let w = waits s c.in-Ok.store c.args.schedule.lines c.of-lines.result a refl c.of-lines.ensures c.window_stands.ensures.reached f c.in-Ok.ensures in
    c.dump_beside.ensures.comes s a f (c.in-Ok-run_up_to_start.ensures.gets s a w)

pub returns-in-Ok-run_up_to_start-clause-output : goal.returns-in-Ok-run_up_to_start-clause-output
returns-in-Ok-run_up_to_start-clause-output g c =
    let s = schedule_in c.args.schedule in
    let a = (g.R.Sink.end c.args.report.now).bytes in
    let f = formed c.args.schedule.lines c.as_slice.result.now c.as_slice.ensures c.lines_are_well_formed.ensures in
    let w = waits s c.in-Ok.store c.args.schedule.lines c.of-lines.result a refl c.of-lines.ensures c.window_stands.ensures.reached f c.in-Ok.ensures in
    c.dump_beside.ensures.output s a (c.in-Ok-run_up_to_start.ensures.gets s a w)

pub returns-in-Err-run_up_to_start-clause-comes : goal.returns-in-Err-run_up_to_start-clause-comes
returns-in-Err-run_up_to_start-clause-comes g c =
    let s = schedule_in c.args.schedule in
    let a = (g.R.Sink.end c.args.report.now).bytes in
    let f = formed c.args.schedule.lines c.as_slice.result.now c.as_slice.ensures c.lines_are_well_formed.ensures in
    let w = waits s c.in-Ok.store c.args.schedule.lines c.of-lines.result a refl c.of-lines.ensures c.window_stands.ensures.reached f c.in-Ok.ensures in
    breaks s c.in-Err-run_up_to_start.fault (g.K.Sink.end c.args.output.now).bytes a (g.R.Sink.end c.run_up_to_start.new.report).bytes (c.in-Err-run_up_to_start.ensures.gets s a w)

pub returns-in-Err-run_up_to_start-clause-output :
    goal.returns-in-Err-run_up_to_start-clause-output
returns-in-Err-run_up_to_start-clause-output g c e =
    let s = schedule_in c.args.schedule in
    let a = (g.R.Sink.end c.args.report.now).bytes in
    let f = formed c.args.schedule.lines c.as_slice.result.now c.as_slice.ensures c.lines_are_well_formed.ensures in
    let w = waits s c.in-Ok.store c.args.schedule.lines c.of-lines.result a refl c.of-lines.ensures c.window_stands.ensures.reached f c.in-Ok.ensures in
    absurd (never_output c.in-Err-run_up_to_start.fault (Err c.in-Err-run_up_to_start.fault) (c.in-Err-run_up_to_start.ensures.gets s a w).0 refl e)
