-- Indexes hold at each moment of a run.
use Rattle.std.proofs.Common.{◌≡◌, ℕ, List, [], ◌∷◌, refl, sym, subst, Option, Some, None, Result, Ok, Err}
use Rattle.schedule_model.specs.declared.line.Line.{Line}
use Rattle.schedule_model.specs.declared.line.Line.TheVariants.{Cmd, Dump, Copy, Mark, Tail}
use Rattle.schedule_model.specs.declared.refused.Refused.{Refused}
use Rattle.history_model.specs.Stages.{Stage, Made}
use Rattle.history_model.specs.Commands.{applied}
use Rattle.history_model.specs.Runs.{Schedule, Run, DumpState, begun, commanded, or_refused, after_line, after_lines, first_run, run}
use Rattle.history_model.specs.Indexes.{IndexesHold}
use Rattle.history_model.proofs.IndexesHeld.{applied_holds, nothing_holds}
use Rattle.history_model.proofs.Modelled.{same_after}
use Rattle.history_model.proofs.WholeRun.{finished_lines}

same_rows : (a b : Stage) → a ≡ b → IndexesHold b.rows → IndexesHold a.rows
same_rows a b e h = subst (λ (z : Stage). IndexesHold z.rows) (sym e) h

line_holds : (l : ℕ × Line) (r : Run) → IndexesHold r.stage.rows → IndexesHold (after_line l r).stage.rows
line_holds (i, Cmd k) r h = by (applied k r.stage) refl
  where
    by : (y : Result (Stage × List Made) Refused) → applied k r.stage ≡ y → IndexesHold (or_refused i (commanded y r) r).stage.rows
    by (Err x) e = h
    by (Ok x) e = applied_holds k r.stage x e h
line_holds (i, Dump) r h = same_rows (after_line (i, Dump) r).stage r.stage (same_after i Dump r tt) h
line_holds (i, Copy n k) r h = same_rows (after_line (i, Copy n k) r).stage r.stage (same_after i (Copy n k) r tt) h
line_holds (i, Mark) r h = same_rows (after_line (i, Mark) r).stage r.stage (same_after i Mark r tt) h
line_holds (i, Tail n) r h = same_rows (after_line (i, Tail n) r).stage r.stage (same_after i (Tail n) r tt) h

pub lines_hold : (ls : List (ℕ × Line)) (r : Run) → IndexesHold r.stage.rows → IndexesHold (after_lines ls r).stage.rows
lines_hold [] r h = h
lines_hold (l ∷ ls) r h = lines_hold ls (after_line l r) (line_holds l r h)

begun_holds : (o : Option DumpState) (r : Run) → IndexesHold r.stage.rows → IndexesHold (begun o r).stage.rows
begun_holds None r h = h
begun_holds (Some d) r h = h

pub run_holds : (s : Schedule) → IndexesHold (run s).stage.rows
run_holds s =
    (let r = after_lines s.lines (first_run s.caps) in
    let f = finished_lines r in
    subst (λ (z : Run). IndexesHold z.stage.rows) (sym f.1) (lines_hold f.0 (begun r.dump r) (begun_holds r.dump r (lines_hold s.lines (first_run s.caps) nothing_holds))))
