-- A run makes two entries a line at most.
use Rattle.std.proofs.Common.{◌≡◌, ℕ, ◌*◌, ◌≤◌, List, [], ◌∷◌, length, refl, ap, arith, Result, Ok, Err}
use Rattle.std.proofs.lemmas.List.{length-append}
use Rattle.schedule_model.specs.declared.command.Command.{Command}
use Rattle.schedule_model.specs.declared.line.Line.{Line}
use Rattle.schedule_model.specs.declared.line.Line.TheVariants.{Cmd, Dump, Copy, Mark, Tail}
use Rattle.schedule_model.specs.declared.refused.Refused.{Refused}
use Rattle.history_model.specs.Stages.{Effect}
use Rattle.history_model.specs.Commands.{effects, set_by, answered}
use Rattle.history_model.specs.Runs.{Run, first_run, after_line}
use Rattle.history_model.specs.Recordings.{made_of_answer, made_by_line, made_by}
use Rattle.entry_times.proofs.Few.{effects_few}
use Rattle.done_dumps.specs.Laws.{PlainDumpsAreDone}
use Rattle.done_dumps.proofs.Calm.{made_length, made_whole, quiet_done}

command_few : (k : Command) (r : Run) → length (made_by_line (Cmd k) r) ≤ 2
command_few k r = by (effects k r.stage) refl
  where
    by : (y : Result (List Effect) Refused) → effects k r.stage ≡ y → length (made_of_answer (answered (set_by k r.stage) y)) ≤ 2
    by (Err x) e = omega arith
    by (Ok ds) e = omega (arith, made_length ds (set_by k r.stage), effects_few k r.stage ds e)

line_few : (l : Line) (r : Run) → length (made_by_line l r) ≤ 2
line_few (Cmd k) r = command_few k r
line_few Dump r = omega arith
line_few (Copy n k) r = omega arith
line_few Mark r = omega arith
line_few (Tail n) r = omega arith

lines_few : (ls : List (ℕ × Line)) (r : Run) → length (made_by ls r) ≤ 2 * length ls
lines_few [] r = omega arith
lines_few (l ∷ ls) r = omega (arith, length-append (made_by_line l.1 r) (made_by ls (after_line l r)), line_few l.1 r, lines_few ls (after_line l r))

pub plain_done : PlainDumpsAreDone
plain_done s p =
    let whole = ap length (made_whole s) in
    quiet_done s (record { no_rename = p.no_rename; any_bytes = p.any_bytes; room = omega (arith, p.room, whole, lines_few s.lines (first_run s.caps)) })
