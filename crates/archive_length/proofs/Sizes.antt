-- How many lines of a text the lines of a schedule are of.
use Rattle.std.proofs.Common.{◌≡◌, ℕ, suc, ◌+◌, ◌≤◌, List, [], ◌∷◌, length, refl, arith, Option, Some, None}
use Rattle.std.proofs.lemmas.List.{length-append}
use Rattle.std.specs.Prelude.{map as each}
use Rattle.schedule_model.specs.declared.command.DocumentCommand.{DocumentCommand}
use Rattle.schedule_model.specs.declared.command.Command.{Command}
use Rattle.schedule_model.specs.declared.command.Command.TheVariants as commands
use Rattle.schedule_model.specs.declared.line.Line.{Line}
use Rattle.schedule_model.specs.declared.line.Line.TheVariants as lines
use Rattle.schedule_text.specs.declared.schedule.NumberedLine.{NumberedLine}
use Rattle.schedule_text.specs.declared.schedule.Schedule.{Schedule}
use Rattle.schedule_text.specs.Grammar.{IsStep, AreSteps, ends, passed, outer, single, dumping, opens, inner, commits, aborts, IsCommand, IsRead, uncapped, skipped, capped, IsSchedule}
use Rattle.schedule_text.specs.Grammar as texts
use Rattle.schedule_report.specs.Schedules.{numbered, schedule_in}

-- how many lines of a text a line is of: a transaction is of its commands' lines and its last
abbrev pub size_of_command : Command → ℕ
size_of_command (commands.Txn ds) = suc (length ds)
size_of_command _ = 1

abbrev pub size_of : Line → ℕ
size_of (lines.Cmd k) = size_of_command k
size_of _ = 1

abbrev pub sizes : List (ℕ × Line) → ℕ
sizes [] = 0
sizes (l ∷ ls) = size_of l.1 + sizes ls

abbrev Transaction : Type 0
Transaction = Option (List DocumentCommand)

-- the commands of a transaction so far
abbrev so_far : Transaction → ℕ
so_far None = 0
so_far (Some ds) = length ds

command_small : (line : List ℕ) (c : Command) → IsCommand line c → size_of_command c ≡ 1
command_small line (commands.At second) h = refl
command_small line (commands.Recording form) h = refl
command_small line (commands.Create ns options) h = refl
command_small line (commands.DropColl ns) h = refl
command_small line (commands.DropDatabase db) h = refl
command_small line (commands.Rename from to) h = refl
command_small line (commands.Document d) h = refl
command_small line (commands.CreateIndex ns def) h = refl
command_small line (commands.DropIndex ns name) h = refl
command_small line (commands.Txn ds) h = absurd h

step_small : (line : List ℕ) (x : Line) → IsStep line x → size_of x ≡ 1
step_small line (lines.Cmd c) h = absurd h
step_small line lines.Dump h = refl
step_small line (lines.Copy ns n) h = refl
step_small line lines.Mark h = refl
step_small line (lines.Tail n) h = refl

steps_small : {t : Transaction} {rest : List (ℕ × List ℕ)} {steps : List NumberedLine} → AreSteps t rest steps → sizes (each numbered steps) ≤ length rest + so_far t
steps_small ends = omega arith
steps_small (passed p k) = omega (arith, steps_small k)
steps_small (outer u h k) = omega (arith, steps_small k)
steps_small (single {line} {c} u h k) = omega (arith, steps_small k, command_small line c h)
steps_small (dumping {line} {x} u h k) = omega (arith, steps_small k, step_small line x h)
steps_small (opens u h k) = omega (arith, steps_small k)
steps_small (inner d {line} {before} u h k) = omega (arith, steps_small k, length-append before (d ∷ []))
steps_small (commits u h k) = omega (arith, steps_small k)
steps_small (aborts u h k) = omega (arith, steps_small k)

all_small : {rest : List (ℕ × List ℕ)} {s : Schedule} → IsRead rest s → sizes (each numbered s.lines) ≤ length rest
all_small (uncapped k) = omega (arith, steps_small k)
all_small (skipped p k) = omega (arith, all_small k)
all_small (capped u h k) = omega (arith, steps_small k)

same_count : (n : ℕ) (ls : List (List ℕ)) → length (texts.numbered n ls) ≡ length ls
same_count n [] = omega arith
same_count n (l ∷ ls) = omega (arith, same_count (n + 1) ls)

pub read_small : (text : List ℕ) (s : Schedule) → IsSchedule text s → sizes (schedule_in s).lines ≤ 1048576
read_small text s h = omega (arith, all_small h.are_read, same_count 1 h.lines, h.few_lines)
