-- Seconds in lines are of 32 bits, and there are as many lines as in the text at most.
use Rattle.std.proofs.Common.{◌≡◌, ℕ, ◌+◌, ◌≤◌, List, [], ◌∷◌, length, arith, Option}
use Rattle.std.specs.Prelude.{map as each}
use Rattle.schedule_model.specs.declared.command.DocumentCommand.{DocumentCommand}
use Rattle.schedule_model.specs.declared.command.Command.{Command}
use Rattle.schedule_model.specs.declared.command.Command.TheVariants as commands
use Rattle.schedule_model.specs.declared.line.Line.{Line}
use Rattle.schedule_model.specs.declared.line.Line.TheVariants as lines
use Rattle.schedule_text.specs.declared.schedule.NumberedLine.{NumberedLine}
use Rattle.schedule_text.specs.declared.schedule.Schedule.{Schedule}
use Rattle.schedule_text.specs.Grammar.{IsCommand, IsStep, AreSteps, ends, passed, outer, single, dumping, opens, inner, commits, aborts, IsRead, uncapped, skipped, capped, IsSchedule}
use Rattle.schedule_text.specs.Grammar as texts
use Rattle.schedule_report.specs.Schedules.{numbered}
use Rattle.entry_times.specs.Laws.{HasSeconds, IsTimedLine, AreTimedLines}
use Rattle.given_lines.specs.Laws.{ReadIsTimed, ReadIsShort}

abbrev Transaction : Type 0
Transaction = Option (List DocumentCommand)

command_timed : (line : List ℕ) (c : Command) → IsCommand line c → HasSeconds c
command_timed line (commands.At second) h = let n = h.1 in omega (arith, n.2)
command_timed line (commands.Recording form) h = tt
command_timed line (commands.Create ns options) h = tt
command_timed line (commands.DropColl ns) h = tt
command_timed line (commands.DropDatabase db) h = tt
command_timed line (commands.Rename from to) h = tt
command_timed line (commands.Document d) h = tt
command_timed line (commands.CreateIndex ns def) h = tt
command_timed line (commands.DropIndex ns name) h = tt
command_timed line (commands.Txn ds) h = tt

step_timed : (line : List ℕ) (x : Line) → IsStep line x → IsTimedLine x
step_timed line (lines.Cmd c) h = absurd h
step_timed line lines.Dump h = tt
step_timed line (lines.Copy ns n) h = tt
step_timed line lines.Mark h = tt
step_timed line (lines.Tail n) h = tt

-- the lines of a schedule, and how many they are beside those of the text
abbrev AreTimedIn : List (ℕ × List ℕ) → List NumberedLine → Type 0
AreTimedIn rest steps = AreTimedLines (each numbered steps) × (length (each numbered steps) ≤ length rest)

steps_timed : {t : Transaction} {rest : List (ℕ × List ℕ)} {steps : List NumberedLine} → AreSteps t rest steps → AreTimedIn rest steps
steps_timed ends = (tt, omega arith)
steps_timed (passed p k) = let r = steps_timed k in (r.0, omega (arith, r.1))
steps_timed (outer u h k) = let r = steps_timed k in ((tt, r.0), omega (arith, r.1))
steps_timed (single {line} {c} u h k) = let r = steps_timed k in ((command_timed line c h, r.0), omega (arith, r.1))
steps_timed (dumping {line} {x} u h k) = let r = steps_timed k in ((step_timed line x h, r.0), omega (arith, r.1))
steps_timed (opens u h k) = let r = steps_timed k in (r.0, omega (arith, r.1))
steps_timed (inner d u h k) = let r = steps_timed k in (r.0, omega (arith, r.1))
steps_timed (commits u h k) = let r = steps_timed k in ((tt, r.0), omega (arith, r.1))
steps_timed (aborts u h k) = let r = steps_timed k in (r.0, omega (arith, r.1))

all_timed : {rest : List (ℕ × List ℕ)} {s : Schedule} → IsRead rest s → AreTimedIn rest s.lines
all_timed (uncapped k) = steps_timed k
all_timed (skipped p k) = let r = all_timed k in (r.0, omega (arith, r.1))
all_timed (capped u h k) = let r = steps_timed k in (r.0, omega (arith, r.1))

same_count : (n : ℕ) (ls : List (List ℕ)) → length (texts.numbered n ls) ≡ length ls
same_count n [] = omega arith
same_count n (l ∷ ls) = omega (arith, same_count (n + 1) ls)

pub read_timed : ReadIsTimed
read_timed text s h = (all_timed h.are_read).0

pub read_short : ReadIsShort
read_short text s h = let r = all_timed h.are_read in omega (arith, r.1, same_count 1 h.lines, h.few_lines)
