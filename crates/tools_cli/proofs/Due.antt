-- Which status is due, and what each command says.
use Rattle.std.proofs.Common.{ℕ, ◌≡◌, List, [], inl, inr, refl, sym, ap, subst, ◌∙◌}
use Rattle.std.specs.Prelude.{Option, None, Some, Result, Ok, Err, IfSome}
use Rattle.demux.proofs.Begin.{keeps_same}
use Rattle.restore_plan.specs.declared.plan.Plan.{Plan}
use Rattle.restore_plan.specs.Outcome.{Outcome, restores, refuses, fails, IsOutcome, OnInput}
use Rattle.restore_plan.proofs.Outcomes.{outcome_once}
use Rattle.tools_words.specs.declared.order.Order.TheVariants as orders
use Rattle.schedule_text.specs.declared.schedule.Schedule.{Schedule}
use Rattle.schedule_text.specs.Reading.{Bad, schedule_of}
use Rattle.tools_words.specs.declared.order.SourceOrder.{SourceOrder}
use Rattle.tools_words.specs.declared.order.RestoreOrder.{RestoreOrder}
use Rattle.tools_commands.specs.declared.status.Status.{Status}
use Rattle.tools_commands.specs.declared.status.Status.TheVariants as is
use Rattle.tools_cli.specs.declared.texts.TheConstants.{HELP, VERSION}
use Rattle.tools_words.specs.Words.{Meaning}
use Rattle.tool_io.specs.Ends.{End}
use Rattle.tools_commands.specs.Ends.{Turn, Untouched}
use Rattle.tools_commands.specs.Statuses.{Gives}
use Rattle.tools_commands.specs.SourceAnswers.{reading_code, SourceSays, SourceAnswers}
use Rattle.tools_commands.specs.DumpAnswers.{dump_code, DumpSays, DumpAnswers}
use Rattle.tools_commands.specs.DumpAnswers as dumps
use Rattle.tools_commands.specs.RestoreAnswers.{outcome_code, RestoreSays, RestoreAnswers}
use Rattle.drill_run.specs.Drills.{drill_line}
use Rattle.tools_cli.specs.ShowAnswers.{Shown, ShowAnswers}
use Rattle.tools_cli.specs.Answers.{Says}
use Rattle.tools_commands.proofs.Reading.{refused, failed, none_read}
use Rattle.tools_commands.proofs.Telling.{keeps_front}

-- `source` and `dump`

read_as : (f : Result Schedule Bad → ℕ) (known now : Option (List ℕ)) (s : Schedule) (all : List ℕ) → IfSome known (λ b. (schedule_of b ≡ Ok s) × (now ≡ Some [])) → known ≡ Some all → f (Ok s) ≡ f (schedule_of all)
read_as f None now s all h e = absurd cc
read_as f (Some b) now s all h e =
    let whole : b ≡ all = cc in
    sym (ap (λ (z : List ℕ). f (schedule_of z)) (sym whole) ∙ ap f h.0)

bad_as : (f : Result Schedule Bad → ℕ) (known : Option (List ℕ)) (bad : Bad) (all : List ℕ) → IfSome known (λ b. schedule_of b ≡ Err bad) → known ≡ Some all → f (Err bad) ≡ f (schedule_of all)
bad_as f None bad all h e = absurd cc
bad_as f (Some b) bad all h e =
    let whole : b ≡ all = cc in
    sym (ap (λ (z : List ℕ). f (schedule_of z)) (sym whole) ∙ ap f h)

source_due : (order : SourceOrder) (s : Status) (i o r : Turn) → SourceSays order s i o r → (all : List ℕ) → i.before.bytes ≡ Some all → Gives s (reading_code (schedule_of all))
source_due order is.Done i o r h all e = inl (read_as reading_code i.before.bytes i.after.bytes h.0 all h.1 e)
source_due order (is.Usage at) i o r h all e = absurd h
source_due order (is.BadSchedule line kind) i o r h all e = inl (bad_as reading_code i.before.bytes (line, kind) all h.0 e)
source_due order (is.BadArchive f) i o r h all e = absurd h
source_due order (is.Rolled start oldest) i o r h all e = absurd h
source_due order (is.Renamed ts) i o r h all e = absurd h
source_due order (is.NotRestored f) i o r h all e = absurd h
source_due order is.ReadFault i o r h all e = inr tt
source_due order is.WriteFault i o r h all e = inr tt
source_due order is.NoMemory i o r h all e = inr tt

pub source_says : (order : SourceOrder) (s : Status) (i o r : Turn) → SourceSays order s i o r → SourceAnswers order s i o r
source_says order s i o r h = record { says = h; due = source_due order s i o r h }

dump_due : (s : Status) (i o r : Turn) → DumpSays s i o r → (all : List ℕ) → i.before.bytes ≡ Some all → Gives s (dump_code (schedule_of all))
dump_due is.Done i o r h all e = inl (sym (ap dumps.outcome_code h.2.1.1.1) ∙ read_as dump_code i.before.bytes i.after.bytes h.0 all h.1 e)
dump_due (is.Usage at) i o r h all e = absurd h
dump_due (is.BadSchedule line kind) i o r h all e = inl (bad_as dump_code i.before.bytes (line, kind) all h.0 e)
dump_due (is.BadArchive f) i o r h all e = absurd h
dump_due (is.Rolled start oldest) i o r h all e = inl (sym (ap dumps.outcome_code h.2.0) ∙ read_as dump_code i.before.bytes i.after.bytes h.0 all h.1 e)
dump_due (is.Renamed ts) i o r h all e = inl (sym (ap dumps.outcome_code h.2.0) ∙ read_as dump_code i.before.bytes i.after.bytes h.0 all h.1 e)
dump_due (is.NotRestored f) i o r h all e = absurd h
dump_due is.ReadFault i o r h all e = inr tt
dump_due is.WriteFault i o r h all e = inr tt
dump_due is.NoMemory i o r h all e = inr tt

pub dump_says : (s : Status) (i o r : Turn) → DumpSays s i o r → DumpAnswers s i o r
dump_says s i o r h = record { says = h; due = dump_due s i o r h }

-- `restore`

same_code : (p : Plan) (known : Option (List ℕ)) (o q : Outcome) (all : List ℕ) → OnInput known (λ b. IsOutcome p b o) → known ≡ Some all → IsOutcome p all q → outcome_code o ≡ outcome_code q
same_code p None o q all has e h = absurd cc
same_code p (Some b) o q all has e h =
    let whole : b ≡ all = cc in
    let Q : List ℕ → Type 0 = λ b. IsOutcome p b o in
    ap outcome_code (outcome_once p all o q (subst Q whole has) h)

restore_due : (order : RestoreOrder) (s : Status) (i o : Turn) → RestoreSays order s i o → (all : List ℕ) (q : Outcome) → i.before.bytes ≡ Some all → IsOutcome order.plan all q → Gives s (outcome_code q)
restore_due order is.Done i o h all q e k = inl (same_code order.plan i.before.bytes (restores h.1.1.0) q all h.1.1.1 e k)
restore_due order (is.Usage at) i o h all q e k = absurd h
restore_due order (is.BadSchedule line kind) i o h all q e k = absurd h
restore_due order (is.BadArchive f) i o h all q e k = inl (same_code order.plan i.before.bytes (refuses f) q all (refused order.plan i (refuses f) h.0) e k)
restore_due order (is.Rolled start oldest) i o h all q e k = absurd h
restore_due order (is.Renamed ts) i o h all q e k = absurd h
restore_due order (is.NotRestored f) i o h all q e k = inl (same_code order.plan i.before.bytes (fails f) q all (failed order.plan i f h.0) e k)
restore_due order is.ReadFault i o h all q e k = inr tt
restore_due order is.WriteFault i o h all q e k = inr tt
restore_due order is.NoMemory i o h all q e k = inr tt

pub restore_says : (order : RestoreOrder) (s : Status) (i o r : Turn) → RestoreSays order s i o → Untouched r → RestoreAnswers order s i o r
restore_says order s i o r h e = record { says = h; silent = e; due = restore_due order s i o h }

-- `drill`, `--help` and `--version`

pub show_says : (text : List ℕ) (s : Status) (i : End) (o : Turn) (r : End) → Shown text s o → ShowAnswers text s (record { before = i; after = i }) o (record { before = r; after = r })
show_says text is.Done i o r h = record { unread = keeps_same i.bytes; shown = h; silent = refl; due = inl refl }
show_says text (is.Usage at) i o r h = absurd h
show_says text (is.BadSchedule line kind) i o r h = absurd h
show_says text (is.BadArchive f) i o r h = absurd h
show_says text (is.Rolled start oldest) i o r h = absurd h
show_says text (is.Renamed ts) i o r h = absurd h
show_says text (is.NotRestored f) i o r h = absurd h
show_says text is.ReadFault i o r h = absurd h
show_says text is.WriteFault i o r h = record { unread = keeps_same i.bytes; shown = h; silent = refl; due = inr tt }
show_says text is.NoMemory i o r h = record { unread = keeps_same i.bytes; shown = h; silent = refl; due = inr tt }

-- where nothing was done

abbrev pub still : End → Turn
still e = record { before = e; after = e }

show_nothing : (text : List ℕ) (i o r : End) → ShowAnswers text is.NoMemory (still i) (still o) (still r)
show_nothing text i o r = show_says text is.NoMemory i (still o) r (keeps_front o.bytes o.bytes text (keeps_same o.bytes))

pub memory_says : (m : Meaning) (i o r : End) → Says m is.NoMemory (still i) (still o) (still r)
memory_says (Ok (orders.Source order)) i o r = source_says order is.NoMemory (still i) (still o) (still r) (inl (keeps_same o.bytes, refl))
memory_says (Ok orders.Dump) i o r = dump_says is.NoMemory (still i) (still o) (still r) (inl (keeps_same o.bytes, refl))
memory_says (Ok (orders.Restore order)) i o r = restore_says order is.NoMemory (still i) (still o) (still r) (none_read order.plan i, inl (keeps_same o.bytes)) refl
memory_says (Ok (orders.Drill n)) i o r = show_nothing (drill_line n) i o r
memory_says (Ok orders.Help) i o r = show_nothing HELP.now i o r
memory_says (Ok orders.Version) i o r = show_nothing VERSION.now i o r
memory_says (Err at) i o r = record { names = tt; unread = keeps_same i.bytes; unwritten = keeps_same o.bytes; silent = refl; due = inr tt }
