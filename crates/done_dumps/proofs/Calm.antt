-- A dump in whose time nothing is renamed and no entry leaves the oplog doesn't fail.
use Rattle.std.proofs.Common.{◌≡◌, ℕ, suc, ◌+◌, ◌≤◌, List, [], ◌∷◌, ◌++◌, length, Bool, true, false, not, refl, sym, ap, ◌∙◌, subst, arith, Option, Some, None, Result, Ok, Err}
use Rattle.std.proofs.lemmas.List.{length-append}
use Rattle.std.specs.Prelude.{⊤, ◌||◌, is_some}
use Rattle.std.specs.FinMap as map
use Rattle.bson_value.specs.declared.namespace.NsName.{NsName}
use Rattle.bson_value.specs.declared.value.Ts.{Ts}
use Rattle.schedule_model.specs.declared.command.Command.{Command}
use Rattle.schedule_model.specs.declared.command.Command.TheVariants as commands
use Rattle.schedule_model.specs.declared.line.Line.{Line}
use Rattle.schedule_model.specs.declared.line.Line.TheVariants.{Cmd, Dump, Copy, Mark, Tail}
use Rattle.schedule_model.specs.declared.refused.Refused.{Refused}
use Rattle.copy_model.specs.Cursors.{Cursor}
use Rattle.history_model.specs.Stages.{Caps, Oplog, Stage, Effect, stage_by, stage_after, made_in}
use Rattle.history_model.specs.Commands.{effects, set_by, answered}
use Rattle.history_model.specs.Runs.{Schedule, Refusal, NotNow, NoCursor, DumpState, Outcome, Done, Run, first_run, entries_from, window, looked, all_ended, read_on, copied_by, copied, renamed_since, rolled_or, rolled, marked_by, marked, sent_on, tailed_to, tailed, still, in_dump, dumped, commanded, on_line, or_refused, after_line, after_lines, run}
use Rattle.history_model.specs.Recordings.{made_of_answer, made_by_line, made_by}
use Rattle.history_model.proofs.AtTheMark.{lines_made}
use Rattle.history_model.proofs.SourceMade.{finished_made}
use Rattle.done_dumps.specs.Laws.{IsNoRename, IsNoRenameLine, AreNoRenames, QuietDumpsAreDone}
use Rattle.done_dumps.proofs.Behind.{Kept, StepsKeep, finished_keeps}
use Rattle.done_dumps.proofs.Room.{stands, Steady, all_stand}
use Rattle.done_dumps.proofs.Renames.{none_renamed}

-- the entry at Start stands
abbrev StartStands : Option DumpState → Oplog → Type 0
StartStands None es = ⊤
StartStands (Some d) es = stands d.start es ≡ true

record Calm (c : Caps) (r : Run) : Type 0 where
  live : r.outcome ≡ Done
  steady : Steady c r.stage
  few : length r.stage.oplog ≤ suc (length r.made)
  start : StartStands r.dump r.stage.oplog

first_calm : (c : Caps) → Calm c (first_run c)
first_calm c = record { live = refl; steady = record { caps = refl; renamed = refl; newest = refl }; few = omega arith; start = tt }

-- ---- the steps of a dump

copied_calm : (c : Caps) (n : NsName) (k : ℕ) (d : DumpState) (r : Run) → Calm c r → stands d.start r.stage.oplog ≡ true → Kept (Calm c) (copied n k d r)
copied_calm c n k d r h s = by (map.get d.cursors n)
  where
    by : (o : Option Cursor) → Kept (Calm c) (copied_by n k o d r)
    by None = tt
    by (Some x) = elim x.ended as (λ b. Kept (Calm c) (elim b [ true ↦ Err NoCursor | false ↦ Ok (read_on n (looked k x (map.get r.stage.rows.tables n)) d r) ])) [
      | true ↦ tt
      | false ↦ record { live = h.live; steady = h.steady; few = h.few; start = s }
    ]

-- no rename was noted, and the entry at Start isn't gone
marked_calm : (c : Caps) (d : DumpState) (r : Run) → Calm c r → stands d.start r.stage.oplog ≡ true → Kept (Calm c) (marked d r)
marked_calm c d r h s =
    elim (is_some d.mark || not (all_ended d.cursors)) as (λ b. Kept (Calm c) (elim b [ true ↦ Err NotNow | false ↦ Ok (marked_by (renamed_since d.start r.stage.renamed) d r) ])) [
      | true ↦ tt
      | false ↦ subst (λ (o : Option Ts). Calm c (marked_by (renamed_since d.start o) d r)) (sym h.steady.renamed) going
    ]
  where
    going : Calm c (marked_by None d r)
    going =
        subst (λ (b : Bool). Calm c (elim (not b) as (λ b. Run) [ true ↦ rolled d.start r | false ↦ record r { dump = Some (record d { mark = Some r.stage.newest }) } ])) (sym s)
        (record { live = h.live; steady = h.steady; few = h.few; start = s })

tailed_calm : (c : Caps) (n : ℕ) (d : DumpState) (r : Run) → Calm c r → stands d.start r.stage.oplog ≡ true → Kept (Calm c) (tailed n d r)
tailed_calm c n d r h s = by d.mark
  where
    by : (o : Option Ts) → Kept (Calm c) (tailed_to n o d r)
    by None = tt
    by (Some e) = elim d.closed as (λ b. Kept (Calm c) (elim b [ true ↦ Err NotNow | false ↦ Ok (rolled_or d.start r.stage.oplog (rolled d.start r) (sent_on n (window d.start e (entries_from r)) d r)) ])) [
      | true ↦ tt
      | false ↦ subst (λ (b : Bool). Calm c (elim (not b) as (λ b. Run) [ true ↦ rolled d.start r | false ↦ sent_on n (window d.start e (entries_from r)) d r ])) (sym s)
          (record { live = h.live; steady = h.steady; few = h.few; start = s })
    ]

dump_calm : (c : Caps) (g : DumpState → Run → Result Run Refusal) → ((d : DumpState) (r : Run) → Calm c r → stands d.start r.stage.oplog ≡ true → Kept (Calm c) (g d r)) → (r : Run) → Calm c r → Kept (Calm c) (in_dump g r.dump r)
dump_calm c g h r p = by r.dump p.start
  where
    by : (o : Option DumpState) → StartStands o r.stage.oplog → Kept (Calm c) (in_dump g o r)
    by None s = tt
    by (Some d) s = subst (λ (x : Outcome). Kept (Calm c) (still x g d r)) (sym p.live) (h d r p s)

started_calm : (c : Caps) (r : Run) → Calm c r → Kept (Calm c) (dumped r.dump r)
started_calm c r p = by r.dump
  where
    by : (o : Option DumpState) → Kept (Calm c) (dumped o r)
    by None = record { live = p.live; steady = p.steady; few = p.few; start = p.steady.newest }
    by (Some d) = tt

steps_calm : (c : Caps) → StepsKeep (Calm c)
steps_calm c (Cmd k) s r p = absurd s
steps_calm c Dump s r p = started_calm c r p
steps_calm c (Copy n k) s r p = dump_calm c (copied n k) (copied_calm c n k) r p
steps_calm c Mark s r p = dump_calm c marked (marked_calm c) r p
steps_calm c (Tail n) s r p = dump_calm c (tailed n) (tailed_calm c n) r p

-- ---- commands

set_steady : (c : Caps) (k : Command) (st : Stage) → Steady c st → Steady c (set_by k st) × ((set_by k st).oplog ≡ st.oplog)
set_steady c (commands.At s) st h = (record { caps = h.caps; renamed = h.renamed; newest = h.newest }, refl)
set_steady c (commands.Recording f) st h = (record { caps = h.caps; renamed = h.renamed; newest = h.newest }, refl)
set_steady c (commands.Create n o) st h = (h, refl)
set_steady c (commands.DropColl n) st h = (h, refl)
set_steady c (commands.DropDatabase db) st h = (h, refl)
set_steady c (commands.Rename a b) st h = (h, refl)
set_steady c (commands.Document d) st h = (h, refl)
set_steady c (commands.CreateIndex n d) st h = (h, refl)
set_steady c (commands.DropIndex n i) st h = (h, refl)
set_steady c (commands.Txn cs) st h = (h, refl)

pub made_length : (ds : List Effect) (st : Stage) → length (made_in ds st) ≡ length ds
made_length [] st = refl
made_length (d ∷ ds) st = ap suc (made_length ds (stage_by d st))

start_on : (o : Option DumpState) (es fs : Oplog) → ((ts : Ts) → stands ts es ≡ true → stands ts fs ≡ true) → StartStands o es → StartStands o fs
start_on None es fs h s = tt
start_on (Some d) es fs h s = h d.start s

command_calm : (c : Caps) → c.bytes ≡ None → (i : ℕ) (k : Command) (r : Run) → IsNoRename k → Calm c r → suc (length r.made + length (made_by_line (Cmd k) r)) ≤ c.entries → Calm c (after_line (i, Cmd k) r)
command_calm c b i k r n h room = by (effects k r.stage) refl room
  where
    by : (y : Result (List Effect) Refused) → effects k r.stage ≡ y → suc (length r.made + length (made_of_answer (answered (set_by k r.stage) y))) ≤ c.entries → Calm c (or_refused i (commanded (answered (set_by k r.stage) y) r) r)
    by (Err x) e g = record { live = h.live; steady = h.steady; few = h.few; start = h.start }
    by (Ok ds) e g =
        (let set = set_steady c k r.stage h.steady in
        let long = ap length set.1 in
        let on = all_stand c b ds (set_by k r.stage) (none_renamed k r.stage ds n e) set.0 (omega (arith, long, h.few, made_length ds (set_by k r.stage))) in
        record {
          live = h.live;
          steady = on.steady;
          few = omega (arith, on.more, long, h.few, made_length ds (set_by k r.stage), length-append r.made (made_in ds (set_by k r.stage)));
          start = start_on r.dump r.stage.oplog (stage_after ds (set_by k r.stage)).oplog (λ ts s. on.stay ts (subst (λ (z : Oplog). stands ts z ≡ true) (sym set.1) s)) h.start;
        })

-- ---- lines

or_calm : (c : Caps) (i : ℕ) (r : Run) (x : Result Run Refusal) → Calm c r → Kept (Calm c) x → Calm c (or_refused i x r)
or_calm c i r (Ok s) h k = k
or_calm c i r (Err y) h k = record { live = h.live; steady = h.steady; few = h.few; start = h.start }

line_calm : (c : Caps) → c.bytes ≡ None → (i : ℕ) (l : Line) (r : Run) → IsNoRenameLine l → Calm c r → suc (length r.made + length (made_by_line l r)) ≤ c.entries → Calm c (after_line (i, l) r)
line_calm c b i (Cmd k) r n h room = command_calm c b i k r n h room
line_calm c b i Dump r n h room = or_calm c i r (on_line Dump r) h (steps_calm c Dump tt r h)
line_calm c b i (Copy x k) r n h room = or_calm c i r (on_line (Copy x k) r) h (steps_calm c (Copy x k) tt r h)
line_calm c b i Mark r n h room = or_calm c i r (on_line Mark r) h (steps_calm c Mark tt r h)
line_calm c b i (Tail k) r n h room = or_calm c i r (on_line (Tail k) r) h (steps_calm c (Tail k) tt r h)

line_length : (l : ℕ × Line) (r : Run) → length (after_line l r).made ≡ length r.made + length (made_by_line l.1 r)
line_length l r =
    let whole = ap length (lines_made (l ∷ []) r) in
    omega (arith, whole, length-append r.made (made_by_line l.1 r ++ []), length-append (made_by_line l.1 r) [])

lines_calm : (c : Caps) → c.bytes ≡ None → (ls : List (ℕ × Line)) (r : Run) → AreNoRenames ls → Calm c r → suc (length r.made + length (made_by ls r)) ≤ c.entries → Calm c (after_lines ls r)
lines_calm c b [] r n h room = h
lines_calm c b (l ∷ ls) r n h room =
    let parts = length-append (made_by_line l.1 r) (made_by ls (after_line l r)) in
    lines_calm c b ls (after_line l r) n.1 (line_calm c b l.0 l.1 r n.0 h (omega (arith, parts))) (omega (arith, parts, line_length l r))

pub made_whole : (s : Schedule) → (run s).made ≡ made_by s.lines (first_run s.caps)
made_whole s = finished_made (after_lines s.lines (first_run s.caps)) ∙ lines_made s.lines (first_run s.caps)

pub quiet_done : QuietDumpsAreDone
quiet_done s q =
    let c = s.caps in
    let room = ap length (made_whole s) in
    let calm = lines_calm c q.any_bytes s.lines (first_run c) q.no_rename (first_calm c) (omega (arith, q.room, room)) in
    (finished_keeps (Calm c) (steps_calm c) (after_lines s.lines (first_run c)) calm).live
