-- A run whose Outcome is Done was marked by one of its lines, and is healed there.
use Rattle.std.proofs.Common.{◌≡◌, ℕ, List, [], ◌∷◌, true, false, refl, sym, ap, ◌∙◌, subst, Option, Some, None, Result, Ok, Err}
use Rattle.std.specs.Prelude.{⊤}
use Rattle.std.specs.FinMap as map
use Rattle.bson_value.specs.declared.namespace.NsName.{NsName}
use Rattle.bson_value.specs.declared.value.Ts.{Ts}
use Rattle.schedule_model.specs.declared.command.Command.{Command}
use Rattle.schedule_model.specs.declared.line.Line.{Line}
use Rattle.schedule_model.specs.declared.line.Line.TheVariants.{Cmd, Dump, Copy, Mark, Tail}
use Rattle.schedule_model.specs.declared.refused.Refused.{Refused}
use Rattle.copy_model.specs.Cursors.{Cursor}
use Rattle.history_model.specs.Stages.{Caps, Stage, Made}
use Rattle.history_model.specs.Commands.{applied}
use Rattle.history_model.specs.Runs.{Schedule, Refusal, NoCursor, DumpState, Outcome, Done, Renamed, Rolled, Run, started, looked, read_on, copied_by, copied, tailed_to, tailed, still, in_dump, dumped, commanded, on_line, or_refused, after_line, after_lines, run}
use Rattle.history_model.specs.Recordings.{made_by}
use Rattle.history_model.specs.Invariants.{RisesTo, RunOk}
use Rattle.update_records.specs.Laws.{UpdatesRecord}
use Rattle.history_model.specs.WellFormed.{AreWellFormedLines}
use Rattle.history_model.specs.Laws.{StartedOn, Whole, Healed}
use Rattle.copy_model.specs.Laws.{CopyHeals}
use Rattle.history_model.proofs.Runs.{lines_good}
use Rattle.history_model.proofs.Mirrored.{lines_stay}
use Rattle.history_model.proofs.AtTheMark.{lines_made, lines_rise}
use Rattle.history_model.proofs.WindowMoves.{torn_window}
use Rattle.history_model.proofs.WholeRun.{run_started}
use Rattle.history_model.proofs.Finished.{run_whole}

-- a dump that isn't marked yet
abbrev pub UnmarkedIn : Option DumpState → Type 0
UnmarkedIn None = ⊥
UnmarkedIn (Some d) = d.mark ≡ None

abbrev pub StaysUnmarked : Result Run Refusal → Type 0
StaysUnmarked (Ok s) = UnmarkedIn s.dump
StaysUnmarked (Err x) = ⊤

step_unmarked : (g : DumpState → Run → Result Run Refusal) → ((d : DumpState) (r : Run) → d.mark ≡ None → StaysUnmarked (g d r)) → (r : Run) → UnmarkedIn r.dump → StaysUnmarked (in_dump g r.dump r)
step_unmarked g h r s = by r.dump s
  where
    by : (o : Option DumpState) → UnmarkedIn o → StaysUnmarked (in_dump g o r)
    by None k = tt
    by (Some d) k = on r.outcome
      where
        on : (x : Outcome) → StaysUnmarked (still x g d r)
        on Done = h d r k
        on (Renamed a) = s
        on (Rolled a b) = s

copy_unmarked : (n : NsName) (k : ℕ) (d : DumpState) (r : Run) → d.mark ≡ None → StaysUnmarked (copied n k d r)
copy_unmarked n k d r h = by (map.get d.cursors n)
  where
    by : (o : Option Cursor) → StaysUnmarked (copied_by n k o d r)
    by None = tt
    by (Some x) = elim x.ended as (λ b. StaysUnmarked (elim b [ true ↦ Err NoCursor | false ↦ Ok (read_on n (looked k x (map.get r.stage.rows.tables n)) d r) ])) [ true ↦ tt | false ↦ h ]

tail_unmarked : (n : ℕ) (d : DumpState) (r : Run) → d.mark ≡ None → StaysUnmarked (tailed n d r)
tail_unmarked n d r h = subst (λ (o : Option Ts). StaysUnmarked (tailed_to n o d r)) (sym h) tt

or_unmarked : (i : ℕ) (r : Run) (x : Result Run Refusal) → StaysUnmarked x → UnmarkedIn r.dump → UnmarkedIn (or_refused i x r).dump
or_unmarked i r (Ok s) h g = h
or_unmarked i r (Err x) h g = g

command_unmarked : (k : Command) (r : Run) → UnmarkedIn r.dump → StaysUnmarked (on_line (Cmd k) r)
command_unmarked k r h = by (applied k r.stage)
  where
    by : (y : Result (Stage × List Made) Refused) → StaysUnmarked (commanded y r)
    by (Err x) = tt
    by (Ok x) = h

start_unmarked : (r : Run) → UnmarkedIn r.dump → StaysUnmarked (dumped r.dump r)
start_unmarked r h = by r.dump h
  where
    by : (o : Option DumpState) → UnmarkedIn o → StaysUnmarked (dumped o r)
    by None k = absurd k
    by (Some d) k = tt

-- the mark that was made
pub record MarkedAt (lines : List (ℕ × Line)) (r t : Run) : Type 0 where
  pub front : List (ℕ × Line)
  pub back : List (ℕ × Line)
  pub at : Run
  pub made : on_line Mark (after_lines front r) ≡ Ok at
  pub live : at.outcome ≡ Done
  pub rest : t ≡ after_lines back at
  -- where all lines are well-formed those before it are
  pub formed : AreWellFormedLines lines → AreWellFormedLines front

unmarked_not : (o : Option DumpState) (d : DumpState) (e : Ts) → UnmarkedIn o → o ≡ Some d → d.mark ≡ Some e → ⊥
unmarked_not None d e h f g = h
unmarked_not (Some x) d e h f g = (let k : x ≡ d = cc in let m : x.mark ≡ d.mark = ap (λ (z : DumpState). z.mark) k in cc)

later_on : (l : ℕ × Line) (ls : List (ℕ × Line)) (r t : Run) → MarkedAt ls (after_line l r) t → MarkedAt (l ∷ ls) r t
later_on l ls r t m = record { front = l ∷ m.front; back = m.back; at = m.at; made = m.made; live = m.live; rest = m.rest; formed = λ w. (w.0, m.formed w.1) }

pub mark_found : (ls : List (ℕ × Line)) (r : Run) → UnmarkedIn r.dump → (after_lines ls r).outcome ≡ Done → Whole (after_lines ls r) → MarkedAt ls r (after_lines ls r)
mark_found [] r h done w = absurd (unmarked_not r.dump w.copy w.last h w.there w.marked)
mark_found ((i, Cmd k) ∷ ls) r h done w = later_on (i, Cmd k) ls r _ (mark_found ls (after_line (i, Cmd k) r) (or_unmarked i r (on_line (Cmd k) r) (command_unmarked k r h) h) done w)
mark_found ((i, Dump) ∷ ls) r h done w = later_on (i, Dump) ls r _ (mark_found ls (after_line (i, Dump) r) (or_unmarked i r (on_line Dump r) (start_unmarked r h) h) done w)
mark_found ((i, Copy n k) ∷ ls) r h done w = later_on (i, Copy n k) ls r _ (mark_found ls (after_line (i, Copy n k) r) (or_unmarked i r (on_line (Copy n k) r) (step_unmarked (copied n k) (copy_unmarked n k) r h) h) done w)
mark_found ((i, Tail n) ∷ ls) r h done w = later_on (i, Tail n) ls r _ (mark_found ls (after_line (i, Tail n) r) (or_unmarked i r (on_line (Tail n) r) (step_unmarked (tailed n) (tail_unmarked n) r h) h) done w)
mark_found ((i, Mark) ∷ ls) r h done w = by (on_line Mark r) refl (λ g. mark_found ls (after_line (i, Mark) r) g done w)
  where
    live : (after_line (i, Mark) r).outcome ≡ Done
    live = lines_stay ls (after_line (i, Mark) r) done

    by : (x : Result Run Refusal) → on_line Mark r ≡ x → (UnmarkedIn (after_line (i, Mark) r).dump → MarkedAt ls (after_line (i, Mark) r) (after_lines ls (after_line (i, Mark) r))) → MarkedAt ((i, Mark) ∷ ls) r (after_lines ls (after_line (i, Mark) r))
    by (Ok s) e rest =
        (let now : after_line (i, Mark) r ≡ s = ap (λ (x : Result Run Refusal). or_refused i x r) e in
        record { front = []; back = ls; at = s; made = e; live = ap (λ (z : Run). z.outcome) (sym now) ∙ live; rest = ap (after_lines ls) now; formed = λ w. tt })
    by (Err x) e rest =
        later_on (i, Mark) ls r _ (rest (subst (λ (y : Result Run Refusal). UnmarkedIn (or_refused i y r).dump) (sym e) h))

healed_of : CopyHeals → UpdatesRecord → (c : Caps) (t : Run) → (s : StartedOn c t) → t.outcome ≡ Done → Whole t → Healed c t
healed_of heals sound c t s done all =
    (let end = after_lines s.lines (started s.on) in
    let m = mark_found s.lines (started s.on) refl (ap (λ (z : Run). z.outcome) (sym s.whole) ∙ done) (subst Whole s.whole all) in
    let whole : t ≡ after_lines m.back m.at = s.whole ∙ m.rest in
    let w = m.formed s.formed in
    let front = lines_good sound c m.front (started s.on) w (s.ok.0, tt) in
    let marked_ok : RunOk c m.at = subst (λ (x : Result Run Refusal). RunOk c (or_refused 0 x (after_lines m.front (started s.on)))) m.made (lines_good sound c ((0, Mark) ∷ []) (after_lines m.front (started s.on)) (tt, tt) front) in
    record {
      on = s.on;
      at_mark = m.at;
      behind = m.back;
      ok = marked_ok;
      whole = whole;
      made = ap (λ (z : Run). z.made) whole ∙ lines_made m.back m.at;
      later = subst (λ (z : Run). Rises m.back m.at z) (sym whole) (lines_rise m.back m.at);
      healed = torn_window heals sound c s.on m.at m.front w s.ok s.none m.made m.live;
    })
  where
    Rises : List (ℕ × Line) → Run → Run → Type 0
    Rises ls r z = RisesTo r.stage.newest (made_by ls r) z.stage.newest

pub run_healed : CopyHeals → UpdatesRecord → (s : Schedule) → AreWellFormedLines s.lines → (run s).outcome ≡ Done → Healed s.caps (run s)
run_healed heals sound s w done = healed_of heals sound s.caps (run s) (run_started sound s w) done (run_whole sound s w done)
