-- A dump that is done was marked.
use Rattle.std.proofs.Common.{◌≡◌, ℕ, suc, List, [], ◌∷◌, length, Bool, true, false, not, refl, sym, ap, ◌∙◌, subst, Option, Some, None, Result, Ok, Err}
use Rattle.std.specs.Prelude.{◌||◌, is_some}
use Rattle.bson_value.specs.declared.value.Ts.{Ts}
use Rattle.coll_state.specs.Rows.{AreSound}
use Rattle.schedule_model.specs.declared.command.Command.{Command}
use Rattle.schedule_model.specs.declared.line.Line.{Line}
use Rattle.schedule_model.specs.declared.line.Line.TheVariants.{Cmd, Dump, Copy, Mark, Tail}
use Rattle.schedule_model.specs.declared.refused.Refused.{Refused}
use Rattle.history_model.specs.Stages.{Stage, Effect, stage_by, stage_after}
use Rattle.history_model.specs.Commands.{effects, set_by, answered}
use Rattle.history_model.specs.Runs.{Refusal, NotNow, DumpState, Outcome, Done, Run, first_run, is_gone, oldest, first_dump_state, all_ended, renamed_since, rolled, marked_by, marked, still, in_dump, commanded, or_refused, after_line, after_lines, last_step, names_in, copied_out, begun, tailed_out, marked_out, finished}
use Rattle.history_model.specs.Histories.{moments_of}
use Rattle.history_model.proofs.Inductive.{told_same, nothing_sound}
use Rattle.history_model.proofs.Tables.{write_sound}
use Rattle.history_model.proofs.Modelled.{same_after}
use Rattle.history_model.proofs.Mirrored.{lines_stay}
use Rattle.history_model.proofs.CopiedOut.{copy_all, all_out, all_said}
use Rattle.history_model.proofs.WholeRun.{repeated_lines, finished_lines}
use Rattle.history_model.proofs.Ended.{HasMark, mark_stays}
use Rattle.done_dumps.specs.Laws.{IsTold, DoneDumpsAreMarked}
use Rattle.history_model.proofs.AtTheMark.{not_done as not_renamed, not_failed as not_rolled}

-- ---- rows stay in order

effects_sound : (ds : List Effect) (st : Stage) → AreSound st.rows → AreSound (stage_after ds st).rows
effects_sound [] st h = h
effects_sound (d ∷ ds) st h = effects_sound ds (stage_by d st) (write_sound d.0 st.rows h)

command_sound : (i : ℕ) (k : Command) (r : Run) → AreSound r.stage.rows → AreSound (after_line (i, Cmd k) r).stage.rows
command_sound i k r h = by (effects k r.stage)
  where
    by : (y : Result (List Effect) Refused) → AreSound (or_refused i (commanded (answered (set_by k r.stage) y) r) r).stage.rows
    by (Err x) = h
    by (Ok ds) = effects_sound ds (set_by k r.stage) (subst AreSound (sym (told_same k r.stage)) h)

same_sound : (a b : Stage) → a ≡ b → AreSound b.rows → AreSound a.rows
same_sound a b e h = subst (λ (z : Stage). AreSound z.rows) (sym e) h

line_sound : (l : ℕ × Line) (r : Run) → AreSound r.stage.rows → AreSound (after_line l r).stage.rows
line_sound (i, Cmd k) r h = command_sound i k r h
line_sound (i, Dump) r h = same_sound (after_line (i, Dump) r).stage r.stage (same_after i Dump r tt) h
line_sound (i, Copy n k) r h = same_sound (after_line (i, Copy n k) r).stage r.stage (same_after i (Copy n k) r tt) h
line_sound (i, Mark) r h = same_sound (after_line (i, Mark) r).stage r.stage (same_after i Mark r tt) h
line_sound (i, Tail n) r h = same_sound (after_line (i, Tail n) r).stage r.stage (same_after i (Tail n) r tt) h

lines_sound : (ls : List (ℕ × Line)) (r : Run) → AreSound r.stage.rows → AreSound (after_lines ls r).stage.rows
lines_sound [] r h = h
lines_sound (l ∷ ls) r h = lines_sound ls (after_line l r) (line_sound l r h)

-- ---- the mark behind the last line

abbrev HasSomeMark : Run → Type 0
HasSomeMark r = (ts : Ts) × HasMark ts r

mark_by : (d : DumpState) (t : Run) (o : Option Ts) → (marked_by o d t).outcome ≡ Done → HasSomeMark (marked_by o d t)
mark_by d t (Some ts) h = absurd (not_renamed ts h)
mark_by d t None h = by (is_gone d.start t.stage.oplog) h
  where
    choose : Bool → Run
    choose b = elim b as (λ b. Run) [ true ↦ rolled d.start t | false ↦ record t { dump = Some (record d { mark = Some t.stage.newest }) } ]

    by : (b : Bool) → (choose b).outcome ≡ Done → HasSomeMark (choose b)
    by true g = absurd (not_rolled d.start (oldest d.start t.stage.oplog) g)
    by false g = (t.stage.newest, record { copy = record d { mark = Some t.stage.newest }; there = refl; marked = refl })

mark_out : (d : DumpState) (t : Run) → t.dump ≡ Some d → t.outcome ≡ Done → all_ended d.cursors ≡ true → (marked_out t).outcome ≡ Done → HasSomeMark (marked_out t)
mark_out d t e l all h = by d.mark refl
  where
    next : Result Run Refusal → Run
    next y = elim y as (λ y. Run) [ Ok s ↦ s | Err z ↦ t ]

    choose : Bool → Result Run Refusal
    choose b = elim b as (λ b. Result Run Refusal) [ true ↦ Err NotNow | false ↦ Ok (marked_by (renamed_since d.start t.stage.renamed) d t) ]

    step : (b : Bool) → (is_some d.mark || not (all_ended d.cursors)) ≡ b → marked_out t ≡ next (choose b)
    step b f = ap next (ap (λ (o : Option DumpState). in_dump marked o t) e ∙ ap (λ (x : Outcome). still x marked d t) l) ∙ ap (λ (b : Bool). next (choose b)) f

    by : (o : Option Ts) → d.mark ≡ o → HasSomeMark (marked_out t)
    by (Some ts) g =
        subst HasSomeMark (sym (step true (ap (λ (o : Option Ts). is_some o || not (all_ended d.cursors)) g))) (ts, record { copy = d; there = e; marked = g })
    by None g =
        (let way = step false (ap (λ (o : Option Ts). is_some o || not (all_ended d.cursors)) g ∙ ap not all) in
        subst HasSomeMark (sym way) (mark_by d t (renamed_since d.start t.stage.renamed) (ap (λ (u : Run). u.outcome) (sym way) ∙ h)))

-- ---- the whole run

abbrev rest_of : Option DumpState → Run → Run
rest_of o s = tailed_out (marked_out (copied_out (names_in o) s))

rest_marked : (d : DumpState) (s : Run) → AreSound s.stage.rows → s.dump ≡ Some d → s.outcome ≡ Done → (rest_of (Some d) s).outcome ≡ Done → HasSomeMark (rest_of (Some d) s)
rest_marked d s good e l done =
    let t = copied_out (names_in (Some d)) s in
    let k = copy_all (names_in (Some d)) d s good e l in
    let u = marked_out t in
    let f = repeated_lines (Tail last_step) (suc (length u.made)) u tt in
    let live = lines_stay f.0 u (ap (λ (x : Run). x.outcome) (sym f.1) ∙ done) in
    let m = mark_out k.after t k.there k.live (all_said k.after.cursors (all_out d t s k)) live in
    (m.0, subst (HasMark m.0) (sym f.1) (mark_stays m.0 f.0 u m.1))

begun_there : (r : Run) → AreSound r.stage.rows → (o : Option DumpState) → r.dump ≡ o → (d : DumpState) × ((begun o r).dump ≡ Some d) × AreSound (begun o r).stage.rows
begun_there r good None e = (first_dump_state r.stage, refl, good)
begun_there r good (Some d) e = (d, e, good)

finished_marked : (r : Run) → AreSound r.stage.rows → (finished r).outcome ≡ Done → HasSomeMark (finished r)
finished_marked r good done =
    let s = begun r.dump r in
    let p = begun_there r good r.dump refl in
    let f = finished_lines r in
    let live = lines_stay f.0 s (ap (λ (x : Run). x.outcome) (sym f.1) ∙ done) in
    let whole : finished r ≡ rest_of (Some p.0) s = ap (λ (o : Option DumpState). rest_of o s) p.1 in
    subst HasSomeMark (sym whole) (rest_marked p.0 s p.2 p.1 live (ap (λ (x : Run). x.outcome) (sym whole) ∙ done))

mark_told : (ts : Ts) (r : Run) → HasMark ts r → IsTold (moments_of r.dump).end_ts
mark_told ts r h = (ts, ap (λ (o : Option DumpState). (moments_of o).end_ts) h.there ∙ h.marked)

pub done_marked : DoneDumpsAreMarked
done_marked s done =
    let r = after_lines s.lines (first_run s.caps) in
    let m = finished_marked r (lines_sound s.lines (first_run s.caps) nothing_sound) done in
    mark_told m.0 (finished r) m.1
