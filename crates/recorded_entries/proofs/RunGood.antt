-- What is made of given lines is good, and the rows are kept.
use Rattle.std.proofs.Common.{◌≡◌, ℕ, zero, suc, List, [], ◌∷◌, length, refl, sym, subst, Option, Some, None, Result, Ok, Err}
use Rattle.std.specs.FinMap as map
use Rattle.bson_value.specs.declared.namespace.NsName.{NsName}
use Rattle.schedule_model.specs.declared.command.Command.{Command}
use Rattle.schedule_model.specs.declared.line.Line.{Line}
use Rattle.schedule_model.specs.declared.line.Line.TheVariants.{Cmd, Dump, Copy, Mark, Tail}
use Rattle.schedule_model.specs.declared.refused.Refused.{Refused}
use Rattle.history_model.specs.Stages.{Stage, Made, Effect, stage_by, stage_after, made_in}
use Rattle.history_model.specs.Commands.{effects, set_by, answered, applied}
use Rattle.history_model.specs.Runs.{Schedule, Run, Refusal, DumpState, begun, commanded, on_line, or_refused, after_line, after_lines, first_run, repeated, last_step, names_in, rows_left, copied_out, marked_out, run}
use Rattle.history_model.specs.Recordings.{EachMade}
use Rattle.history_model.proofs.Inductive.{told_same, each_join}
use Rattle.history_model.proofs.Accepted.{same_ok}
use Rattle.history_model.proofs.Modelled.{SameBase, IsStep, line_same}
use Rattle.recorded_entries.specs.Given.{IsGivenCommand, IsGivenLine, AreGivenLines}
use Rattle.recorded_entries.specs.Good.{IsGood}
use Rattle.recorded_entries.specs.Kept.{AreKept}
use Rattle.recorded_entries.specs.Laws.{RecordedIsGood, RowsAreKept}
use Rattle.recorded_entries.proofs.KeptRows.{write_kept, nothing_kept}
use Rattle.recorded_entries.proofs.Commands.{AreGoodEffects, effects_good}

abbrev pub AllGood : List Made → Type 0
AllGood ms = EachMade (λ m. IsGood m.content) ms

made_good : (ds : List Effect) (st : Stage) → AreGoodEffects ds st.rows → AllGood (made_in ds st)
made_good [] st g = tt
made_good (d ∷ ds) st g = (g.1, made_good ds (stage_by d st) g.2)

after_kept : (ds : List Effect) (st : Stage) → AreGoodEffects ds st.rows → AreKept st.rows → AreKept (stage_after ds st).rows
after_kept [] st g h = h
after_kept (d ∷ ds) st g h = after_kept ds (stage_by d st) g.2 (write_kept d.0 st.rows g.0 h)

pub applied_good : (k : Command) (st : Stage) (x : Stage × List Made) → IsGivenCommand k → AreKept st.rows → applied k st ≡ Ok x → AreKept x.0.rows × AllGood x.1
applied_good k st x w h e = by (effects k st) refl e
  where
    by : (y : Result (List Effect) Refused) → effects k st ≡ y → answered (set_by k st) y ≡ Ok x → AreKept x.0.rows × AllGood x.1
    by (Err z) f g = cc
    by (Ok ds) f g =
        (let good = subst (AreGoodEffects ds) (sym (told_same k st)) (effects_good k st ds w h f) in
        subst (λ (z : Stage × List Made). AreKept z.0.rows × AllGood z.1) (same_ok (stage_after ds (set_by k st), made_in ds (set_by k st)) x g)
        (after_kept ds (set_by k st) good (subst AreKept (sym (told_same k st)) h), made_good ds (set_by k st) good))

-- of a run
pub record IsKeptRun (r : Run) : Type 0 where
  pub rows : AreKept r.stage.rows
  pub made : AllGood r.made

-- a step that isn't a command leaves it so
pub step_kept : (r s : Run) → (s.stage ≡ r.stage) × (s.made ≡ r.made) → IsKeptRun r → IsKeptRun s
step_kept r s e h = record { rows = subst (λ (z : Stage). AreKept z.rows) (sym e.0) h.rows; made = subst AllGood (sym e.1) h.made }

told : (i : ℕ) (l : Line) (r : Run) → IsStep l → IsKeptRun r → IsKeptRun (after_line (i, l) r)
told i l r s h = by (on_line l r) (line_same l r s)
  where
    by : (x : Result Run Refusal) → SameBase r x → IsKeptRun (or_refused i x r)
    by (Ok y) e = step_kept r y e h
    by (Err z) e = record { rows = h.rows; made = h.made }

pub line_kept : (i : ℕ) (l : Line) (r : Run) → IsGivenLine l → IsKeptRun r → IsKeptRun (after_line (i, l) r)
line_kept i (Cmd k) r w h = by (applied k r.stage) refl
  where
    by : (y : Result (Stage × List Made) Refused) → applied k r.stage ≡ y → IsKeptRun (or_refused i (commanded y r) r)
    by (Err x) e = record { rows = h.rows; made = h.made }
    by (Ok x) e = (let g = applied_good k r.stage x w h.rows e in record { rows = g.0; made = each_join (λ m. IsGood m.content) r.made x.1 h.made g.1 })
line_kept i Dump r w h = told i Dump r tt h
line_kept i (Copy n k) r w h = told i (Copy n k) r tt h
line_kept i Mark r w h = told i Mark r tt h
line_kept i (Tail n) r w h = told i (Tail n) r tt h

pub lines_kept : (ls : List (ℕ × Line)) (r : Run) → AreGivenLines ls → IsKeptRun r → IsKeptRun (after_lines ls r)
lines_kept [] r w h = h
lines_kept (l ∷ ls) r w h = lines_kept ls (after_line l r) w.1 (line_kept l.0 l.1 r w.0 h)

pub first_kept : (s : Schedule) → IsKeptRun (first_run s.caps)
first_kept s = record { rows = nothing_kept; made = tt }

-- ---- behind the last line

repeated_kept : (l : Line) (n : ℕ) (r : Run) → IsStep l → IsKeptRun r → IsKeptRun (repeated n (on_line l) r)
repeated_kept l zero r s h = h
repeated_kept l (suc n) r s h = by (on_line l r) (line_same l r s) (λ x g. repeated_kept l n x s g)
  where
    by : (x : Result Run Refusal) → SameBase r x → ((y : Run) → IsKeptRun y → IsKeptRun (repeated n (on_line l) y)) → IsKeptRun (elim x [ Ok y ↦ repeated n (on_line l) y | Err z ↦ r ])
    by (Ok y) e more = more y (step_kept r y e h)
    by (Err z) e more = h

copied_kept : (ns : List NsName) (r : Run) → IsKeptRun r → IsKeptRun (copied_out ns r)
copied_kept [] r h = h
copied_kept (n ∷ ns) r h =
    let k = suc (rows_left (map.get r.stage.rows.tables n)) in
    copied_kept ns (repeated k (on_line (Copy n last_step)) r) (repeated_kept (Copy n last_step) k r tt h)

begun_kept : (o : Option DumpState) (r : Run) → IsKeptRun r → IsKeptRun (begun o r)
begun_kept None r h = record { rows = h.rows; made = h.made }
begun_kept (Some d) r h = h

pub run_kept : (s : Schedule) → AreGivenLines s.lines → IsKeptRun (run s)
run_kept s w =
    let r = after_lines s.lines (first_run s.caps) in
    let a = begun r.dump r in
    let b = copied_out (names_in a.dump) a in
    let c = marked_out b in
    repeated_kept (Tail last_step) (suc (length c.made)) c tt (repeated_kept Mark 1 b tt (copied_kept (names_in a.dump) a (begun_kept r.dump r (lines_kept s.lines (first_run s.caps) w (first_kept s)))))

pub recorded_good : RecordedIsGood
recorded_good s w = (run_kept s w).made

pub rows_kept : RowsAreKept
rows_kept s w = (run_kept s w).rows
