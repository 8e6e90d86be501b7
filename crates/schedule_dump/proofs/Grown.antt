-- What steps write grows, and a dump that has failed stays as it is.
use Rattle.std.proofs.Common.{◌≡◌, ℕ, List, [], ◌∷◌, ◌++◌, true, false, not, refl, sym, ap, ◌∙◌, subst, append_assoc, Option, Some, None, Result, Ok, Err, inl, inr}
use Rattle.std.specs.Prelude.{⊤, ◌⊎◌, ◌||◌, is_some}
use Rattle.bson_value.specs.declared.value.Ts.{Ts}
use Rattle.schedule_model.specs.declared.line.Line.{Line}
use Rattle.schedule_model.specs.declared.line.Line.TheVariants as lines
use Rattle.schedule_model.specs.declared.refused.Refused.{Refused}
use Rattle.history_model.specs.Stages.{Stage, Made}
use Rattle.history_model.specs.Commands.{applied}
use Rattle.history_model.specs.Runs.{Run, DumpState, Outcome, Done, Renamed, Rolled, Refusal, NotNow, on_line, or_refused, after_line, after_lines, in_dump, still, all_ended, marked, marked_by, renamed_since, is_gone, rolled, dumped, commanded, begun, finished}
use Rattle.history_model.proofs.WholeRun.{finished_lines}
use Rattle.dump_run.specs.Calls.{steps_text}
use Rattle.dump_run.proofs.Repeating.{Grows, IsTurn, taken, grows_same}

grows_two : (r s t : Run) → Grows r s → Grows s t → Grows r t
grows_two r s t a b = (a.0 ++ b.0, b.1 ∙ (ap (λ (z : List ℕ). z ++ b.0) a.1 ∙ append_assoc (steps_text r.steps) a.0 b.0))

turn_grows : (i : ℕ) (l : Line) (r : Run) → IsTurn l → Grows r (or_refused i (on_line l r) r)
turn_grows i l r h = by (on_line l r) refl
  where
    by : (x : Result Run Refusal) → on_line l r ≡ x → Grows r (or_refused i x r)
    by (Ok s) e = (taken r.stage.caps l r s h e).later.grows
    by (Err x) e = grows_same r (or_refused i (Err x) r) refl

line_grows : (i : ℕ) (l : Line) (r : Run) → Grows r (or_refused i (on_line l r) r)
line_grows i (lines.Cmd k) r = by (applied k r.stage)
  where
    by : (y : Result (Stage × List Made) Refused) → Grows r (or_refused i (commanded y r) r)
    by (Err x) = grows_same r (or_refused i (commanded (Err x) r) r) refl
    by (Ok x) = grows_same r (or_refused i (commanded (Ok x) r) r) refl
line_grows i lines.Dump r = by r.dump
  where
    by : (o : Option DumpState) → Grows r (or_refused i (dumped o r) r)
    by None = grows_same r (or_refused i (dumped None r) r) refl
    by (Some d) = grows_same r (or_refused i (dumped (Some d) r) r) refl
line_grows i (lines.Copy n k) r = turn_grows i (lines.Copy n k) r tt
line_grows i lines.Mark r = turn_grows i lines.Mark r tt
line_grows i (lines.Tail n) r = turn_grows i (lines.Tail n) r tt

lines_grow : (ls : List (ℕ × Line)) (r : Run) → Grows r (after_lines ls r)
lines_grow [] r = grows_same r r refl
lines_grow (l ∷ ls) r = grows_two r (after_line l r) (after_lines ls (after_line l r)) (line_grows l.0 l.1 r) (lines_grow ls (after_line l r))

begun_grows : (o : Option DumpState) (r : Run) → Grows r (begun o r)
begun_grows None r = grows_same r (begun None r) refl
begun_grows (Some d) r = grows_same r r refl

finished_grows : (r : Run) → Grows r (finished r)
finished_grows r =
    (let f = finished_lines r in
    subst (λ (z : Run). Grows r z) (sym f.1) (grows_two r (begun r.dump r) (after_lines f.0 (begun r.dump r)) (begun_grows r.dump r) (lines_grow f.0 (begun r.dump r))))

pub rest_grows : (ls : List (ℕ × Line)) (r : Run) → Grows r (finished (after_lines ls r))
rest_grows ls r = grows_two r (after_lines ls r) (finished (after_lines ls r)) (lines_grow ls r) (finished_grows (after_lines ls r))

-- ---- a dump that has failed

-- it ended as this run did, and wrote as much
abbrev pub EndsAs : Run → Run → Type 0
EndsAs r s = (s.outcome ≡ r.outcome) × (s.steps ≡ r.steps)

ends_two : (r s t : Run) → EndsAs r s → EndsAs s t → EndsAs r t
ends_two r s t a b = (b.0 ∙ a.0, b.1 ∙ a.1)

turn_ends : (i : ℕ) (l : Line) (r : Run) → IsTurn l → (r.outcome ≡ Done → ⊥) → EndsAs r (or_refused i (on_line l r) r)
turn_ends i l r h failed = by (on_line l r) refl
  where
    to : (s : Run) → (r.outcome ≡ Done) ⊎ (s ≡ r) → EndsAs r s
    to s (inl x) = absurd (failed x)
    to s (inr x) = (ap (λ (z : Run). z.outcome) x, ap (λ (z : Run). z.steps) x)

    by : (x : Result Run Refusal) → on_line l r ≡ x → EndsAs r (or_refused i x r)
    by (Ok s) e = to s (taken r.stage.caps l r s h e).later.same
    by (Err x) e = (refl, refl)

line_ends : (i : ℕ) (l : Line) (r : Run) → (r.outcome ≡ Done → ⊥) → EndsAs r (or_refused i (on_line l r) r)
line_ends i (lines.Cmd k) r failed = by (applied k r.stage)
  where
    by : (y : Result (Stage × List Made) Refused) → EndsAs r (or_refused i (commanded y r) r)
    by (Err x) = (refl, refl)
    by (Ok x) = (refl, refl)
line_ends i lines.Dump r failed = by r.dump
  where
    by : (o : Option DumpState) → EndsAs r (or_refused i (dumped o r) r)
    by None = (refl, refl)
    by (Some d) = (refl, refl)
line_ends i (lines.Copy n k) r failed = turn_ends i (lines.Copy n k) r tt failed
line_ends i lines.Mark r failed = turn_ends i lines.Mark r tt failed
line_ends i (lines.Tail n) r failed = turn_ends i (lines.Tail n) r tt failed

lines_end : (ls : List (ℕ × Line)) (r : Run) → (r.outcome ≡ Done → ⊥) → EndsAs r (after_lines ls r)
lines_end [] r failed = (refl, refl)
lines_end (l ∷ ls) r failed =
    (let a = line_ends l.0 l.1 r failed in
    ends_two r (after_line l r) (after_lines ls (after_line l r)) a (lines_end ls (after_line l r) (λ e. failed (sym a.0 ∙ e))))

begun_ends : (o : Option DumpState) (r : Run) → EndsAs r (begun o r)
begun_ends None r = (refl, refl)
begun_ends (Some d) r = (refl, refl)

finished_ends : (r : Run) → (r.outcome ≡ Done → ⊥) → EndsAs r (finished r)
finished_ends r failed =
    (let f = finished_lines r in
    let a = begun_ends r.dump r in
    subst (λ (z : Run). EndsAs r z) (sym f.1) (ends_two r (begun r.dump r) (after_lines f.0 (begun r.dump r)) a (lines_end f.0 (begun r.dump r) (λ e. failed (sym a.0 ∙ e)))))

pub rest_ends : (ls : List (ℕ × Line)) (r : Run) → (r.outcome ≡ Done → ⊥) → EndsAs r (finished (after_lines ls r))
rest_ends ls r failed =
    (let a = lines_end ls r failed in
    ends_two r (after_lines ls r) (finished (after_lines ls r)) a (finished_ends (after_lines ls r) (λ e. failed (sym a.0 ∙ e))))

-- the step that fails writes nothing
pub failing_writes : (l : Line) (r s : Run) → IsTurn l → on_line l r ≡ Ok s → (s.outcome ≡ Done → ⊥) → s.steps ≡ r.steps
failing_writes l r s h e failed = by (taken r.stage.caps l r s h e).quiet
  where
    by : (s.outcome ≡ Done) ⊎ (s.steps ≡ r.steps) → s.steps ≡ r.steps
    by (inl x) = absurd (failed x)
    by (inr x) = x

-- ---- the mark writes nothing

abbrev Stays : Run → Result Run Refusal → Type 0
Stays r (Ok s) = s.steps ≡ r.steps
Stays r (Err x) = ⊤

marked_stays : (d : DumpState) (r : Run) → Stays r (marked d r)
marked_stays d r =
    elim (is_some d.mark || not (all_ended d.cursors)) as (λ b. Stays r (elim b [ true ↦ Err NotNow | false ↦ Ok (marked_by (renamed_since d.start r.stage.renamed) d r) ])) [
      | true ↦ tt
      | false ↦ by (renamed_since d.start r.stage.renamed)
    ]
  where
    by : (o : Option Ts) → (marked_by o d r).steps ≡ r.steps
    by (Some x) = refl
    by None =
        elim (is_gone d.start r.stage.oplog) as (λ b. (elim b as (λ _. Run) [ true ↦ rolled d.start r | false ↦ record r { dump = Some (record d { mark = Some r.stage.newest }) } ]).steps ≡ r.steps) [ true ↦ refl | false ↦ refl ]

pub mark_stays : (r s : Run) → on_line lines.Mark r ≡ Ok s → s.steps ≡ r.steps
mark_stays r s e = subst (Stays r) e (by r.dump)
  where
    by : (o : Option DumpState) → Stays r (in_dump marked o r)
    by None = tt
    by (Some d) = on r.outcome
      where
        on : (x : Outcome) → Stays r (still x marked d r)
        on Done = marked_stays d r
        on (Renamed a) = refl
        on (Rolled a b) = refl
