-- What lines leave of what was refused.
use Rattle.std.proofs.Common.{◌≡◌, ℕ, zero, suc, length, List, [], ◌∷◌, ◌++◌, true, false, not, refl, sym, ap, ◌∙◌, subst, append_assoc, append-nil, Option, Some, None, Result, Ok, Err}
use Rattle.std.specs.Prelude.{⊤, ◌||◌, is_some}
use Rattle.std.specs.FinMap as map
use Rattle.bson_value.specs.declared.namespace.NsName.{NsName}
use Rattle.bson_value.specs.declared.value.Ts.{Ts}
use Rattle.copy_model.specs.Cursors.{Cursor}
use Rattle.schedule_model.specs.declared.line.Line.{Line}
use Rattle.schedule_model.specs.declared.line.Line.TheVariants as lines
use Rattle.schedule_model.specs.declared.refused.Refused.{Refused}
use Rattle.history_model.specs.Stages.{Stage, Made}
use Rattle.history_model.specs.Commands.{applied}
use Rattle.history_model.specs.Runs.{Run, DumpState, Outcome, Done, Renamed, Rolled, Refusal, NotNow, NoCursor, on_line, or_refused, after_line, in_dump, still, copied, copied_by, looked, read_on, all_ended, marked, marked_by, renamed_since, is_gone, rolled, rolled_or, tailed, tailed_to, sent_on, window, entries_from, dumped, commanded, repeated, last_step, names_in, rows_left, copied_out, begun, marked_out, finished}
use Rattle.history_model.specs.Histories.{stopped_by, stopped}

-- a line that is taken leaves what was refused
abbrev pub Leaves : Run → Result Run Refusal → Type 0
Leaves r (Ok s) = s.refused ≡ r.refused
Leaves r (Err x) = ⊤

copied_leaves : (n : NsName) (k : ℕ) (d : DumpState) (r : Run) → Leaves r (copied n k d r)
copied_leaves n k d r = by (map.get d.cursors n)
  where
    by : (o : Option Cursor) → Leaves r (copied_by n k o d r)
    by None = tt
    by (Some x) = elim x.ended as (λ b. Leaves r (elim b [ true ↦ Err NoCursor | false ↦ Ok (read_on n (looked k x (map.get r.stage.rows.tables n)) d r) ])) [ true ↦ tt | false ↦ refl ]

marked_leaves : (d : DumpState) (r : Run) → Leaves r (marked d r)
marked_leaves d r =
    elim (is_some d.mark || not (all_ended d.cursors)) as (λ b. Leaves r (elim b [ true ↦ Err NotNow | false ↦ Ok (marked_by (renamed_since d.start r.stage.renamed) d r) ])) [
      | true ↦ tt
      | false ↦ by (renamed_since d.start r.stage.renamed)
    ]
  where
    by : (o : Option Ts) → (marked_by o d r).refused ≡ r.refused
    by (Some x) = refl
    by None =
        elim (is_gone d.start r.stage.oplog) as (λ b. (elim b as (λ _. Run) [ true ↦ rolled d.start r | false ↦ record r { dump = Some (record d { mark = Some r.stage.newest }) } ]).refused ≡ r.refused) [ true ↦ refl | false ↦ refl ]

tailed_leaves : (n : ℕ) (d : DumpState) (r : Run) → Leaves r (tailed n d r)
tailed_leaves n d r = by d.mark
  where
    by : (o : Option Ts) → Leaves r (tailed_to n o d r)
    by None = tt
    by (Some e) =
        elim d.closed as (λ b. Leaves r (elim b [ true ↦ Err NotNow | false ↦ Ok (rolled_or d.start r.stage.oplog (rolled d.start r) (sent_on n (window d.start e (entries_from r)) d r)) ])) [
          | true ↦ tt
          | false ↦ elim (is_gone d.start r.stage.oplog) as (λ b. (elim b as (λ _. Run) [ true ↦ rolled d.start r | false ↦ sent_on n (window d.start e (entries_from r)) d r ]).refused ≡ r.refused) [ true ↦ refl | false ↦ refl ]
        ]

step_leaves : (g : DumpState → Run → Result Run Refusal) → ((d : DumpState) (r : Run) → Leaves r (g d r)) → (r : Run) → Leaves r (in_dump g r.dump r)
step_leaves g h r = by r.dump
  where
    by : (o : Option DumpState) → Leaves r (in_dump g o r)
    by None = tt
    by (Some d) = on r.outcome
      where
        on : (x : Outcome) → Leaves r (still x g d r)
        on Done = h d r
        on (Renamed a) = refl
        on (Rolled a b) = refl

line_leaves : (l : Line) (r : Run) → Leaves r (on_line l r)
line_leaves (lines.Cmd k) r = by (applied k r.stage)
  where
    by : (y : Result (Stage × List Made) Refused) → Leaves r (commanded y r)
    by (Err x) = tt
    by (Ok x) = refl
line_leaves lines.Dump r = by r.dump
  where
    by : (o : Option DumpState) → Leaves r (dumped o r)
    by None = refl
    by (Some d) = tt
line_leaves (lines.Copy n k) r = step_leaves (copied n k) (λ d r. copied_leaves n k d r) r
line_leaves lines.Mark r = step_leaves marked (λ d r. marked_leaves d r) r
line_leaves (lines.Tail n) r = step_leaves (tailed n) (λ d r. tailed_leaves n d r) r

pub leaves : (l : Line) (r s : Run) → on_line l r ≡ Ok s → s.refused ≡ r.refused
leaves l r s e = subst (Leaves r) e (line_leaves l r)

-- ---- what is still to do behind the last line

repeated_leaves : (l : Line) (n : ℕ) (r : Run) → (repeated n (on_line l) r).refused ≡ r.refused
repeated_leaves l zero r = refl
repeated_leaves l (suc n) r = by (on_line l r) (line_leaves l r) (λ s. repeated_leaves l n s)
  where
    by : (x : Result Run Refusal) → Leaves r x → ((s : Run) → (repeated n (on_line l) s).refused ≡ s.refused) → (elim x as (λ x. Run) [ Ok s ↦ repeated n (on_line l) s | Err y ↦ r ]).refused ≡ r.refused
    by (Ok s) h rest = rest s ∙ h
    by (Err y) h rest = refl

copied_out_leaves : (ns : List NsName) (r : Run) → (copied_out ns r).refused ≡ r.refused
copied_out_leaves [] r = refl
copied_out_leaves (n ∷ ns) r = copied_out_leaves ns (repeated (suc (rows_left (map.get r.stage.rows.tables n))) (on_line (lines.Copy n last_step)) r) ∙ repeated_leaves (lines.Copy n last_step) (suc (rows_left (map.get r.stage.rows.tables n))) r

begun_leaves : (o : Option DumpState) (r : Run) → (begun o r).refused ≡ r.refused
begun_leaves None r = refl
begun_leaves (Some d) r = refl

pub finished_leaves : (r : Run) → (finished r).refused ≡ r.refused
finished_leaves r =
    (let s = begun r.dump r in
    let t = copied_out (names_in s.dump) s in
    let u = marked_out t in
    repeated_leaves (lines.Tail last_step) (suc (length u.made)) u ∙ (repeated_leaves lines.Mark 1 t ∙ (copied_out_leaves (names_in s.dump) s ∙ begun_leaves r.dump r)))

-- ---- what is refused up to the step that fails

now_refused : (l : ℕ × Line) (r : Run) → (now : List (ℕ × Refusal)) × ((after_line l r).refused ≡ r.refused ++ now)
now_refused l r = by (on_line l.1 r) (line_leaves l.1 r)
  where
    by : (x : Result Run Refusal) → Leaves r x → (now : List (ℕ × Refusal)) × ((or_refused l.0 x r).refused ≡ r.refused ++ now)
    by (Ok s) h = ([], h ∙ sym (append-nil r.refused))
    by (Err x) h = ((l.0, x) ∷ [], refl)

more_by : (o : Outcome) (r s : Run) → (more : List (ℕ × Refusal)) × (s.refused ≡ r.refused ++ more) → (more : List (ℕ × Refusal)) × ((stopped_by o r s).refused ≡ r.refused ++ more)
more_by Done r s h = h
more_by (Renamed ts) r s h = ([], sym (append-nil r.refused))
more_by (Rolled a b) r s h = ([], sym (append-nil r.refused))

pub stopped_more : (ls : List (ℕ × Line)) (r : Run) → (more : List (ℕ × Refusal)) × ((stopped ls r).refused ≡ r.refused ++ more)
stopped_more [] r = ([], finished_leaves r ∙ sym (append-nil r.refused))
stopped_more (l ∷ ls) r =
    (let now = now_refused l r in
    let more = more_by (after_line l r).outcome (after_line l r) (stopped ls (after_line l r)) (stopped_more ls (after_line l r)) in
    (now.0 ++ more.0, more.1 ∙ (ap (λ (z : List (ℕ × Refusal)). z ++ more.0) now.1 ∙ append_assoc r.refused now.0 more.0)))

-- behind a line
pub line_more : (l : ℕ × Line) (ls : List (ℕ × Line)) (r : Run) → (more : List (ℕ × Refusal)) × ((stopped (l ∷ ls) r).refused ≡ (after_line l r).refused ++ more)
line_more l ls r = more_by (after_line l r).outcome (after_line l r) (stopped ls (after_line l r)) (stopped_more ls (after_line l r))
