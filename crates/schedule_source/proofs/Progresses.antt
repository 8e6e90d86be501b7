-- What the lines of a schedule make one after the other is what its source is.
use Rattle.std.proofs.Common.{◌≡◌, ℕ, List, [], ◌∷◌, ◌++◌, map as each, Bool, true, false, refl, sym, ap, ◌∙◌, subst, append_assoc, append-nil, Option, Result, Ok, Err}
use Rattle.std.specs.FinMap as map
use Rattle.std.proofs.lemmas.List.{map-append}
use Rattle.bson_value.specs.declared.value.Ts.{Ts}
use Rattle.coll_state.specs.Rows.{state_of}
use Rattle.state_model.specs.States.{State}
use Rattle.schedule_model.specs.declared.command.Command.{Command}
use Rattle.schedule_model.specs.declared.line.Line.{Line}
use Rattle.schedule_model.specs.declared.line.Line.TheVariants.{Cmd, Dump, Copy, Mark, Tail}
use Rattle.schedule_model.specs.declared.refused.Refused.{Refused}
use Rattle.history_model.specs.Stages.{Caps, Stage, Made, changed_by}
use Rattle.history_model.specs.Commands.{applied}
use Rattle.history_model.specs.Runs.{Schedule, Refusal, NotTaken, first_stage}
use Rattle.history_model.specs.Histories.{all_before, before, history_of, state, state_from, source, source_from, source_by, stage_or}
use Rattle.history_model.proofs.Inductive.{empty_state}
use Rattle.store_core.specs.declared.fault.StoreFault.TheVariants as faults
use Rattle.store_core.specs.Stores.{Stored, StandsAt}
use Rattle.schedule_source.specs.declared.run.RefusedLine.{RefusedLine}
use Rattle.schedule_source.specs.declared.run.SourceRun.{SourceRun}
use Rattle.schedule_source.specs.Commands.{RunsBefore, made_before}
use Rattle.schedule_source.specs.Progress.{Progress, at_first, with_made, behind_command, behind_line, behind_lines, refusal_in, Advances, Reached, RunsTo, Makes}

-- ---- the source from a line on

-- what lines make and refuse behind a progress
pub record Leaves (l : Option Ts) (ls : List (ℕ × Line)) (p : Progress) (made : List Made) (refused : List (ℕ × Refusal)) : Type 0 where
  pub makes : (behind_lines l ls p).made ≡ p.made ++ made
  pub refuses : (behind_lines l ls p).refused ≡ p.refused ++ refused

stands_still : (l : Option Ts) (x : ℕ × Line) (p : Progress) → p.goes ≡ false → behind_line l x p ≡ p
unfolding behind_line
stands_still l (i, Cmd c) p g = rw g refl
stands_still l (i, Dump) p g = refl
stands_still l (i, Copy n k) p g = refl
stands_still l (i, Mark) p g = refl
stands_still l (i, Tail k) p g = refl

stopped : (l : Option Ts) (ls : List (ℕ × Line)) (p : Progress) → p.goes ≡ false → behind_lines l ls p ≡ p
stopped l [] p g = refl
stopped l (x ∷ xs) p g = ap (behind_lines l xs) (stands_still l x p g) ∙ stopped l xs p g

pub line_is : (l : Option Ts) (i : ℕ) (c : Command) (p : Progress) → p.goes ≡ true → behind_line l (i, Cmd c) p ≡ behind_command l i (applied c p.stage) p
unfolding behind_line
line_is l i c p g = rw g refl

nothing_left : (l : Option Ts) (ls : List (ℕ × Line)) (p : Progress) → p.goes ≡ false → Leaves l ls p [] []
nothing_left l ls p g =
    record {
      makes = ap (λ (q : Progress). q.made) (stopped l ls p g) ∙ sym (append-nil p.made);
      refuses = ap (λ (q : Progress). q.refused) (stopped l ls p g) ∙ sym (append-nil p.refused);
    }

module _ (l : Option Ts) (i : ℕ) (ls : List (ℕ × Line)) (p : Progress) (g : p.goes ≡ true) (more : (q : Progress) → q.goes ≡ true → Leaves l ls q (source_from l ls q.stage).made (source_from l ls q.stage).refused) where
  abbrev Behind : Result (Stage × List Made) Refused → Type 0
  Behind r =
      let q = behind_command l i r p in
      let s = source_by l i r (source_from l ls (stage_or p.stage r)) in
      ((behind_lines l ls q).made ≡ p.made ++ s.made) × ((behind_lines l ls q).refused ≡ p.refused ++ s.refused)

  made_left : (b : Bool) (st : Stage) (ms : List Made) → all_before l ms ≡ b → Behind (Ok (st, ms))
  made_left true st ms e =
      let q = with_made true l st ms p in
      let s = source_from l ls st in
      let m = more q g in
      rw e (m.makes ∙ append_assoc p.made ms s.made, m.refuses)
  made_left false st ms e =
      let q = with_made false l st ms p in
      let m = nothing_left l ls q refl in
      rw e (m.makes ∙ append-nil (p.made ++ made_before l ms), m.refuses)

  command_left : (r : Result (Stage × List Made) Refused) → Behind r
  command_left (Ok x) = made_left (all_before l x.1) x.0 x.1 refl
  command_left (Err x) =
      let q = behind_command l i (Err x) p in
      let s = source_from l ls p.stage in
      let m = more q g in
      (m.makes, m.refuses ∙ append_assoc p.refused ((i, NotTaken x) ∷ []) s.refused)

pub lines_leave : (l : Option Ts) (ls : List (ℕ × Line)) (p : Progress) → p.goes ≡ true → Leaves l ls p (source_from l ls p.stage).made (source_from l ls p.stage).refused
unfolding behind_line
lines_leave l [] p g = record { makes = sym (append-nil p.made); refuses = sym (append-nil p.refused) }
lines_leave l ((i, Cmd c) ∷ ls) p g =
    let step = ap (behind_lines l ls) (line_is l i c p g) in
    let b = command_left l i ls p g (lines_leave l ls) (applied c p.stage) in
    record { makes = ap (λ (q : Progress). q.made) step ∙ b.0; refuses = ap (λ (q : Progress). q.refused) step ∙ b.1 }
lines_leave l ((i, Dump) ∷ ls) p g = let m = lines_leave l ls p g in record { makes = m.makes; refuses = m.refuses }
lines_leave l ((i, Copy n k) ∷ ls) p g = let m = lines_leave l ls p g in record { makes = m.makes; refuses = m.refuses }
lines_leave l ((i, Mark) ∷ ls) p g = let m = lines_leave l ls p g in record { makes = m.makes; refuses = m.refuses }
lines_leave l ((i, Tail k) ∷ ls) p g = let m = lines_leave l ls p g in record { makes = m.makes; refuses = m.refuses }

-- all lines were run
pub makes_all : (l : Option Ts) (s : Schedule) (r : SourceRun) → ((k : Option Ts) (t : Schedule) → state (history_of (source k t).made) ≡ before t k) → RunsTo r (behind_lines l s.lines (at_first s.caps)) → Makes l s r
unfolding RunsTo
makes_all l s r law t =
    let m = lines_leave l s.lines (at_first s.caps) refl in
    record {
      makes = t.makes ∙ (ap (λ (ms : List Made). state (history_of ms)) m.makes ∙ law l s);
      refuses = t.refuses ∙ m.refuses;
    }

-- one more line
pub behind_more : (l : Option Ts) (xs : List (ℕ × Line)) (x : ℕ × Line) (p : Progress) → behind_lines l (xs ++ x ∷ []) p ≡ behind_line l x (behind_lines l xs p)
behind_more l [] x p = refl
behind_more l (y ∷ ys) x p = behind_more l ys x (behind_line l y p)

-- ---- one line

state_append : (s : State) (xs ys : List Made) → state_from s (history_of (xs ++ ys)) ≡ state_from (state_from s (history_of xs)) (history_of ys)
state_append s [] ys = refl
state_append s (m ∷ ms) ys = state_append (changed_by m.write s) ms ys

pub starts : (c : Caps) (r : SourceRun) → StandsAt r.store (first_stage c) → each refusal_in r.refused ≡ [] → r.goes_on ≡ true → RunsTo r (at_first c)
unfolding RunsTo
starts c r at none goes =
    record { goes = goes; refuses = none; makes = ap state_of at.rows ∙ empty_state; stands = λ _. at }

module _ (l : Option Ts) (i : ℕ) (c : Command) (old : SourceRun) (store : Stored) (p : Progress) (goes : old.goes_on ≡ true) (t : Reached old p) where
  abbrev at : StandsAt old.store p.stage
  at = t.stands (sym t.goes ∙ goes)

  adds : (ms : List Made) → state_of store.rows ≡ state_from (state_of old.store.rows) (history_of ms) → state_of store.rows ≡ state (history_of (p.made ++ ms))
  adds ms e = e ∙ (ap (λ (x : State). state_from x (history_of ms)) t.makes ∙ sym (state_append map.empty p.made ms))

  run_on : (b : Bool) → ((st : Stage) → StandsAt old.store st → RunsBefore l c st old.store (Ok b) store) → Reached (record { store = store; refused = old.refused; goes_on = b }) (behind_command l i (applied c p.stage) p)
  run_on true f =
      let w = f p.stage at in
      let is : behind_command l i (applied c p.stage) p ≡ with_made true l w.would.after w.would.made p =
      ap (λ (x : Result (Stage × List Made) Refused). behind_command l i x p) w.would.accepted ∙ ap (λ (b : Bool). with_made b l w.would.after w.would.made p) w.earlier in
      subst (Reached (record { store = store; refused = old.refused; goes_on = true })) (sym is) (record {
        goes = sym goes ∙ t.goes;
        refuses = t.refuses;
        makes = adds w.would.made w.makes;
        stands = λ _. w.stands;
      })
  run_on false f =
      let w = f p.stage at in
      let is : behind_command l i (applied c p.stage) p ≡ with_made false l w.would.after w.would.made p =
      ap (λ (x : Result (Stage × List Made) Refused). behind_command l i x p) w.would.accepted ∙ ap (λ (b : Bool). with_made b l w.would.after w.would.made p) w.later in
      subst (Reached (record { store = store; refused = old.refused; goes_on = false })) (sym is) (record {
        goes = refl;
        refuses = t.refuses;
        makes = adds (made_before l w.would.made) w.makes;
        stands = λ e. absurd cc;
      })

  refused_on : (row : Refused) (refused : List RefusedLine) → ((st : Stage) → StandsAt old.store st → RunsBefore l c st old.store (Err (faults.Refused row)) store) → refused ≡ old.refused ++ (record { number = i; row = row } ∷ []) → Reached (record { store = store; refused = refused; goes_on = old.goes_on }) (behind_command l i (applied c p.stage) p)
  refused_on row refused f more =
      let e = f p.stage at in
      let is : behind_command l i (applied c p.stage) p ≡ behind_command l i (Err row) p = ap (λ (x : Result (Stage × List Made) Refused). behind_command l i x p) e.0 in
      subst (Reached (record { store = store; refused = refused; goes_on = old.goes_on })) (sym is) (record {
        goes = t.goes;
        refuses = ap (each refusal_in) more ∙ (map-append refusal_in old.refused (record { number = i; row = row } ∷ []) ∙ ap (λ (xs : List (ℕ × Refusal)). xs ++ (i, NotTaken row) ∷ []) t.refuses);
        makes = ap (λ (x : Stored). state_of x.rows) e.1 ∙ t.makes;
        stands = λ _. subst (λ (x : Stored). StandsAt x p.stage) (sym e.1) at;
      })

pub runs_command : (l : Option Ts) (i : ℕ) (c : Command) (old : SourceRun) (store : Stored) (p : Progress) → old.goes_on ≡ true → RunsTo old p → (b : Bool) → ((st : Stage) → StandsAt old.store st → RunsBefore l c st old.store (Ok b) store) → RunsTo (record { store = store; refused = old.refused; goes_on = b }) (behind_command l i (applied c p.stage) p)
unfolding RunsTo
runs_command l i c old store p goes t b f = run_on l i c old store p goes t b f

pub refuses_command : (l : Option Ts) (i : ℕ) (c : Command) (old : SourceRun) (store : Stored) (p : Progress) → old.goes_on ≡ true → RunsTo old p → (row : Refused) (refused : List RefusedLine) → ((st : Stage) → StandsAt old.store st → RunsBefore l c st old.store (Err (faults.Refused row)) store) → refused ≡ old.refused ++ (record { number = i; row = row } ∷ []) → RunsTo (record { store = store; refused = refused; goes_on = old.goes_on }) (behind_command l i (applied c p.stage) p)
unfolding RunsTo
refuses_command l i c old store p goes t row refused f more = refused_on l i c old store p goes t row refused f more

-- a line of the dump is passed over, and a command behind the limit
pub passes : (l : Option Ts) (x : ℕ × Line) (p : Progress) → ((c : Command) → x.1 ≡ Cmd c → ⊥) → behind_line l x p ≡ p
unfolding behind_line
passes l (i, Cmd c) p other = absurd (other c refl)
passes l (i, Dump) p other = refl
passes l (i, Copy n k) p other = refl
passes l (i, Mark) p other = refl
passes l (i, Tail k) p other = refl

pub passed_over : (l : Option Ts) (x : ℕ × Line) (r : SourceRun) (p : Progress) → ((c : Command) → x.1 ≡ Cmd c → ⊥) → RunsTo r p → RunsTo r (behind_line l x p)
passed_over l x r p other t = subst (RunsTo r) (sym (passes l x p other)) t

pub not_run : (l : Option Ts) (x : ℕ × Line) (r : SourceRun) (p : Progress) → r.goes_on ≡ false → RunsTo r p → RunsTo r (behind_line l x p)
unfolding RunsTo
not_run l x r p g t = subst (RunsTo r) (sym (stands_still l x p (sym t.goes ∙ g))) t

pub was_run : (l : Option Ts) (i : ℕ) (c : Command) (old new : SourceRun) (p : Progress) → old.goes_on ≡ true → RunsTo old p → RunsTo new (behind_command l i (applied c p.stage) p) → RunsTo new (behind_line l (i, Cmd c) p)
unfolding RunsTo
was_run l i c old new p g t u = subst (RunsTo new) (sym (line_is l i c p (sym t.goes ∙ g))) u

pub advances : (l : Option Ts) (x : ℕ × Line) (old new : SourceRun) → ((p : Progress) → RunsTo old p → RunsTo new (behind_line l x p)) → Advances l x old new
unfolding Advances
advances l x old new f = f
