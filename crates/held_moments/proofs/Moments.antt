-- Indexes hold at each moment of a history.
use Rattle.std.proofs.Common.{◌≡◌, ℕ, List, [], ◌∷◌, ◌++◌, Bool, true, false, cond, not, refl, sym, ap, ◌∙◌, subst, Option, Some, None, Result, Ok, Err, inl, inr}
use Rattle.std.specs.Prelude.{◌⊎◌, ◌&&◌, filter}
use Rattle.std.proofs.lemmas.Bool.{cases_Bool}
use Rattle.bson_value.specs.declared.value.Ts.{Ts}
use Rattle.coll_state.specs.Rows.{Rows, state_of}
use Rattle.coll_state.specs.Changes.{no_rows}
use Rattle.schedule_model.specs.declared.command.Command.{Command}
use Rattle.schedule_model.specs.declared.line.Line.{Line}
use Rattle.schedule_model.specs.declared.line.Line.TheVariants.{Cmd, Dump, Copy, Mark, Tail}
use Rattle.schedule_model.specs.declared.refused.Refused.{Refused}
use Rattle.index_build.specs.Faults.{fault}
use Rattle.history_model.specs.Stages.{Write, earlier, Stage, Made, Effect, rows_by, stage_after, made_in, first_ts}
use Rattle.history_model.specs.Commands.{effects, set_by, answered, applied}
use Rattle.history_model.specs.Runs.{Run, NotTaken, commanded, or_refused, after_line, after_lines, first_run, run}
use Rattle.history_model.specs.Histories.{history_of, is_before, is_up_to, moments, state, at}
use Rattle.history_model.specs.Recordings.{rows_of_made, made_of_answer, made_by}
use Rattle.history_model.specs.Invariants.{RisesTo}
use Rattle.history_model.specs.Indexes.{IndexesHold}
use Rattle.history_model.proofs.Accepted.{same_ok}
use Rattle.history_model.proofs.Order.{earlier_trans}
use Rattle.history_model.proofs.Inductive.{told_same}
use Rattle.history_model.proofs.Modelled.{same_after, made_rows}
use Rattle.history_model.proofs.AtTheMark.{lines_made, lines_rise}
use Rattle.history_model.proofs.Limited.{still_late}
use Rattle.history_model.proofs.Before.{history_state}
use Rattle.history_model.proofs.SourceMade.{finished_made}
use Rattle.history_model.proofs.IndexesHeld.{applied_holds, nothing_holds}
use Rattle.held_indexes.specs.Laws.{HeldAreFaultless}
use Rattle.held_moments.specs.Laws.{MomentsAreFaultless}
use Rattle.held_moments.proofs.Effects.{HoldThrough, applied_through}

-- ---- through the writes of lines

through_join : (xs ys : List Made) (r : Rows) → HoldThrough xs r → HoldThrough ys (rows_of_made xs r) → HoldThrough (xs ++ ys) r
through_join [] ys r h g = g
through_join (x ∷ xs) ys r h g = (h.0, through_join xs ys (rows_by x.write r) h.1 g)

applied_rows : (k : Command) (st : Stage) (x : Stage × List Made) → applied k st ≡ Ok x → rows_of_made x.1 st.rows ≡ x.0.rows
applied_rows k st x e = by (effects k st) e
  where
    by : (y : Result (List Effect) Refused) → answered (set_by k st) y ≡ Ok x → rows_of_made x.1 st.rows ≡ x.0.rows
    by (Err z) u = cc
    by (Ok ds) u =
        subst (λ (z : Stage × List Made). rows_of_made z.1 st.rows ≡ z.0.rows) (same_ok (stage_after ds (set_by k st), made_in ds (set_by k st)) x u)
        (ap (rows_of_made (made_in ds (set_by k st))) (sym (told_same k st)) ∙ made_rows ds (set_by k st))

step_through : (ls : List (ℕ × Line)) (r s : Run) → s.stage ≡ r.stage → (IndexesHold s.stage.rows → HoldThrough (made_by ls s) s.stage.rows) → IndexesHold r.stage.rows → HoldThrough (made_by ls s) r.stage.rows
step_through ls r s e rest h = subst (λ (z : Stage). HoldThrough (made_by ls s) z.rows) e (rest (subst (λ (z : Stage). IndexesHold z.rows) (sym e) h))

lines_through : (ls : List (ℕ × Line)) (r : Run) → IndexesHold r.stage.rows → HoldThrough (made_by ls r) r.stage.rows
lines_through [] r h = h
lines_through ((i, Cmd k) ∷ ls) r h = by (applied k r.stage) refl (λ s g. lines_through ls s g)
  where
    by : (y : Result (Stage × List Made) Refused) → applied k r.stage ≡ y → ((s : Run) → IndexesHold s.stage.rows → HoldThrough (made_by ls s) s.stage.rows) →
        HoldThrough (made_of_answer y ++ made_by ls (or_refused i (commanded y r) r)) r.stage.rows
    by (Err x) e rest = rest (or_refused i (Err (NotTaken x)) r) h
    by (Ok x) e rest =
        (let after_it : Run = record r { stage = x.0; made = r.made ++ x.1 } in
        let held = applied_holds k r.stage x e h in
        through_join x.1 (made_by ls after_it) r.stage.rows (applied_through k r.stage x e h held)
        (subst (λ (z : Rows). HoldThrough (made_by ls after_it) z) (sym (applied_rows k r.stage x e)) (rest after_it held)))
lines_through ((i, Dump) ∷ ls) r h = step_through ls r (after_line (i, Dump) r) (same_after i Dump r tt) (lines_through ls (after_line (i, Dump) r)) h
lines_through ((i, Copy n k) ∷ ls) r h = step_through ls r (after_line (i, Copy n k) r) (same_after i (Copy n k) r tt) (lines_through ls (after_line (i, Copy n k) r)) h
lines_through ((i, Mark) ∷ ls) r h = step_through ls r (after_line (i, Mark) r) (same_after i Mark r tt) (lines_through ls (after_line (i, Mark) r)) h
lines_through ((i, Tail n) ∷ ls) r h = step_through ls r (after_line (i, Tail n) r) (same_after i (Tail n) r tt) (lines_through ls (after_line (i, Tail n) r)) h

-- ---- the writes of a time that pass a test which no later one passes again

abbrev IsClosed : (Ts → Bool) → Type 0
IsClosed t = (a b : Ts) → earlier a b ≡ true → t a ≡ false → t b ≡ false

abbrev passing : (Ts → Bool) → List Made → List Made
passing t ms = filter (λ (m : Made). t m.ts) ms

none_pass : (t : Ts → Bool) → IsClosed t → (ms : List Made) (low high : Ts) → RisesTo low ms high → t low ≡ false → passing t ms ≡ []
none_pass t c [] low high h f = refl
none_pass t c (m ∷ ms) low high h f =
    (let g = c low m.ts h.0 f in
    ap (λ (b : Bool). cond b (m ∷ passing t ms) (passing t ms)) g ∙ none_pass t c ms m.ts high h.1 g)

passing_holds : (t : Ts → Bool) → IsClosed t → (ms : List Made) (low high : Ts) (r : Rows) → RisesTo low ms high → HoldThrough ms r → IndexesHold (rows_of_made (passing t ms) r)
passing_holds t c [] low high r h g = g
passing_holds t c (m ∷ ms) low high r h g = by (cases_Bool (t m.ts)) (passing_holds t c ms m.ts high (rows_by m.write r) h.1 g.1)
  where
    by : (t m.ts ≡ true) ⊎ (t m.ts ≡ false) → IndexesHold (rows_of_made (passing t ms) (rows_by m.write r)) → IndexesHold (rows_of_made (passing t (m ∷ ms)) r)
    by (inl e) k = subst (λ (b : Bool). IndexesHold (rows_of_made (cond b (m ∷ passing t ms) (passing t ms)) r)) (sym e) k
    by (inr e) k = subst (λ (z : List Made). IndexesHold (rows_of_made z r)) (sym (ap (λ (b : Bool). cond b (m ∷ passing t ms) (passing t ms)) e ∙ none_pass t c ms m.ts high h.1 e)) g.0

passing_history : (t : Ts → Bool) (ms : List Made) → filter (λ (e : Ts × Write). t e.0) (history_of ms) ≡ history_of (passing t ms)
passing_history t [] = refl
passing_history t (m ∷ ms) = by (t m.ts) (passing_history t ms)
  where
    by : (b : Bool) → filter (λ (e : Ts × Write). t e.0) (history_of ms) ≡ history_of (passing t ms) →
        cond b ((m.ts, m.write) ∷ filter (λ (e : Ts × Write). t e.0) (history_of ms)) (filter (λ (e : Ts × Write). t e.0) (history_of ms)) ≡ history_of (cond b (m ∷ passing t ms) (passing t ms))
    by true h = ap (λ (z : List (Ts × Write)). (m.ts, m.write) ∷ z) h
    by false h = h

-- ---- before a limit, and not behind End

before_closed : (l : Option Ts) → IsClosed (is_before l)
before_closed None a b e f = cc
before_closed (Some l) a b e f = still_late a b l f e

up_to_closed : (l : Option Ts) → IsClosed (is_up_to l)
up_to_closed None a b e f = cc
up_to_closed (Some l) a b e f = ap not (earlier_trans l a b (turned (earlier l a) f) e)
  where
    turned : (x : Bool) → not x ≡ false → x ≡ true
    turned true g = refl
    turned false g = cc

both_closed : (t u : Ts → Bool) → IsClosed t → IsClosed u → IsClosed (λ ts. t ts && u ts)
both_closed t u c d a b e f = by (t a) refl f
  where
    first_fails : (x : Bool) → x ≡ false → (x && u b) ≡ false
    first_fails x g = ap (λ (z : Bool). z && u b) g

    last_fails : (x : Bool) → u b ≡ false → (x && u b) ≡ false
    last_fails true g = g
    last_fails false g = refl

    by : (x : Bool) → t a ≡ x → (x && u a) ≡ false → (t b && u b) ≡ false
    by true g h = last_fails (t b) (d a b e h)
    by false g h = first_fails (t b) (c a b e g)

pub moments_faultless : HeldAreFaultless → MomentsAreFaultless
moments_faultless held s l =
    (let end = (moments s).end_ts in
    let t : Ts → Bool = λ ts. is_before l ts && is_up_to end ts in
    let r = first_run s.caps in
    let ms = made_by s.lines r in
    let whole : (run s).made ≡ ms = finished_made (after_lines s.lines r) ∙ lines_made s.lines r in
    let front = passing t ms in
    let holds : IndexesHold (rows_of_made front no_rows) =
    passing_holds t (both_closed (is_before l) (is_up_to end) (before_closed l) (up_to_closed end)) ms first_ts (after_lines s.lines r).stage.newest no_rows (lines_rise s.lines r) (lines_through s.lines r nothing_holds) in
    let now : state_of (rows_of_made front no_rows) ≡ at s l =
    history_state front ∙ ap state (sym (ap (λ (z : List Made). filter (λ (e : Ts × Write). t e.0) (history_of z)) whole ∙ passing_history t ms)) in
    ap fault (sym now) ∙ held (rows_of_made front no_rows) holds)
