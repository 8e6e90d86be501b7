-- The moments of what a command makes.
use Rattle.std.proofs.Common.{◌≡◌, ℕ, suc, List, [], ◌∷◌, true, false, arith, refl, sym, ap, ◌∙◌, subst, inl, inr, Option, Some, None, Result, Ok, Err}
use Rattle.std.specs.Prelude.{⊤, ◌⊎◌, nat_lt, if◌then◌else◌}
use Rattle.std.proofs.lemmas.Bool.{cases_Bool, ltb-true, false_from_ne_true}
use Rattle.bson_value.specs.declared.value.Ts.{Ts}
use Rattle.schedule_model.specs.declared.command.Command.{Command}
use Rattle.schedule_model.specs.declared.command.Command.TheVariants.{At, Recording, Create, DropColl, DropDatabase, Rename, Document, CreateIndex, DropIndex, Txn}
use Rattle.schedule_model.specs.declared.refused.Refused.{Refused}
use Rattle.history_model.specs.Stages.{Stage, Made, Effect, next_ts, stage_by, stage_after, made_in}
use Rattle.history_model.specs.Commands.{effects, set_by, answered, applied, unless_refused, command_rows}
use Rattle.history_model.specs.Refusals.{first_of}
use Rattle.coll_state.specs.Rows.{Rows, AreSound, state_of}
use Rattle.state_model.specs.States.{State}
use Rattle.history_model.specs.Histories.{history_of, state_from}
use Rattle.history_model.proofs.Inductive.{told_same}
use Rattle.history_model.proofs.Tables.{write_sound, write_link}
use Rattle.schedule_source.specs.Commands.{second}

-- ---- what is made, by the effects

pub record Deeds (c : Command) (st after : Stage) (ms : List Made) : Type 0 where
  pub deeds : List Effect
  pub accepted : effects c st ≡ Ok deeds
  pub made_are : ms ≡ made_in deeds (set_by c st)
  pub after_is : after ≡ stage_after deeds (set_by c st)

no_answer : (st : Stage) (x : Refused) (y : Stage × List Made) → answered st (Err x) ≡ Ok y → ⊥
no_answer st x y e = cc

some_answer : (st : Stage) (ds : List Effect) (y : Stage × List Made) → answered st (Ok ds) ≡ Ok y → (stage_after ds st, made_in ds st) ≡ y
some_answer st ds y e = cc

pub deeds_of : (c : Command) (st after : Stage) (ms : List Made) → applied c st ≡ Ok (after, ms) → Deeds c st after ms
deeds_of c st after ms accepted = by (effects c st) refl accepted
  where
    by : (x : Result (List Effect) Refused) → effects c st ≡ x → answered (set_by c st) x ≡ Ok (after, ms) → Deeds c st after ms
    by (Err z) e f = absurd (no_answer (set_by c st) z (after, ms) f)
    by (Ok ds) e f = (let x = some_answer (set_by c st) ds (after, ms) f in record { deeds = ds; accepted = e; made_are = sym (ap (λ (y : Stage × List Made). y.1) x); after_is = sym (ap (λ (y : Stage × List Made). y.0) x) })

-- a command that sets clock or form makes nothing
sets_alone : (c : Command) (st : Stage) (d : Effect) (ds : List Effect) → effects c st ≡ Ok (d ∷ ds) → set_by c st ≡ st
sets_alone (At s) st d ds e = by (first_of (command_rows (At s) st)) e
  where
    by : (x : Option Refused) → unless_refused x [] ≡ Ok (d ∷ ds) → set_by (At s) st ≡ st
    by (Some r) f = cc
    by None f = cc
sets_alone (Recording f) st d ds e = cc
sets_alone (Create n o) st d ds e = refl
sets_alone (DropColl n) st d ds e = refl
sets_alone (DropDatabase n) st d ds e = refl
sets_alone (Rename a b) st d ds e = refl
sets_alone (Document x) st d ds e = refl
sets_alone (CreateIndex n x) st d ds e = refl
sets_alone (DropIndex n k) st d ds e = refl
sets_alone (Txn xs) st d ds e = refl

-- ---- the first one is next, and the second one is right behind it

abbrev pub Times : Ts → List Made → Type 0
Times t [] = ⊤
Times t (m ∷ []) = m.ts ≡ t
Times t (m ∷ n ∷ ms) = (m.ts ≡ t) × (n.ts ≡ second t)

not_less : (a : ℕ) → nat_lt a a ≡ false
not_less a = false_from_ne_true (nat_lt a a) (λ e. let x = ltb-true a a e in omega arith)

behind_next : (d : Effect) (st : Stage) → next_ts (stage_by d st) ≡ second (next_ts st)
behind_next d st = by (cases_Bool (nat_lt st.newest.secs st.clock))
  where
    newer : Ts → Ts
    newer t = if nat_lt t.secs st.clock then record { secs = st.clock; inc = 1 } else record { secs = t.secs; inc = suc t.inc }

    same_second : (t : Ts) → nat_lt t.secs st.clock ≡ false → newer t ≡ second t
    same_second t e = rw e refl

    by : (nat_lt st.newest.secs st.clock ≡ true) ⊎ (nat_lt st.newest.secs st.clock ≡ false) → newer (next_ts st) ≡ second (next_ts st)
    by (inl e) = rw e (same_second (record { secs = st.clock; inc = 1 }) (not_less st.clock))
    by (inr e) = rw e (same_second (record { secs = st.newest.secs; inc = suc st.newest.inc }) e)

pub times_of : (c : Command) (st after : Stage) (ms : List Made) → applied c st ≡ Ok (after, ms) → Times (next_ts st) ms
times_of c st after ms accepted = of_deeds (deeds_of c st after ms accepted)
  where
    in_turn : (ds : List Effect) → Times (next_ts st) (made_in ds st)
    in_turn [] = _
    in_turn (d ∷ []) = refl
    in_turn (d ∷ e ∷ ds) = (refl, behind_next d st)

    by_set : (ds : List Effect) → effects c st ≡ Ok ds → Times (next_ts st) (made_in ds (set_by c st))
    by_set [] e = _
    by_set (d ∷ ds) e = subst (λ (x : Stage). Times (next_ts st) (made_in (d ∷ ds) x)) (sym (sets_alone c st d ds e)) (in_turn (d ∷ ds))

    of_deeds : Deeds c st after ms → Times (next_ts st) ms
    of_deeds w = subst (λ (x : List Made). Times (next_ts st) x) (sym w.made_are) (by_set w.deeds w.accepted)

-- ---- what is made makes the state

linked : (ds : List Effect) (st : Stage) → AreSound st.rows → state_of (stage_after ds st).rows ≡ state_from (state_of st.rows) (history_of (made_in ds st))
linked [] st a = refl
linked (d ∷ ds) st a = linked ds (stage_by d st) (write_sound d.0 st.rows a) ∙ ap (λ (s : State). state_from s (history_of (made_in ds (stage_by d st)))) (write_link d.0 st.rows a)

pub made_links : (c : Command) (st after : Stage) (ms : List Made) → AreSound st.rows → applied c st ≡ Ok (after, ms) → state_of after.rows ≡ state_from (state_of st.rows) (history_of ms)
made_links c st after ms sound accepted = of_deeds (deeds_of c st after ms accepted)
  where
    set : Stage
    set = set_by c st

    by_set : (ds : List Effect) → state_of (stage_after ds set).rows ≡ state_from (state_of st.rows) (history_of (made_in ds set))
    by_set ds = linked ds set (subst (λ (r : Rows). AreSound r) (sym (told_same c st)) sound) ∙ ap (λ (r : Rows). state_from (state_of r) (history_of (made_in ds set))) (told_same c st)

    of_deeds : Deeds c st after ms → state_of after.rows ≡ state_from (state_of st.rows) (history_of ms)
    of_deeds w = ap (λ (x : Stage). state_of x.rows) w.after_is ∙ (by_set w.deeds ∙ ap (λ (x : List Made). state_from (state_of st.rows) (history_of x)) (sym w.made_are))
