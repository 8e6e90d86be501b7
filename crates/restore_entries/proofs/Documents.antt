-- An entry that changes one document is one step at most, and is never refused.
use Rattle.std.proofs.Common.{◌≡◌, ℕ, ◌≤◌, Bool, true, false, List, [], ◌∷◌, length, take, refl, sym, ap, ◌∙◌, append-nil, subst, arith, inl, inr, Option, None}
use Rattle.std.specs.Prelude.{Result, Err, IfErr, if◌then◌else◌}
use Rattle.bson_value.specs.declared.value.Ts.{Ts}
use Rattle.bson_value.specs.declared.namespace.NsName.{NsName}
use Rattle.state_model.specs.Moves.{Move}
use Rattle.state_model.specs.Windows.{joined}
use Rattle.coll_state.specs.Rows.{Rows}
use Rattle.entry_model.specs.declared.entry.Entry.{Entry}
use Rattle.entry_model.specs.declared.entry.Action.{out-Action}
use Rattle.entry_model.specs.declared.entry.Action.TheOpen.{Action-F}
use Rattle.replay.specs.declared.fault.ReplayFault.{ReplayFault}
use Rattle.replay.specs.declared.fault.ReplayFault.TheVariants.{NoMemory, Rename, OtherCommand}
use Rattle.replay.specs.Moves.{Step, is_config, moves_at, steps_of, moves_of}
use Rattle.replay.specs.Refusals.{first_refused}
use Rattle.replay.specs.Steps.{Made, Stopped, Leaves}
use Rattle.replay.proofs.Folds.{Level, steps_below, steps_is, refused_below, refused_is}
use Rattle.restore_entries.specs.Documents.{is_of_document}

-- ---- the steps

level_step : (n : NsName) (x : Level) → is_of_document x ≡ true → steps_below n x ≡ moves_at n x ∷ []
level_step n (Action-F.Put d) h = refl
level_step n (Action-F.Remove id) h = refl
level_step n (Action-F.Whole id d) h = refl
level_step n (Action-F.Delta id f ts) h = refl
level_step n _ h = absurd cc

pub steps_are : (e : Entry) → is_of_document (out-Action e.action) ≡ true → steps_of e ≡ (if is_config e.ns then [] else moves_at e.ns (out-Action e.action) ∷ [])
steps_are e h = steps_is e ∙ ap (λ (l : List Step). if is_config e.ns then [] else l) (level_step e.ns (out-Action e.action) h)

pub moves_are : (e : Entry) → is_of_document (out-Action e.action) ≡ true → moves_of e ≡ (if is_config e.ns then [] else moves_at e.ns (out-Action e.action))
moves_are e h = ap joined (steps_are e h) ∙ by (is_config e.ns) (moves_at e.ns (out-Action e.action))
  where
    by : (b : Bool) (ms : List Move) → joined (if b then [] else ms ∷ []) ≡ (if b then [] else ms)
    by true ms = refl
    by false ms = append-nil ms

-- in the database `config` there is none
pub one_step : (e : Entry) → is_of_document (out-Action e.action) ≡ true → length (steps_of e) ≤ 1
one_step e h = subst (λ (l : List Step). length l ≤ 1) (sym (steps_are e h)) (by (is_config e.ns) (moves_at e.ns (out-Action e.action)))
  where
    by : (b : Bool) (ms : Step) → length (if b then [] else ms ∷ []) ≤ 1
    by true ms = omega arith
    by false ms = omega arith

-- ---- refusals

level_refused : (ts : Ts) (x : Level) → is_of_document x ≡ true → refused_below ts x ≡ None
level_refused ts (Action-F.Put d) h = refl
level_refused ts (Action-F.Remove id) h = refl
level_refused ts (Action-F.Whole id d) h = refl
level_refused ts (Action-F.Delta id f touches) h = refl
level_refused ts _ h = absurd cc

pub never_refused : (e : Entry) → is_of_document (out-Action e.action) ≡ true → first_refused e ≡ None
never_refused e h = refused_is e ∙ by (is_config e.ns) (refused_below e.ts (out-Action e.action)) (level_refused e.ts (out-Action e.action) h)
  where
    by : (b : Bool) (o : Option ReplayFault) → o ≡ None → (if b then None else o) ≡ None
    by true o is = refl
    by false o is = is

-- ---- faults

-- of one step at most that stopped none was made
stopped_before : (steps : List Step) (old new : Rows) → length steps ≤ 1 → Stopped steps old new → new ≡ old
stopped_before steps old new one h =
    let none : h.0 ≡ 0 = omega (arith, one, h.1) in
    subst (λ (n : ℕ). Made (take n steps) old new) none h.2

left_before : (f : ReplayFault) (steps : List Step) (old new : Rows) → length steps ≤ 1 → Leaves f steps old new → new ≡ old
left_before NoMemory steps old new one (inl same) = same
left_before NoMemory steps old new one (inr stopped) = stopped_before steps old new one stopped
left_before (Rename ts) steps old new one same = same
left_before (OtherCommand ts name) steps old new one same = same

pub unchanged : (e : Entry) (f : ReplayFault) (old new : Rows) → is_of_document (out-Action e.action) ≡ true → Leaves f (steps_of e) old new → new ≡ old
unchanged e f old new h left = left_before f (steps_of e) old new (one_step e h) left

pub unchanged_on_err : {A : Type 0} (e : Entry) (r : Result A ReplayFault) (f : ReplayFault) (old new : Rows) → is_of_document (out-Action e.action) ≡ true → r ≡ Err f → IfErr r (λ x. Leaves x (steps_of e) old new) → new ≡ old
unchanged_on_err e r f old new h is left = unchanged e f old new h (subst (λ x. IfErr x (λ y. Leaves y (steps_of e) old new)) is left)
