-- What was read of the input of `restore`, and what its outcome is.
use Rattle.std.proofs.Common.{◌≡◌, ◌⊎◌, ℕ, List, inl, inr, Option, Some, None, []}
use Rattle.state_model.specs.States.{State}
use Rattle.restore_plan.specs.declared.plan.Plan.{Plan}
use Rattle.restore_plan.specs.declared.fault.RestoreFault.{RestoreFault}
use Rattle.restore_plan.specs.Outcome.{Outcome, IsOutcome, IsReadTo, IsRefused, IsMet, OnInput, restores, fails}
use Rattle.restore_plan.proofs.Outcomes.{unread, refused_once}
use Rattle.restore_plan.proofs.Endings.{some_read}
use Rattle.tool_io.specs.Ends.{End}
use Rattle.tools_commands.specs.Ends.{Turn}
use Rattle.tools_commands.specs.RestoreAnswers.{ReadsSome, Refused, Fails, HasOutcome}

module _ (p : Plan) where
  pub none_read : (e : End) → ReadsSome p (record { before = e; after = e })
  none_read e = some_read p e.bytes e.bytes (unread p e.bytes)

  pub all_read : (o now : Option (List ℕ)) (s : State) → OnInput o (λ all. (now ≡ Some []) × IsOutcome p all (restores s)) → OnInput o (λ all. (now ≡ Some []) ⊎ IsReadTo p all now)
  all_read None now s h = tt
  all_read (Some all) now s h = inl h.0

  pub whole_read : (o now : Option (List ℕ)) (s : State) → OnInput o (λ all. (now ≡ Some []) × IsOutcome p all (restores s)) → OnInput o (λ all. now ≡ Some [])
  whole_read None now s h = tt
  whole_read (Some all) now s h = h.0

  pub outcome : (o now : Option (List ℕ)) (s : State) → OnInput o (λ all. (now ≡ Some []) × IsOutcome p all (restores s)) → OnInput o (λ all. IsOutcome p all (restores s))
  outcome None now s h = tt
  outcome (Some all) now s h = h.1

  -- an input that is refused has that outcome
  pub refused : (i : Turn) (o : Outcome) → Refused p i o → HasOutcome p i o
  refused i o h = go i.before.bytes h where
    go : (known : Option (List ℕ)) → OnInput known (λ all. IsRefused p all i.after.bytes o) → OnInput known (λ all. IsOutcome p all o)
    go None r = tt
    go (Some all) r = refused_once p all i.after.bytes o r

  -- and so has one that isn't restored
  pub failed : (i : Turn) (f : RestoreFault) → Fails p i f → HasOutcome p i (fails f)
  failed i f h = go i.before.bytes h where
    met : (all : List ℕ) → IsMet p all i.after.bytes f → IsOutcome p all (fails f)
    met all (inl r) = refused_once p all i.after.bytes (fails f) r
    met all (inr r) = inr r.1

    go : (known : Option (List ℕ)) → OnInput known (λ all. IsMet p all i.after.bytes f) → OnInput known (λ all. IsOutcome p all (fails f))
    go None r = tt
    go (Some all) r = met all r
