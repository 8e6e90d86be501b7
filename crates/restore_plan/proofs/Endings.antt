-- Why an archive isn't restored, once all of it was taken.
use Rattle.std.proofs.Common.{◌≡◌, ℕ, List, [], inl, inr, sym, ◌∙◌, Option, Some, None}
use Rattle.std.specs.Prelude.{◌⊎◌}
use Rattle.state_model.specs.States.{State}
use Rattle.restore_plan.specs.declared.plan.Plan.{Plan}
use Rattle.restore_plan.specs.declared.fault.RestoreFault.{RestoreFault}
use Rattle.restore_plan.specs.Base.{or_later}
use Rattle.restore_plan.specs.Taken.{Contents, finished, index_fault, end_fault}
use Rattle.restore_plan.specs.Outcome.{IsOutcome, restores, fails, met_at_end, TakesAll, IsReadTo, IsRefused, IsMet, OnInput}

-- what is met at the end of what was taken
same_end : (p : Plan) (all : List ℕ) (c : Contents) (t : TakesAll p all c) → end_fault c ≡ met_at_end p t.0
same_end p all c t = λ i. or_later (t.3 i) (index_fault (t.2 i))

module _ (p : Plan) (c : Contents) where
  pub outcome : (o now : Option (List ℕ)) (s : State) → OnInput o (λ all. (now ≡ Some []) × TakesAll p all c) → end_fault c ≡ None → s ≡ finished c → OnInput o (λ all. (now ≡ Some []) × IsOutcome p all (restores s))
  outcome None now s h none is = tt
  outcome (Some all) now s h none is =
      let t = h.1 in
      (h.0, (t.0, t.1, sym (same_end p all c t) ∙ none, is ∙ t.2))

  pub failure : (o now : Option (List ℕ)) (f : RestoreFault) → OnInput o (λ all. (now ≡ Some []) × TakesAll p all c) → end_fault c ≡ Some f → OnInput o (λ all. IsMet p all now f)
  failure None now f h e = tt
  failure (Some all) now f h e =
      let t = h.1 in
      inr (h.0, (t.0, t.1, sym (same_end p all c t) ∙ e))

  pub whole : (o now : Option (List ℕ)) → OnInput o (λ all. (now ≡ Some []) × TakesAll p all c) → OnInput o (λ all. (now ≡ Some []) ⊎ IsReadTo p all now)
  whole None now h = tt
  whole (Some all) now h = inl h.0

pub some_read : (p : Plan) (o now : Option (List ℕ)) → OnInput o (λ all. IsReadTo p all now) → OnInput o (λ all. (now ≡ Some []) ⊎ IsReadTo p all now)
some_read p None now h = tt
some_read p (Some all) now h = inr h

pub stopped : (p : Plan) (o now : Option (List ℕ)) (f : RestoreFault) → OnInput o (λ all. IsRefused p all now (fails f)) → OnInput o (λ all. IsMet p all now f)
stopped p None now f h = tt
stopped p (Some all) now f h = inl h
