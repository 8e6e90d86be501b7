-- An archive that restores to a state isn't refused.
use Rattle.std.proofs.Common.{◌≡◌, ℕ, List, inl, inr, subst, sym}
use Rattle.std.specs.Prelude.{Option}
use Rattle.archive_format.specs.declared.fault.FormatFault.{FormatFault}
use Rattle.restore_plan.specs.declared.fault.RestoreFault.{RestoreFault}
use Rattle.restore_plan.specs.declared.plan.Plan.{Plan}
use Rattle.restore_plan.specs.Outcome.{Outcome, restores, refuses, fails, IsOutcome, IsRefused, IsMet, OneOutcome, RefusedIsOutcome}
use Rattle.drill_run.specs.Restores.{whole_plan, Restores}

abbrev IsState : Outcome → Type 0
IsState (restores s) = Unit {0}
IsState _ = ⊥

module _ (one : OneOutcome) (refused : RefusedIsOutcome) (p : Plan) (bytes archive : List ℕ) (e : p ≡ whole_plan) (f : bytes ≡ archive) (r : Restores archive) where
  is_outcome : IsOutcome p bytes (restores r.0)
  is_outcome =
      let of_archive : IsOutcome p archive (restores r.0) = subst (λ (q : Plan). IsOutcome q archive (restores r.0)) (sym e) r.1 in
      subst (λ (b : List ℕ). IsOutcome p b (restores r.0)) (sym f) of_archive

  no_other : (o : Outcome) → IsOutcome p bytes o → IsState o
  no_other o h = subst IsState ((one p bytes).1 (restores r.0) o is_outcome h) tt

  pub never_format : (now : Option (List ℕ)) (x : FormatFault) → IsRefused p bytes now (refuses x) → ⊥
  never_format now x h = no_other (refuses x) (refused p bytes now (refuses x) h)

  pub never_fails : (now : Option (List ℕ)) (x : RestoreFault) → IsMet p bytes now x → ⊥
  never_fails now x (inl h) = no_other (fails x) (refused p bytes now (fails x) h)
  never_fails now x (inr h) = no_other (fails x) (inr h.1)
