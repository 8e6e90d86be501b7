-- Answers with faults.
use Rattle.std.proofs.Common.{◌≡◌, refl, sym, ap, ◌∙◌, inl, inr, List, Option, Some}
use Rattle.std.specs.Prelude.{Err}
use Rattle.coll_state.specs.Rows.{Rows}
use Rattle.replay.specs.declared.fault.ReplayFault.{ReplayFault}
use Rattle.replay.specs.declared.fault.ReplayFault.TheVariants.{NoMemory, Rename, OtherCommand}
use Rattle.replay.specs.Moves.{Step}
use Rattle.replay.specs.Refusals.{Answers, IsFault}
use Rattle.replay.specs.Steps.{Stopped, Leaves}

pub fault_answers : (f e : ReplayFault) (o : Option ReplayFault) → IsFault f e → o ≡ Some e → Answers (Err f) o
fault_answers NoMemory e o h is = tt
fault_answers (Rename ts) e o h is = is ∙ ap (λ (x : ReplayFault). Some x) (sym h)
fault_answers (OtherCommand ts name) e o h is = is ∙ ap (λ (x : ReplayFault). Some x) (sym h)

-- nothing was done
pub leaves_all : (f : ReplayFault) (steps : List Step) (s : Rows) → Leaves f steps s s
leaves_all NoMemory steps s = inl refl
leaves_all (Rename ts) steps s = refl
leaves_all (OtherCommand ts name) steps s = refl

-- memory ran out
pub leaves_some : (f : ReplayFault) (steps : List Step) (old new : Rows) → f ≡ NoMemory → Stopped steps old new → Leaves f steps old new
leaves_some NoMemory steps old new e h = inr h
leaves_some (Rename ts) steps old new e h = cc
leaves_some (OtherCommand ts name) steps old new e h = cc
