-- Steps that are made, one after the other.
use Rattle.std.specs.Prelude.{ℕ, ◌≡◌, ◌<◌, ◌⊎◌, List, [], ◌∷◌, length, take}
use Rattle.state_model.specs.Replay.{replay_all}
use Rattle.state_model.specs.Windows.{joined}
use Rattle.coll_state.specs.Rows.{Rows, state_of}
use Rattle.replay.specs.declared.fault.ReplayFault.{ReplayFault}
use Rattle.replay.specs.declared.fault.ReplayFault.TheVariants.{NoMemory}
use Rattle.replay.specs.Moves.{Step}

-- each leads from the collections before it to those behind it
abbrev pub Made : List Step → Rows → Rows → Type 0
Made [] old new = new ≡ old
Made (ms ∷ steps) old new = (mid : Rows) × (state_of mid ≡ replay_all ms (state_of old)) × Made steps mid new

-- those before one of them were made
abbrev pub Stopped : List Step → Rows → Rows → Type 0
Stopped steps old new = (n : ℕ) × (n < length steps) × Made (take n steps) old new

-- what stands after a fault: all as before, or, where memory ran out, some of the steps
abbrev pub Leaves : ReplayFault → List Step → Rows → Rows → Type 0
Leaves NoMemory steps old new = (new ≡ old) ⊎ Stopped steps old new
Leaves f steps old new = new ≡ old

abbrev pub MadeIsReplayed : Type 0
MadeIsReplayed = (steps : List Step) (old new : Rows) → Made steps old new → state_of new ≡ replay_all (joined steps) (state_of old)
