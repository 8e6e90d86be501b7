-- Two states that differ at most where a move to come will write.
use Rattle.std.specs.Prelude.{⊤, ◌≡◌, List, [], ◌∷◌, Bool, false}
use Rattle.state_model.specs.States.{State}
use Rattle.state_model.specs.Spots.{Spot, stands}
use Rattle.state_model.specs.Moves.{Move}
use Rattle.state_model.specs.Replay.{replay}
use Rattle.state_model.specs.Covers.{any_move_covers}
use Rattle.state_model.specs.Fits.{MoveFits}

-- the same stands in both at each place: they are equal up to the order of fields
abbrev pub SameStates : State → State → Type 0
SameStates a b = (p : Spot) → stands a p ≡ stands b p

-- at each place but those of which d says yes
abbrev pub SameStatesBut : (Spot → Bool) → State → State → Type 0
SameStatesBut d y x = (p : Spot) → d p ≡ false → stands y p ≡ stands x p

-- but those of which one of the two says yes
abbrev pub SameStatesButEither : (Spot → Bool) → (Spot → Bool) → State → State → Type 0
SameStatesButEither c d y x = (p : Spot) → c p ≡ false → d p ≡ false → stands y p ≡ stands x p

-- where no move to come covers, the same stands in both
abbrev pub StatesAgree : State → State → List Move → Type 0
StatesAgree y x ms = (p : Spot) → any_move_covers ms p ≡ false → stands y p ≡ stands x p

-- each move fits the state on which it is replayed
abbrev pub AllMovesFit : List Move → State → Type 0
AllMovesFit [] s = ⊤
AllMovesFit (m ∷ ms) s = MoveFits m s × AllMovesFit ms (replay m s)
