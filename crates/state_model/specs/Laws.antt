-- The laws of states.
use Rattle.std.specs.Prelude.{◌≡◌, ◌↔◌, List, [], ◌∷◌, ◌++◌, Bool, false, if◌then◌else◌, None}
use Rattle.std.specs.Cmp.{IsTotalOrder}
use Rattle.std.specs.FinMap.{IsAntisymmetric}
use Rattle.bson_value.specs.declared.namespace.NsName.{NsName}
use Rattle.bson_value.specs.NamespaceOrder.{namespace_cmp}
use Rattle.state_model.specs.Keys.{key_cmp}
use Rattle.state_model.specs.States.{State}
use Rattle.state_model.specs.Spots.{Spot, stands}
use Rattle.state_model.specs.Moves.{Move}
use Rattle.state_model.specs.Replay.{replay, replay_all}
use Rattle.state_model.specs.Covers.{move_covers, any_move_covers, HereditarySpots}
use Rattle.state_model.specs.Fits.{MoveFits, MadeOn}
use Rattle.state_model.specs.Agreement.{SameStates, SameStatesBut, SameStatesButEither, StatesAgree, AllMovesFit}
use Rattle.state_model.specs.Windows.{IsMade, Settled, Recorded, Leads, joined}
use Rattle.state_model.specs.Cut.{cut, taken, space_of}
use Rattle.state_model.specs.Shown.{shown}

abbrev pub OrdersAreTotal : Type 0
OrdersAreTotal = IsTotalOrder key_cmp × IsTotalOrder namespace_cmp

abbrev pub OnlyEqualTie : Type 0
OnlyEqualTie = IsAntisymmetric key_cmp × IsAntisymmetric namespace_cmp

abbrev pub CoverHereditarily : Type 0
CoverHereditarily = (ms : List Move) → HereditarySpots (any_move_covers ms)

abbrev pub MovesChangeWhatTheyCover : Type 0
MovesChangeWhatTheyCover = (m : Move) (s : State) → MadeOn m s → (p : Spot) → move_covers m p ≡ false → stands (replay m s) p ≡ stands s p

-- whatever else may differ, so long as it goes on below
abbrev pub ReplayKeepsSame : Type 0
ReplayKeepsSame = (m : Move) (d : Spot → Bool) (y x : State) → HereditarySpots d → MoveFits m x → SameStatesButEither (move_covers m) d y x → SameStatesBut d (replay m y) (replay m x)

abbrev pub ReplayKeepsAgreement : Type 0
ReplayKeepsAgreement = (m : Move) (ms : List Move) (y x : State) → MoveFits m x → StatesAgree y x (m ∷ ms) → StatesAgree (replay m y) (replay m x) ms

abbrev pub ReplayAllKeepsAgreement : Type 0
ReplayAllKeepsAgreement = (ms ns : List Move) (y x : State) → AllMovesFit ms x → StatesAgree y x (ms ++ ns) → StatesAgree (replay_all ms y) (replay_all ms x) ns

abbrev pub AgreedIsSame : Type 0
AgreedIsSame = (y x : State) → StatesAgree y x [] ↔ SameStates y x

abbrev pub SameIsShownAlike : Type 0
SameIsShownAlike = (a b : State) → SameStates a b ↔ (shown a ≡ shown b)

abbrev pub MadeIsSettled : Type 0
MadeIsSettled = (m : Move) (s : State) → IsMade m s → Settled m s

abbrev pub MadeStays : Type 0
MadeStays = (m : Move) (s : State) → IsMade m s → replay m s ≡ s

abbrev pub RecordHeals : Type 0
RecordHeals = (ms ns : List Move) (y old new : State) → Recorded ms old new → StatesAgree y old (ms ++ ns) → StatesAgree (replay_all ms y) new ns

abbrev pub WindowKeeps : Type 0
WindowKeeps = (mss : List (List Move)) (x z : State) → Leads x mss z → (p : Spot) → any_move_covers (joined mss) p ≡ false → stands z p ≡ stands x p

abbrev pub WindowHeals : Type 0
WindowHeals = (mss : List (List Move)) (y x z : State) → Leads x mss z → StatesAgree y x (joined mss) → SameStates (replay_all (joined mss) y) z

abbrev pub CutStands : Type 0
CutStands = (f : NsName → Bool) (s : State) (p : Spot) → stands (cut f s) p ≡ (if f (space_of p) then stands s p else None)

abbrev pub CutReplay : Type 0
CutReplay = (f : NsName → Bool) (ms : List Move) (s : State) → replay_all (taken f ms) (cut f s) ≡ cut f (replay_all ms s)
