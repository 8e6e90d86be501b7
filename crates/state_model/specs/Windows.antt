-- Writes in a row, each with the moves that were recorded of it.
use Rattle.std.specs.Prelude.{⊤, ◌≡◌, List, [], ◌∷◌, ◌++◌, true, false, Option, Some, None}
use Rattle.std.specs.FinMap as map
use Rattle.bson_value.specs.declared.namespace.NsName.{NsName}
use Rattle.bson_value.specs.declared.value.Value.{Value}
use Rattle.doc_path.specs.declared.parts.Form.{Form}
use Rattle.doc_path.specs.Touch.{Touch}
use Rattle.doc_path.specs.Played.{is_left}
use Rattle.touch_laws.specs.Agree.{Done}
use Rattle.state_model.specs.Keys.{same_key}
use Rattle.state_model.specs.States.{State, Collection, fresh_collection}
use Rattle.state_model.specs.Spots.{Spot, stands}
use Rattle.state_model.specs.Moves.{Move, Put, Remove, Whole, Delta, Create, DropColl, DropDb, AddIndex, DropIndex}
use Rattle.state_model.specs.Replay.{replay}
use Rattle.state_model.specs.Covers.{any_move_covers}
use Rattle.state_model.specs.Fits.{MoveFits}
use Rattle.state_model.specs.Agreement.{SameStates}

-- the collection is there, and P holds of it
abbrev pub HasCollection : (Collection → Type 0) → Option Collection → Type 0
HasCollection P None = ⊥
HasCollection P (Some c) = P c

-- where the collection is there, P holds of it
abbrev pub OnCollection : (Collection → Type 0) → Option Collection → Type 0
OnCollection P None = ⊤
OnCollection P (Some c) = P c

abbrev pub HasDocument : (Value → Type 0) → Option Value → Type 0
HasDocument P None = ⊥
HasDocument P (Some v) = P v

-- a touch that isn't left at once and has nothing left to do
abbrev pub IsDone : Form → Touch → Value → Type 0
IsDone f t v = (is_left t ≡ false) × Done f t v

-- what the move makes stands already
abbrev pub IsMade : Move → State → Type 0
IsMade (Put n i d) s = HasCollection (λ c. map.get c.documents i ≡ Some d) (map.get s n)
IsMade (Remove n i) s = OnCollection (λ c. map.get c.documents i ≡ None) (map.get s n)
IsMade (Whole n i d) s = HasCollection (λ c. map.get c.documents i ≡ Some d) (map.get s n)
IsMade (Delta n i f t) s = HasCollection (λ c. HasDocument (IsDone f t) (map.get c.documents i)) (map.get s n)
IsMade (Create n o) s = map.get s n ≡ Some (fresh_collection o)
IsMade (DropColl n) s = map.get s n ≡ None
IsMade (DropDb d) s = (n : NsName) → same_key n.db d ≡ true → map.get s n ≡ None
IsMade (AddIndex n i d) s = HasCollection (λ c. map.get c.indexes i ≡ Some d) (map.get s n)
IsMade (DropIndex n i) s = OnCollection (λ c. map.get c.indexes i ≡ None) (map.get s n)

-- a move that fits and changes nothing
abbrev pub Settled : Move → State → Type 0
Settled m s = MoveFits m s × SameStates (replay m s) s

abbrev pub AllSettled : List Move → State → Type 0
AllSettled [] s = ⊤
AllSettled (m ∷ ms) s = Settled m s × AllSettled ms s

-- the moves of one write: the states before and after it differ at covered places alone, and after it they are settled
pub record Recorded (ms : List Move) (old new : State) : Type 0 where
  pub frame : (p : Spot) → any_move_covers ms p ≡ false → stands new p ≡ stands old p
  pub settled : AllSettled ms new

-- writes that lead from a state to a state
abbrev pub Leads : State → List (List Move) → State → Type 0
Leads x [] z = SameStates x z
Leads x (ms ∷ mss) z = (mid : State) × Recorded ms x mid × Leads mid mss z

-- the moves of all
abbrev pub joined : List (List Move) → List Move
joined [] = []
joined (ms ∷ mss) = ms ++ joined mss
