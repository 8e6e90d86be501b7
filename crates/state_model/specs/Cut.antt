-- What a filter takes of a state and of moves.
use Rattle.std.specs.Prelude.{List, [], ◌∷◌, Bool, true, if◌then◌else◌}
use Rattle.std.specs.FinMap as map
use Rattle.bson_value.specs.declared.namespace.NsName.{NsName}
use Rattle.state_model.specs.States.{State}
use Rattle.state_model.specs.Spots.{Spot, Namespace, Inside}
use Rattle.state_model.specs.Moves.{Move, Put, Remove, Whole, Delta, Create, DropColl, DropDb, AddIndex, DropIndex}

-- the collections whose names it takes
abbrev pub cut : (NsName → Bool) → State → State
cut f s = map.retain_keys s f

-- a dropped database is always taken: it acts on what is there
abbrev pub takes_move : (NsName → Bool) → Move → Bool
takes_move f (Put n i d) = f n
takes_move f (Remove n i) = f n
takes_move f (Whole n i d) = f n
takes_move f (Delta n i g t) = f n
takes_move f (Create n o) = f n
takes_move f (DropColl n) = f n
takes_move f (DropDb d) = true
takes_move f (AddIndex n i d) = f n
takes_move f (DropIndex n i) = f n

abbrev pub taken : (NsName → Bool) → List Move → List Move
taken f [] = []
taken f (m ∷ ms) = if takes_move f m then m ∷ taken f ms else taken f ms

-- the collection of a place
abbrev pub space_of : Spot → NsName
space_of (Namespace n) = n
space_of (Inside n p) = n
