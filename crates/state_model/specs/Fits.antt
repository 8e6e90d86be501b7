-- What a move needs of the state on which it is replayed.
use Rattle.std.specs.Prelude.{⊤, ◌≡◌, false, Option, Some, None}
use Rattle.std.specs.FinMap as map
use Rattle.bson_value.specs.declared.value.Value.{Value}
use Rattle.bson_value.specs.Place.{shape}
use Rattle.doc_path.specs.declared.parts.Form.{Form}
use Rattle.doc_path.specs.Touch.{Touch, Fits}
use Rattle.doc_path.specs.Played.{is_left}
use Rattle.state_model.specs.Keys.{Key}
use Rattle.state_model.specs.States.{State, Collection}
use Rattle.state_model.specs.Moves.{Move, Put, Remove, Whole, Delta, Create, DropColl, DropDb, AddIndex, DropIndex}

-- a touch fits the document that is there, and isn't left at once; any other move fits
abbrev pub FitsDocument : Form → Touch → Option Value → Type 0
FitsDocument f t None = ⊤
FitsDocument f t (Some v) = (is_left t ≡ false) × Fits f t v

abbrev pub FitsCollection : Key → Form → Touch → Option Collection → Type 0
FitsCollection i f t None = ⊤
FitsCollection i f t (Some c) = FitsDocument f t (map.get c.documents i)

abbrev pub MoveFits : Move → State → Type 0
MoveFits (Put n i d) s = ⊤
MoveFits (Remove n i) s = ⊤
MoveFits (Whole n i d) s = ⊤
MoveFits (Delta n i f t) s = FitsCollection i f t (map.get s n)
MoveFits (Create n o) s = ⊤
MoveFits (DropColl n) s = ⊤
MoveFits (DropDb d) s = ⊤
MoveFits (AddIndex n i d) s = ⊤
MoveFits (DropIndex n i) s = ⊤

abbrev pub IsThere : Option Collection → Type 0
IsThere None = ⊥
IsThere (Some c) = ⊤

abbrev pub KindAt : Value → Option Value → Type 0
KindAt d None = ⊤
KindAt d (Some v) = shape d ≡ shape v

abbrev pub KindIn : Key → Value → Option Collection → Type 0
KindIn i d None = ⊤
KindIn i d (Some c) = KindAt d (map.get c.documents i)

-- what is known of a move that was recorded of a write, in the state on which that was made: a document is put into a collection that is there, and a whole document is put in the place of a document
abbrev pub MadeOn : Move → State → Type 0
MadeOn (Put n i d) s = IsThere (map.get s n)
MadeOn (Remove n i) s = ⊤
MadeOn (Whole n i d) s = KindIn i d (map.get s n)
MadeOn (Delta n i f t) s = MoveFits (Delta n i f t) s
MadeOn (Create n o) s = ⊤
MadeOn (DropColl n) s = ⊤
MadeOn (DropDb d) s = ⊤
MadeOn (AddIndex n i d) s = ⊤
MadeOn (DropIndex n i) s = ⊤
