-- Writes, what one makes of a state and of rows, and which moves record it.
use Rattle.std.specs.Prelude.{ℕ, ◌≡◌, ◌⊎◌, List, [], ◌∷◌, Option, Some, None}
use Rattle.std.specs.FinMap as map
use Rattle.bson_value.specs.declared.namespace.NsName.{NsName}
use Rattle.bson_value.specs.declared.value.Value.{Value, Object}
use Rattle.bson_value.specs.Place.{shape}
use Rattle.doc_path.specs.declared.parts.Form.{Form}
use Rattle.doc_path.specs.Touch.{Touch}
use Rattle.doc_path.specs.Played.{NoneLeft}
use Rattle.touch_laws.specs.Agree.{Records}
use Rattle.json_tree.specs.declared.tree.Tree.{Tree}
use Rattle.state_model.specs.Keys.{Key}
use Rattle.state_model.specs.States.{State, Collection}
use Rattle.state_model.specs.Moves.{Move}
use Rattle.state_model.specs.Moves as moves
use Rattle.state_model.specs.Replay.{replay}
use Rattle.state_model.specs.Fits.{IsThere}
use Rattle.coll_state.specs.Rows.{Document as Fields, Rows}
use Rattle.coll_state.specs.Changes.{put_under, remove, create, drop_ns, drop_db, add_index, drop_index}
use Rattle.coll_state.specs.Definitions.{definition_name}

-- a write that is no rename and no transaction
pub data SingleWrite : Type 0 where
  Put : NsName → Key → Fields → SingleWrite
  Remove : NsName → Key → SingleWrite
  Create : NsName → Tree → SingleWrite
  DropColl : NsName → SingleWrite
  DropDb : List ℕ → SingleWrite
  AddIndex : NsName → Tree → SingleWrite
  DropIndex : NsName → Key → SingleWrite

-- the move of its name
abbrev pub move_of : SingleWrite → Move
move_of (Put n k d) = moves.Put n k (Object d)
move_of (Remove n k) = moves.Remove n k
move_of (Create n o) = moves.Create n o
move_of (DropColl n) = moves.DropColl n
move_of (DropDb d) = moves.DropDb d
move_of (AddIndex n d) = moves.AddIndex n (definition_name d) d
move_of (DropIndex n i) = moves.DropIndex n i

-- what it makes of a state
abbrev pub change : SingleWrite → State → State
change w s = replay (move_of w) s

-- what it makes of rows
abbrev pub change_rows : SingleWrite → Rows → Rows
change_rows (Put n k d) r = put_under n k d r
change_rows (Remove n k) r = remove n k r
change_rows (Create n o) r = create n o r
change_rows (DropColl n) r = drop_ns n r
change_rows (DropDb d) r = drop_db d r
change_rows (AddIndex n d) r = add_index n d r
change_rows (DropIndex n i) r = drop_index n i r

abbrev pub deltas : NsName → Key → Form → List Touch → List Move
deltas n k f [] = []
deltas n k f (t ∷ ts) = moves.Delta n k f t ∷ deltas n k f ts

-- a whole document in the place of a document
abbrev pub IsWhole : NsName → Key → Fields → Value → List Move → Type 0
IsWhole n k d o ms = (ms ≡ moves.Whole n k (Object d) ∷ []) × (shape (Object d) ≡ shape o)

-- touches that record the update, none of which replay leaves at once
pub record AreDeltas (n : NsName) (k : Key) (d : Fields) (o : Value) (ms : List Move) : Type 0 where
  pub form : Form
  pub touches : List Touch
  pub deltas_of : ms ≡ deltas n k form touches
  pub none_left : NoneLeft touches
  pub records : Records form touches o (Object d)

-- a document that is put: where there is none an insert, else the whole document, or the touches of an update
abbrev pub PutIsRecorded : NsName → Key → Fields → Option Value → List Move → Type 0
PutIsRecorded n k d None ms = ms ≡ moves.Put n k (Object d) ∷ []
PutIsRecorded n k d (Some o) ms = IsWhole n k d o ms ⊎ AreDeltas n k d o ms

abbrev pub PutInIsRecorded : NsName → Key → Fields → Option Collection → List Move → Type 0
PutInIsRecorded n k d None ms = ⊥
PutInIsRecorded n k d (Some c) ms = PutIsRecorded n k d (map.get c.documents k) ms

-- the moves that an entry of a write, made on a state, may have
abbrev pub IsRecorded : SingleWrite → State → List Move → Type 0
IsRecorded (Put n k d) s ms = PutInIsRecorded n k d (map.get s n) ms
IsRecorded (AddIndex n d) s ms = (ms ≡ move_of (AddIndex n d) ∷ []) × IsThere (map.get s n)
IsRecorded w s ms = ms ≡ move_of w ∷ []
