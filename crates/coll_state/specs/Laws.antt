-- What a call makes of the rows is a move of their state.
use Rattle.std.specs.Prelude.{◌≡◌, ℕ, List, Some}
use Rattle.std.specs.FinMap as map
use Rattle.bson_value.specs.declared.namespace.NsName.{NsName}
use Rattle.bson_value.specs.declared.value.Value.{Object}
use Rattle.json_tree.specs.declared.tree.Tree.{Tree}
use Rattle.state_model.specs.Keys.{Key}
use Rattle.state_model.specs.States.{or_fresh}
use Rattle.state_model.specs.Moves.{Put, Remove, Create, DropColl, DropDb, AddIndex, DropIndex}
use Rattle.state_model.specs.Replay.{replay}
use Rattle.coll_state.specs.Rows.{Document, Table, Rows, AreSound, collection_of, state_of}
use Rattle.coll_state.specs.Changes.{put_under, remove, create, drop_ns, drop_db, rename, add_index, drop_index, describe, under_names}
use Rattle.coll_state.specs.Definitions.{definition_name}

abbrev pub PutIsMove : Type 0
PutIsMove = (n : NsName) (k : Key) (d : Document) (s : Rows) → state_of (put_under n k d s) ≡ replay (Put n k (Object d)) (state_of s)

abbrev pub RemoveIsMove : Type 0
RemoveIsMove = (n : NsName) (k : Key) (s : Rows) → AreSound s → state_of (remove n k s) ≡ replay (Remove n k) (state_of s)

abbrev pub CreateIsMove : Type 0
CreateIsMove = (n : NsName) (o : Tree) (s : Rows) → state_of (create n o s) ≡ replay (Create n o) (state_of s)

abbrev pub DropIsMove : Type 0
DropIsMove = (n : NsName) (s : Rows) → state_of (drop_ns n s) ≡ replay (DropColl n) (state_of s)

abbrev pub DropDbIsMove : Type 0
DropDbIsMove = (d : List ℕ) (s : Rows) → state_of (drop_db d s) ≡ replay (DropDb d) (state_of s)

abbrev pub AddIndexIsMove : Type 0
AddIndexIsMove = (n : NsName) (d : Tree) (s : Rows) → state_of (add_index n d s) ≡ replay (AddIndex n (definition_name d) d) (state_of s)

abbrev pub DropIndexIsMove : Type 0
DropIndexIsMove = (n : NsName) (i : Key) (s : Rows) → state_of (drop_index n i s) ≡ replay (DropIndex n i) (state_of s)

-- options and definitions take the place of those that were there
abbrev pub DescribedAnew : Type 0
DescribedAnew = (n : NsName) (o : Tree) (ds : List Tree) (s : Rows) → state_of (describe n o ds s) ≡ map.insert (state_of s) n (record { options = o; indexes = under_names ds; documents = (or_fresh (map.get (state_of s) n)).documents })

-- a renamed collection is moved whole
abbrev pub RenameMoves : Type 0
RenameMoves = (from to : NsName) (t : Table) (s : Rows) → map.get s.tables from ≡ Some t → state_of (rename from to s) ≡ map.insert (map.remove (state_of s) from) to (collection_of t)
