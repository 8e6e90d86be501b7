-- What each move makes of a state.
use Rattle.std.specs.Prelude.{List, [], ◌∷◌, not, Option, Some, None}
use Rattle.std.specs.FinMap as map
use Rattle.bson_value.specs.declared.namespace.NsName.{NsName}
use Rattle.bson_value.specs.declared.value.Value.{Value}
use Rattle.doc_path.specs.Played.{played}
use Rattle.json_tree.specs.declared.tree.Tree.{Tree}
use Rattle.state_model.specs.Keys.{Key, same_key}
use Rattle.state_model.specs.States.{State, Collection, fresh_collection, or_fresh}
use Rattle.state_model.specs.Moves.{Move, Put, Remove, Whole, Delta, Create, DropColl, DropDb, AddIndex, DropIndex}

abbrev pub put_document : Key → Value → Collection → Collection
put_document i d c = record c { documents = map.insert c.documents i d }

abbrev pub remove_document : Key → Collection → Collection
remove_document i c = record c { documents = map.remove c.documents i }

-- a document that is there is changed
abbrev pub changed : (Value → Value) → Key → Option Value → Collection → Collection
changed g i None c = c
changed g i (Some v) c = record c { documents = map.insert c.documents i (g v) }

abbrev pub change_document : Key → (Value → Value) → Collection → Collection
change_document i g c = changed g i (map.get c.documents i) c

abbrev pub add_index : Key → Tree → Collection → Collection
add_index i d c = record c { indexes = map.insert c.indexes i d }

abbrev pub drop_index : Key → Collection → Collection
drop_index i c = record c { indexes = map.remove c.indexes i }

-- a collection that is there is changed
abbrev pub on_there : (Collection → Collection) → NsName → Option Collection → State → State
on_there g n None s = s
on_there g n (Some c) s = map.insert s n (g c)

abbrev pub on_collection : NsName → (Collection → Collection) → State → State
on_collection n g s = on_there g n (map.get s n) s

-- a document is put also where the collection is missing. All else but Create changes only what is there
abbrev pub replay : Move → State → State
replay (Put n i d) s = map.insert s n (put_document i d (or_fresh (map.get s n)))
replay (Remove n i) s = on_collection n (remove_document i) s
replay (Whole n i d) s = on_collection n (change_document i (λ v. d)) s
replay (Delta n i f t) s = on_collection n (change_document i (played f t)) s
replay (Create n o) s = map.insert s n (fresh_collection o)
replay (DropColl n) s = map.remove s n
replay (DropDb d) s = map.retain_keys s (λ n. not (same_key n.db d))
replay (AddIndex n i d) s = on_collection n (add_index i d) s
replay (DropIndex n i) s = on_collection n (drop_index i) s

-- the moves one after the other
abbrev pub replay_all : List Move → State → State
replay_all [] s = s
replay_all (m ∷ ms) s = replay_all ms (replay m s)
