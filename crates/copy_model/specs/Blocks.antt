-- The state that the metadata, documents and ends of an archive make, taken one after the other.
use Rattle.std.specs.Prelude.{⊤, ◌≢◌, List, [], ◌∷◌, None}
use Rattle.std.specs.FinMap as map
use Rattle.bson_value.specs.declared.namespace.NsName.{NsName}
use Rattle.bson_value.specs.declared.value.Value.{Value}
use Rattle.json_tree.specs.declared.tree.Tree.{Tree}
use Rattle.state_model.specs.Keys.{Key, key_cmp}
use Rattle.state_model.specs.States.{State, or_fresh}
use Rattle.state_model.specs.Replay.{put_document}
use Rattle.coll_state.specs.Rows.{Rows}
use Rattle.copy_model.specs.Cursors.{Read}

-- options and definitions, a document under its key, an end
pub data Part : Type 0 where
  Metadata : NsName → Tree → map.FinMap key_cmp Tree → Part
  Document : NsName → Key → Value → Part
  End : NsName → Part

-- later metadata and a later document of a key take the place of earlier ones
abbrev pub base_step : State → Part → State
base_step s (Metadata n o ds) = map.insert s n (record { options = o; indexes = ds; documents = (or_fresh (map.get s n)).documents })
base_step s (Document n k d) = map.insert s n (put_document k d (or_fresh (map.get s n)))
base_step s (End n) = map.insert s n (or_fresh (map.get s n))

abbrev pub base_from : State → List Part → State
base_from s [] = s
base_from s (t ∷ ts) = base_from (base_step s t) ts

-- documents and ends are those of collections that are there
abbrev pub AreOf : Rows → List Part → Type 0
AreOf r [] = ⊤
AreOf r (Metadata n o ds ∷ ts) = ⊥
AreOf r (Document n k d ∷ ts) = (map.get r.tables n ≢ None) × AreOf r ts
AreOf r (End n ∷ ts) = (map.get r.tables n ≢ None) × AreOf r ts

-- what was read, the newest first
abbrev pub reads_in : List Part → List Read → List Read
reads_in [] reads = reads
reads_in (Metadata n o ds ∷ ts) reads = reads_in ts reads
reads_in (Document n k d ∷ ts) reads = reads_in ts (record { ns = n; key = k; document = d } ∷ reads)
reads_in (End n ∷ ts) reads = reads_in ts reads
