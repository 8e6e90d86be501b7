-- Several changes at once, one after the other.
use Rattle.std.specs.Prelude.{⊤, ◌≡◌, List, [], ◌∷◌, Option, Some, None, true}
use Rattle.std.specs.FinMap as map
use Rattle.bson_value.specs.declared.namespace.NsName.{NsName}
use Rattle.bson_value.specs.declared.value.Value.{Value}
use Rattle.bson_encode.specs.Key.{key_of}
use Rattle.state_model.specs.Keys.{Key}
use Rattle.coll_state.specs.declared.change.Change.{Change}
use Rattle.coll_state.specs.Rows.{Document, Rows, id_of, key_in}
use Rattle.coll_state.specs.Changes.{Tables, put_under, remove}

-- a document is put, or taken out where there is none
abbrev pub changed_by : NsName → Key → Option Document → Rows → Rows
changed_by n k None s = remove n k s
changed_by n k (Some d) s = put_under n k d s

abbrev pub change_one : Change → Rows → Rows
change_one c s = changed_by c.ns (key_of c.id) c.doc s

abbrev pub change_all : List Change → Rows → Rows
change_all [] s = s
change_all (c ∷ cs) s = change_all cs (change_one c s)

-- the `_id` of a document is the one that is named
abbrev pub HasId : Value → Option Document → Type 0
HasId v o = (d : Document) → o ≡ Some d → id_of d ≡ Some v

-- and its key is this one
abbrev pub HasKey : Key → Option Document → Type 0
HasKey k o = (d : Document) → o ≡ Some d → key_in (id_of d) ≡ k

abbrev pub HaveIds : List Change → Type 0
HaveIds [] = ⊤
HaveIds (c ∷ cs) = HasId c.id c.doc × HaveIds cs

-- the collections are there
abbrev pub AreThere : List Change → Tables → Type 0
AreThere [] ts = ⊤
AreThere (c ∷ cs) ts = (map.contains_key ts c.ns ≡ true) × AreThere cs ts
