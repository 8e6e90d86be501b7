-- What holds of everything that is recorded.
use Rattle.std.specs.Prelude.{⊤, ℕ, suc, ◌≡◌, ◌≤◌, List, [], ◌∷◌, length, false, codes, Some, None, Ok}
use Rattle.containers.specs.Entries.{lookup}
use Rattle.bson_value.specs.declared.namespace.NsName.{NsName}
use Rattle.bson_value.specs.declared.value.Value.{Value, Object, Str}
use Rattle.bson_value.specs.Levels.{levels_in, levels_of}
use Rattle.bson_value.specs.Spelling.{spelled, document_text}
use Rattle.bson_value.specs.WellFormed.{IsWellFormed, IsWellFormedDocument}
use Rattle.doc_path.specs.declared.parts.Form.{Form}
use Rattle.doc_path.specs.declared.touches.Touch.{Touch}
use Rattle.doc_path.specs.Played.{id_name}
use Rattle.json_tree.specs.declared.tree.Tree.{Tree}
use Rattle.json_text.specs.Print.{text_of}
use Rattle.index_keys.specs.Definition.{normal}
use Rattle.entry_model.specs.Touches.{written, touches_read}
use Rattle.entry_model.specs.Spelling.{level_limit}
use Rattle.coll_state.specs.Rows.{Document as Fields}
use Rattle.coll_state.specs.Definitions.{definition_name}
use Rattle.history_model.specs.Documents.{options_of, is_bad_name}
use Rattle.history_model.specs.Entries.{Item, Put, Remove, Whole, Delta, Create, DropColl, DropDb, AddIndex, DropIndex, Content, Nothing, One, Rename, Group, content_size}
use Rattle.recorded_entries.specs.Given.{IsPlainDocument}

-- a name that may be made
abbrev pub IsGoodName : NsName → Type 0
IsGoodName n = is_bad_name n ≡ false

-- a database that has a collection
abbrev pub IsGoodDatabase : List ℕ → Type 0
IsGoodDatabase db = (coll : List ℕ) × IsGoodName (record { db = db; coll = coll })

-- an `_id` that is kept
pub record IsGoodId (id : Value) : Type 0 where
  pub formed : IsWellFormed id
  pub short : length (spelled id) ≤ 1024
  pub shallow : levels_in id ≤ 99

-- a document that is kept under this `_id`, which is its first field
pub record IsGoodDocument (id : Value) (d : Fields) : Type 0 where
  pub own : IsGoodId id
  pub first : (rest : Fields) × (d ≡ (id_name, id) ∷ rest)
  pub formed : IsWellFormedDocument d
  pub short : length (document_text d) ≤ 16777216
  pub shallow : levels_of d ≤ 100

-- touches that are read again, in this order, of what is written of them, which isn't longer than a document
pub record IsGoodDelta (f : Form) (us : List Touch) : Type 0 where
  pub again : touches_read (suc level_limit) (written f level_limit us) ≡ Ok (f, us)
  pub formed : IsWellFormedDocument (written f level_limit us)
  pub short : length (document_text (written f level_limit us)) ≤ 16777216
  pub shallow : levels_of (written f level_limit us) ≤ 102

-- options that are kept
pub record IsGoodOptions (o : Fields) : Type 0 where
  pub formed : IsWellFormedDocument o
  pub no_create : lookup (codes "create") o ≡ None
  pub no_id_index : lookup (codes "idIndex") o ≡ None
  pub short : length (text_of (options_of o)) ≤ 8192
  pub shallow : levels_of o ≤ 100

-- a definition that is kept: the tree of such a document, in normal form
pub record IsGoodDefinition (d : Tree) : Type 0 where
  pub fields : Fields
  pub tree : d ≡ options_of fields
  pub formed : IsWellFormedDocument fields
  pub plain : IsPlainDocument fields
  pub normal_form : normal d ≡ Some d
  pub key : (k : Fields) × (lookup (codes "key") fields ≡ Some (Object k))
  pub name : lookup (codes "name") fields ≡ Some (Str (definition_name d))
  pub other : definition_name d ≡ codes "_id_" → ⊥
  pub no_create : lookup (codes "createIndexes") fields ≡ None
  pub short : length (text_of d) ≤ 8192
  pub shallow : levels_of fields ≤ 100

-- the name of a definition
abbrev pub IsGoodIndex : List ℕ → Type 0
IsGoodIndex i = (d : Tree) × IsGoodDefinition d × (definition_name d ≡ i)

abbrev pub IsGoodItem : Item → Type 0
IsGoodItem (Put n id d) = IsGoodName n × IsGoodDocument id d
IsGoodItem (Remove n id) = IsGoodName n × IsGoodId id
IsGoodItem (Whole n id d) = IsGoodName n × IsGoodDocument id d
IsGoodItem (Delta n id f us) = IsGoodName n × IsGoodId id × IsGoodDelta f us
IsGoodItem (Create n o) = IsGoodName n × IsGoodOptions o
IsGoodItem (DropColl n) = IsGoodName n
IsGoodItem (DropDb db) = IsGoodDatabase db
IsGoodItem (AddIndex n d) = IsGoodName n × IsGoodDefinition d
IsGoodItem (DropIndex n i) = IsGoodName n × IsGoodIndex i

abbrev pub AreGoodItems : List Item → Type 0
AreGoodItems [] = ⊤
AreGoodItems (i ∷ is) = IsGoodItem i × AreGoodItems is

abbrev pub IsGood : Content → Type 0
IsGood Nothing = ⊤
IsGood (One i) = IsGoodItem i
IsGood (Rename a b) = IsGoodName a × IsGoodName b
IsGood (Group is) = AreGoodItems is × (content_size (Group is) ≤ 16793600)
