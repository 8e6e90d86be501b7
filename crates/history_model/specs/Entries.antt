-- What is recorded of writes: the entries of the oplog, and the moves that each stands for.
use Rattle.std.specs.Prelude.{ℕ, List, [], ◌∷◌, map as each, length, codes, Option, Some, None, Result, Ok, Err}
use Rattle.bson_value.specs.declared.namespace.NsName.{NsName}
use Rattle.bson_value.specs.declared.value.Value.{Value, Object}
use Rattle.bson_value.specs.declared.value.Ts.{Ts}
use Rattle.bson_value.specs.Spelling.{document_text}
use Rattle.bson_encode.specs.Key.{key_of}
use Rattle.doc_path.specs.declared.parts.Form.{Form}
use Rattle.doc_path.specs.declared.touches.Touch.{Touch}
use Rattle.doc_path.specs.Played.{touch_of}
use Rattle.extjson.specs.Values.{value_of}
use Rattle.json_tree.specs.declared.tree.Tree.{Tree}
use Rattle.state_model.specs.Moves.{Move}
use Rattle.state_model.specs.Moves as moves
use Rattle.state_model.specs.Windows.{joined}
use Rattle.coll_state.specs.Rows.{Document as Fields}
use Rattle.coll_state.specs.Definitions.{definition_name}
use Rattle.update_model.specs.Updating.{fields_of}
use Rattle.entry_model.specs.declared.entry.Action.{Action}
use Rattle.entry_model.specs.declared.entry.Action.TheVariants as actions
use Rattle.entry_model.specs.declared.entry.Entry.{Entry}
use Rattle.entry_model.specs.Spelling.{entry_fields}
use Rattle.update_action.specs.Recorded.{recorded}
use Rattle.copy_model.specs.Writes.{deltas}
use Rattle.history_model.specs.Documents.{options_of}

-- ---- entries

-- an action that a group may have too
pub data Item : Type 0 where
  Put : NsName → Value → Fields → Item
  Remove : NsName → Value → Item
  Whole : NsName → Value → Fields → Item
  Delta : NsName → Value → Form → List Touch → Item
  Create : NsName → Fields → Item
  DropColl : NsName → Item
  DropDb : List ℕ → Item
  AddIndex : NsName → Tree → Item
  DropIndex : NsName → List ℕ → Item

-- what an entry holds beside its timestamp
pub data Content : Type 0 where
  Nothing : Content
  One : Item → Content
  Rename : NsName → NsName → Content
  Group : List Item → Content

-- its moves, a touch at a time
abbrev pub item_moves : Item → List Move
item_moves (Put n id d) = moves.Put n (key_of id) (Object d) ∷ []
item_moves (Remove n id) = moves.Remove n (key_of id) ∷ []
item_moves (Whole n id d) = moves.Whole n (key_of id) (Object d) ∷ []
item_moves (Delta n id f ts) = deltas n (key_of id) f (each touch_of ts)
item_moves (Create n o) = moves.Create n (options_of o) ∷ []
item_moves (DropColl n) = moves.DropColl n ∷ []
item_moves (DropDb db) = moves.DropDb db ∷ []
item_moves (AddIndex n d) = moves.AddIndex n (definition_name d) d ∷ []
item_moves (DropIndex n i) = moves.DropIndex n i ∷ []

abbrev pub content_moves : Content → List Move
content_moves Nothing = []
content_moves (One i) = item_moves i
content_moves (Rename a b) = []
content_moves (Group is) = joined (each item_moves is)

-- the fields of a definition in normal form
abbrev pub fields_read : {A : Type 0} → Result Value A → Fields
fields_read (Ok v) = fields_of v
fields_read (Err e) = []

abbrev pub database : List ℕ → NsName
database db = record { db = db; coll = [] }

abbrev pub entry_with : Ts → NsName → Action → Entry
entry_with ts n a = record { ts = ts; ns = n; action = a }

abbrev pub item_entry : Ts → Item → Entry
item_entry ts (Put n id d) = entry_with ts n (actions.Put d)
item_entry ts (Remove n id) = entry_with ts n (actions.Remove id)
item_entry ts (Whole n id d) = entry_with ts n (actions.Whole id d)
item_entry ts (Delta n id f us) = entry_with ts n (actions.Delta id f us)
item_entry ts (Create n o) = entry_with ts n (actions.Create o)
item_entry ts (DropColl n) = entry_with ts n actions.DropColl
item_entry ts (DropDb db) = entry_with ts (database db) actions.DropDb
item_entry ts (AddIndex n d) = entry_with ts n (actions.AddIndexes (fields_read (value_of d) ∷ []))
item_entry ts (DropIndex n i) = entry_with ts n (actions.DropIndex i)

-- the entry at this timestamp
abbrev pub entry_at : Ts → Content → Entry
entry_at ts Nothing = entry_with ts (database []) actions.Nothing
entry_at ts (One i) = item_entry ts i
entry_at ts (Rename a b) = entry_with ts a (actions.Rename a b)
entry_at ts (Group is) = entry_with ts (database (codes "admin")) (actions.Group (each (item_entry ts) is))

-- an entry of the oplog
pub record OplogEntry : Type 0 where
  pub ts : Ts
  pub content : Content

-- its bytes
unfoldable pub entry_bytes : OplogEntry → List ℕ
entry_bytes e = document_text (entry_fields (entry_at e.ts e.content))

unfoldable pub size_of : OplogEntry → ℕ
size_of e = length (entry_bytes e)

-- a size doesn't depend on the timestamp
abbrev pub no_ts : Ts
no_ts = record { secs = 0; inc = 0 }

abbrev pub content_size : Content → ℕ
content_size c = size_of (record { ts = no_ts; content = c })

-- ---- what is recorded of an update

-- the delta, or the whole document
abbrev pub delta_or_whole : NsName → Value → Fields → Option (Form × List Touch) → Item
delta_or_whole n id new None = Whole n id new
delta_or_whole n id new (Some r) = Delta n id r.0 r.1

abbrev pub update_item : Form → NsName → Value → Fields → List Touch → Item
update_item f n id new ts = delta_or_whole n id new (recorded f new ts)
