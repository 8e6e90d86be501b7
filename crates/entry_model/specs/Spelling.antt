-- The document of an entry.
use Rattle.std.specs.Prelude.{ℕ, ◌*◌, pos, List, [], ◌∷◌, ◌++◌, codes, map, Option, Some, None}
use Rattle.bson_value.specs.declared.value.Value.{Value}
use Rattle.bson_value.specs.declared.value.Value.TheVariants.{Str, Object, Array, Int, Long, Date, Stamp}
use Rattle.bson_value.specs.declared.namespace.NsName.{NsName}
use Rattle.bson_value.specs.Namespace.{dot}
use Rattle.doc_path.specs.Played.{id_name}
use Rattle.entry_model.specs.declared.entry.Entry.{Entry}
use Rattle.entry_model.specs.declared.entry.Action.{Action, out-Action}
use Rattle.entry_model.specs.declared.entry.Action.TheOpen.{Action-F}
use Rattle.entry_model.specs.Written.{Fields}
use Rattle.entry_model.specs.Touches.{written}

-- so many levels a document of the store has at most
abbrev pub level_limit : ℕ
level_limit = 200

-- what is spelled of an action: its operation, the text of its namespace, o2 where there is one, and o
pub record Body : Type 0 where
  pub op : List ℕ
  pub ns : List ℕ
  pub o2 : Option Fields
  pub o : Fields

abbrev pub namespace_text : List ℕ → List ℕ → List ℕ
namespace_text db coll = db ++ dot ∷ coll

abbrev pub text_of : NsName → List ℕ
text_of ns = namespace_text ns.db ns.coll

abbrev pub id_alone : Value → Fields
id_alone id = (id_name, id) ∷ []

abbrev pub document_body : List ℕ → NsName → Fields → Body
document_body op ns o = record { op = op; ns = text_of ns; o2 = None; o = o }

abbrev pub update_body : NsName → Value → Fields → Body
update_body ns id o = record { op = codes "u"; ns = text_of ns; o2 = Some (id_alone id); o = o }

-- a command of a database: its name, what it says of it, and further fields
abbrev pub command_body : NsName → List ℕ → Value → Fields → Body
command_body ns name v fs = record { op = codes "c"; ns = namespace_text ns.db (codes "$cmd"); o2 = None; o = (name, v) ∷ fs }

-- the fields of the one definition
abbrev pub one_definition : List Fields → Fields
one_definition [] = []
one_definition (d ∷ ds) = d

-- items gives what is spelled of a group's entries
abbrev pub body_at : (List Entry → List Value) → NsName → Action-F Action Entry → Body
body_at items ns Action-F.Nothing = record { op = codes "n"; ns = []; o2 = None; o = (codes "msg", Str (codes "initiating set")) ∷ [] }
body_at items ns (Action-F.Put doc) = document_body (codes "i") ns doc
body_at items ns (Action-F.Remove id) = document_body (codes "d") ns (id_alone id)
body_at items ns (Action-F.Whole id doc) = update_body ns id doc
body_at items ns (Action-F.Delta id form touches) = update_body ns id (written form level_limit touches)
body_at items ns (Action-F.Create options) = command_body ns (codes "create") (Str ns.coll) options
body_at items ns Action-F.DropColl = command_body ns (codes "drop") (Str ns.coll) []
body_at items ns Action-F.DropDb = command_body ns (codes "dropDatabase") (Int (pos 1)) []
body_at items ns (Action-F.AddIndexes defs) = command_body ns (codes "createIndexes") (Str ns.coll) (one_definition defs)
body_at items ns (Action-F.DropIndex name) = command_body ns (codes "dropIndexes") (Str ns.coll) ((codes "index", Str name) ∷ [])
body_at items ns (Action-F.Rename from to) = command_body ns (codes "renameCollection") (Str (text_of from)) ((codes "to", Str (text_of to)) ∷ [])
body_at items ns (Action-F.Group entries) = command_body ns (codes "applyOps") (Array (items entries)) []
body_at items ns (Action-F.Other name) = command_body ns name (Str ns.coll) []

abbrev pub with_o2 : Option Fields → Fields → Fields
with_o2 None fs = fs
with_o2 (Some o2) fs = (codes "o2", Object o2) ∷ fs

-- `op`, `ns`, `o2` and `o`, and what stands behind them
abbrev pub body_fields : Body → Fields → Fields
body_fields b fs = (codes "op", Str b.op) ∷ (codes "ns", Str b.ns) ∷ with_o2 b.o2 ((codes "o", Object b.o) ∷ fs)

-- an entry of a group, which has no group in it
abbrev pub item_value : Entry → Value
item_value e = Object (body_fields (body_at (λ es. []) e.ns (out-Action e.action)) [])

abbrev pub body_of : Entry → Body
body_of e = body_at (map item_value) e.ns (out-Action e.action)

abbrev pub wall : ℕ → Value
wall secs = Date (pos (secs * 1000))

-- the fields of an entry, in order
abbrev pub entry_fields : Entry → Fields
entry_fields e = (codes "ts", Stamp e.ts) ∷ (codes "t", Long (pos 1)) ∷ (codes "v", Long (pos 2)) ∷ body_fields (body_of e) ((codes "wall", wall e.ts.secs) ∷ [])
