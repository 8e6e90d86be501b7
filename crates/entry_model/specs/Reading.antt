-- The entry that a document is, or its first fault.
use Rattle.std.specs.Prelude.{ℕ, suc, List, [], ◌∷◌, ◌++◌, codes, Bool, true, false, not, ◌||◌, ◌==◌, if◌then◌else◌, Option, Some, None, Result, Ok, Err}
use Rattle.std.specs.Str.{bytes_eq}
use Rattle.std.specs.List.{before_first, after_first}
use Rattle.containers.specs.Entries.{lookup, without}
use Rattle.bson_value.specs.declared.value.Value.{Value, Value-F, out-Value}
use Rattle.bson_value.specs.declared.value.Ts.{Ts}
use Rattle.bson_value.specs.declared.namespace.NsName.{NsName}
use Rattle.bson_value.specs.Namespace.{dot}
use Rattle.doc_path.specs.Played.{id_name}
use Rattle.entry_model.specs.declared.entry.Entry.{Entry}
use Rattle.entry_model.specs.declared.entry.Action.{Action}
use Rattle.entry_model.specs.declared.entry.Action.TheVariants.{Nothing, Put, Remove, Whole, Delta, Create, DropColl, DropDb, AddIndexes, DropIndex, Rename, Group, Other}
use Rattle.entry_model.specs.declared.fault.EntryFault.{EntryFault}
use Rattle.entry_model.specs.declared.fault.EntryFault.TheVariants.{MissingField, BadField, UnknownOp}
use Rattle.entry_model.specs.Written.{Fields}
use Rattle.entry_model.specs.Touches.{touches_read}
use Rattle.entry_model.specs.Spelling.{level_limit}

abbrev pub Read : Type 0 → Type 0
Read A = Result A EntryFault

infixl 10 ◌>>=◌
abbrev pub ◌>>=◌ : {A B : Type 0} → Read A → (A → Read B) → Read B
(Ok a) >>= f = f a
(Err e) >>= f = Err e

-- ---- values of a kind, by the name that the fault has

abbrev pub there : {A : Type 0} → List ℕ → Option A → Read A
there name None = Err (MissingField name)
there name (Some v) = Ok v

abbrev pub good : {A : Type 0} → List ℕ → Option A → Read A
good name None = Err (BadField name)
good name (Some v) = Ok v

abbrev pub text_in : Value-F Value → Option (List ℕ)
text_in (Value-F.Str t) = Some t
text_in _ = None

abbrev pub document_in : Value-F Value → Option Fields
document_in (Value-F.Object fs) = Some fs
document_in _ = None

abbrev pub array_in : Value-F Value → Option (List Value)
array_in (Value-F.Array vs) = Some vs
array_in _ = None

abbrev pub stamp_in : Value-F Value → Option Ts
stamp_in (Value-F.Stamp ts) = Some ts
stamp_in _ = None

abbrev pub is_true_in : Value-F Value → Bool
is_true_in (Value-F.Bool b) = b
is_true_in _ = false

-- a field of a kind
abbrev pub field : {A : Type 0} → (Value-F Value → Option A) → List ℕ → Fields → Read A
field kind name fs = there name (lookup name fs) >>= λ v. good name (kind (out-Value v))

-- `_id` in the field of this name
abbrev pub id_of : List ℕ → Fields → Read Value
id_of name fs = there (name ++ codes "._id") (lookup id_name fs)

-- ---- namespaces

abbrev pub is_dot : ℕ → Bool
is_dot b = b == dot

abbrev pub named : List ℕ → List ℕ → NsName
named db coll = record { db = db; coll = coll }

-- neither side is empty
abbrev pub both_sides : List ℕ → List ℕ → Option NsName
both_sides [] coll = None
both_sides (c ∷ db) [] = None
both_sides (c ∷ db) (d ∷ coll) = Some (named (c ∷ db) (d ∷ coll))

-- the two sides of the first dot
abbrev pub namespace_of : List ℕ → Option NsName
namespace_of text = both_sides (before_first is_dot text) (after_first is_dot text)

-- a collection's name isn't empty
abbrev pub in_database : List ℕ → List ℕ → Option NsName
in_database db [] = None
in_database db (c ∷ coll) = Some (named db (c ∷ coll))

-- ---- updates

-- an update's o is the whole document where its first name is no operator
abbrev pub is_dollar : List ℕ → Bool
is_dollar [] = false
is_dollar (c ∷ cs) = c == 36

abbrev pub is_whole : Fields → Bool
is_whole [] = true
is_whole (f ∷ fs) = not (is_dollar f.0)

abbrev pub update_of : Fields → Read (Value → Action)
update_of o = if is_whole o then Ok (λ id. Whole id o) else (touches_read (suc level_limit) o >>= λ r. Ok (λ id. Delta id r.0 r.1))

-- ---- commands: what is done, and to which namespace

abbrev pub Done : Type 0
Done = NsName × Action

-- a string that names a collection of this database
abbrev pub collection : List ℕ → List ℕ → Value → Read NsName
collection db name v = good name (text_in (out-Value v)) >>= λ t. good name (in_database db t)

-- a string that names a database and a collection
abbrev pub whole_name : List ℕ → Value → Read NsName
whole_name name v = good name (text_in (out-Value v)) >>= λ t. good name (namespace_of t)

-- a document `key` and a string `name`
abbrev pub definition : Fields → Read Fields
definition fs = do
  _ ← field document_in (codes "key") fs
  _ ← field text_in (codes "name") fs
  Ok fs

abbrev pub or_bad : {A : Type 0} → List ℕ → Read A → Read A
or_bad name (Ok a) = Ok a
or_bad name (Err e) = Err (BadField name)

-- what each is read as, or the first fault
abbrev pub each : {A : Type 0} → (Value → Read A) → List Value → Read (List A)
each f [] = Ok []
each f (v ∷ vs) = do
  x ← f v
  xs ← each f vs
  Ok (x ∷ xs)

abbrev pub definition_in : List ℕ → Value → Read Fields
definition_in name v = good name (document_in (out-Value v)) >>= λ fs. or_bad name (definition fs)

abbrev pub definitions : List ℕ → List Value → Read (List Fields)
definitions name vs = each (definition_in name) vs

abbrev pub string_or : List ℕ → Option (List ℕ) → List ℕ
string_or t None = t
string_or t (Some s) = s

abbrev pub other : List ℕ → List ℕ → Value → Done
other db name v = (named db (string_or (codes "$cmd") (text_in (out-Value v))), Other name)

-- ---- what each command says, by its value and the further fields

abbrev pub create_read : List ℕ → Value → Fields → Read Done
create_read db v fs = do
  ns ← collection db (codes "create") v
  Ok (ns, Create (without (codes "idIndex") fs))

abbrev pub drop_read : List ℕ → Value → Read Done
drop_read db v = do
  ns ← collection db (codes "drop") v
  Ok (ns, DropColl)

abbrev pub create_indexes_read : List ℕ → Value → Fields → Read Done
create_indexes_read db v fs = do
  ns ← collection db (codes "createIndexes") v
  d ← definition fs
  Ok (ns, AddIndexes (d ∷ []))

abbrev pub commit_read : List ℕ → Value → Fields → Read Done
commit_read db v fs = do
  ns ← collection db (codes "commitIndexBuild") v
  vs ← field array_in (codes "indexes") fs
  ds ← definitions (codes "indexes") vs
  Ok (ns, AddIndexes ds)

abbrev pub drop_index_read : List ℕ → Value → Fields → Read Done
drop_index_read db v fs = do
  ns ← collection db (codes "dropIndexes") v
  index ← field text_in (codes "index") fs
  Ok (ns, DropIndex index)

abbrev pub rename_read : Value → Fields → Read Done
rename_read v fs = do
  from ← whole_name (codes "renameCollection") v
  text ← field text_in (codes "to") fs
  to ← good (codes "to") (namespace_of text)
  Ok (from, Rename from to)

-- group reads the `applyOps` of a database. The command is the first name of o
abbrev pub command : (List ℕ → Value → Fields → Read Done) → List ℕ → Fields → Read Done
command group db [] = Err (BadField (codes "o"))
command group db ((name, v) ∷ fs) =
    if bytes_eq name (codes "create") then create_read db v fs
    else (if bytes_eq name (codes "drop") then drop_read db v
    else (if bytes_eq name (codes "dropDatabase") then Ok (named db [], DropDb)
    else (if bytes_eq name (codes "createIndexes") then create_indexes_read db v fs
    else (if bytes_eq name (codes "commitIndexBuild") then commit_read db v fs
    else (if bytes_eq name (codes "startIndexBuild") || bytes_eq name (codes "abortIndexBuild") then Ok (named db [], Nothing)
    else (if bytes_eq name (codes "dropIndexes") then drop_index_read db v fs
    else (if bytes_eq name (codes "renameCollection") then rename_read v fs
    else (if bytes_eq name (codes "applyOps") then group db v fs
    else Ok (other db name v)))))))))

-- ---- operations

abbrev pub nothing_read : NsName → Fields → Read Done
nothing_read ns fs = there (codes "o") (lookup (codes "o") fs) >>= λ v. Ok (ns, Nothing)

abbrev pub insert_read : NsName → Fields → Read Done
insert_read ns fs = do
  o ← field document_in (codes "o") fs
  _ ← id_of (codes "o") o
  Ok (ns, Put o)

abbrev pub delete_read : NsName → Fields → Read Done
delete_read ns fs = do
  o ← field document_in (codes "o") fs
  id ← id_of (codes "o") o
  Ok (ns, Remove id)

abbrev pub updated_read : NsName → Fields → Read Done
updated_read ns fs = do
  o ← field document_in (codes "o") fs
  made ← update_of o
  o2 ← field document_in (codes "o2") fs
  id ← id_of (codes "o2") o2
  Ok (ns, made id)

-- o, and then the further fields
abbrev pub operation : (List ℕ → Value → Fields → Read Done) → List ℕ → NsName → Fields → Read Done
operation group op ns fs =
    if bytes_eq op (codes "n") then nothing_read ns fs
    else (if bytes_eq op (codes "i") then insert_read ns fs
    else (if bytes_eq op (codes "d") then delete_read ns fs
    else (if bytes_eq op (codes "u") then updated_read ns fs
    else (if bytes_eq op (codes "c") then (field document_in (codes "o") fs >>= λ o. command group ns.db o)
    else Err (UnknownOp op)))))

-- whether op is the string "n"
abbrev pub is_nothing : Read (List ℕ) → Bool
is_nothing (Ok op) = bytes_eq op (codes "n")
is_nothing (Err e) = false

-- the namespace that ns says: of an operation that does nothing it is a database alone
abbrev pub namespace : Bool → List ℕ → Read NsName
namespace nothing text = if nothing then Ok (named (before_first is_dot text) []) else good (codes "ns") (namespace_of text)

-- what is read at a timestamp
abbrev pub done_at : Ts → Done → Entry
done_at ts d = record { ts = ts; ns = d.0; action = d.1 }

abbrev pub read_at : (List ℕ → Value → Fields → Read Done) → Ts → Fields → Read Entry
read_at group ts fs = do
  text ← field text_in (codes "ns") fs
  ns ← namespace (is_nothing (field text_in (codes "op") fs)) text
  op ← field text_in (codes "op") fs
  done ← operation group op ns fs
  Ok (done_at ts done)

-- ---- groups, which have no groups in them

abbrev pub no_group : List ℕ → Value → Fields → Read Done
no_group db v fs = Ok (other db (codes "applyOps") v)

abbrev pub item : Ts → Value → Read Entry
item ts v = good (codes "applyOps") (document_in (out-Value v)) >>= λ fs. read_at no_group ts fs

abbrev pub items : Ts → List Value → Read (List Entry)
items ts vs = each (item ts) vs

abbrev pub is_true : Option Value → Bool
is_true None = false
is_true (Some v) = is_true_in (out-Value v)

-- a part of a transaction, or one that is prepared: an entry of another kind, which no replay acts on or reads further
abbrev pub is_partial : Fields → Bool
is_partial fs = is_true (lookup (codes "prepare") fs) || is_true (lookup (codes "partialTxn") fs)

abbrev pub group_of : Ts → List ℕ → Value → Fields → Read Done
group_of ts db v fs =
    if is_partial fs then Ok (other db (codes "applyOps") v)
    else (do
      vs ← good (codes "applyOps") (array_in (out-Value v))
      es ← items ts vs
      Ok (named db [], Group es))

-- the entry, or the first fault
abbrev pub entry_of : Fields → Read Entry
entry_of fs = do
  ts ← field stamp_in (codes "ts") fs
  read_at (group_of ts) ts fs

-- `ts` and the text of `ns`, or the first fault of the two
abbrev pub head_of : Fields → Read (Ts × List ℕ)
head_of fs = do
  ts ← field stamp_in (codes "ts") fs
  text ← field text_in (codes "ns") fs
  Ok (ts, text)
