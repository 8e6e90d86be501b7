-- Collections in record order: what a state of the code means.
use Rattle.std.specs.Prelude.{⊤, ℕ, zero, suc, ◌+◌, ◌≡◌, ◌<◌, ◌≤◌, List, [], ◌∷◌, codes, Option, Some, None, nat_lt, if◌then◌else◌}
use Rattle.std.specs.FinMap as map
use Rattle.containers.specs.Entries.{lookup}
use Rattle.bson_value.specs.declared.namespace.NsName.{NsName}
use Rattle.bson_value.specs.declared.value.Value.{Value, Object}
use Rattle.bson_value.specs.NamespaceOrder.{namespace_cmp}
use Rattle.bson_encode.specs.Key.{key_of}
use Rattle.json_tree.specs.declared.tree.Tree.{Tree}
use Rattle.state_model.specs.Keys.{Key, key_cmp, same_key}
use Rattle.state_model.specs.States.{State, Collection}

-- the fields of a document
abbrev pub Document : Type 0
Document = List (List ℕ × Value)

-- a document under its record number and its key
pub record Row : Type 0 where
  pub no : ℕ
  pub key : Key
  pub document : Document

-- a collection: its rows, in record order, and the number that the next row gets
pub record Table : Type 0 where
  pub options : Tree
  pub indexes : map.FinMap key_cmp Tree
  pub incarnation : ℕ
  pub next : ℕ
  pub rows : List Row

-- collections by name, and how many were made or put into so far; the count gives each incarnation once
pub record Rows : Type 0 where
  pub tables : map.FinMap namespace_cmp Table
  pub count : ℕ

-- the row of a key
abbrev pub row_of : List Row → Key → Option Row
row_of [] k = None
row_of (r ∷ rs) k = if same_key k r.key then Some r else row_of rs k

-- numbers rise in record order, and each key stands once
abbrev pub Rising : ℕ → List Row → Type 0
Rising low [] = ⊤
Rising low (r ∷ rs) = (low < r.no) × (row_of rs r.key ≡ None) × Rising r.no rs

abbrev pub last_no : ℕ → List Row → ℕ
last_no d [] = d
last_no d (r ∷ rs) = last_no r.no rs

-- what holds of a collection at every moment
abbrev pub IsSound : Table → Type 0
IsSound t = Rising 0 t.rows × (last_no 0 t.rows < t.next)

-- numbers rise, and each incarnation was given once
abbrev pub AreSound : Rows → Type 0
AreSound s = (n : NsName) (t : Table) → map.get s.tables n ≡ Some t → IsSound t × (t.next ≤ s.count + 1) × (t.incarnation < s.count)

-- the first so many rows behind a number
abbrev pub scan : ℕ → ℕ → List Row → List Row
scan at n [] = []
scan at zero (r ∷ rs) = []
scan at (suc n) (r ∷ rs) = if nat_lt at r.no then r ∷ scan at n rs else scan at (suc n) rs

-- the key of a document: that of its _id
abbrev pub key_in : Option Value → Key
key_in None = []
key_in (Some v) = key_of v

abbrev pub id_of : Document → Option Value
id_of d = lookup (codes "_id") d

-- the state without numbers and incarnations
abbrev pub documents_of : List Row → List (Key × Value)
documents_of [] = []
documents_of (r ∷ rs) = (r.key, Object r.document) ∷ documents_of rs

abbrev pub collection_of : Table → Collection
collection_of t = record { options = t.options; indexes = t.indexes; documents = map.from_entries (documents_of t.rows) }

abbrev pub collections_of : List (NsName × Table) → List (NsName × Collection)
collections_of [] = []
collections_of (e ∷ es) = (e.0, collection_of e.1) ∷ collections_of es

abbrev pub state_of : Rows → State
state_of s = map.from_entries (collections_of (map.entries s.tables))
