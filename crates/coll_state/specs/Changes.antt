-- What each call makes of the rows.
use Rattle.std.specs.Prelude.{ℕ, suc, ◌+◌, List, [], ◌∷◌, fold, not, Bool, Option, Some, None, option_map, false, if◌then◌else◌}
use Rattle.std.specs.FinMap as map
use Rattle.bson_value.specs.declared.namespace.NsName.{NsName}
use Rattle.bson_value.specs.NamespaceOrder.{namespace_cmp}
use Rattle.json_tree.specs.declared.tree.Tree.{Tree}
use Rattle.state_model.specs.Keys.{Key, key_cmp, same_key}
use Rattle.state_model.specs.States.{no_options}
use Rattle.coll_state.specs.Definitions.{definition_name}
use Rattle.coll_state.specs.Rows.{Document, Row, Table, Rows, row_of, key_in, id_of, scan}

-- a document that is there keeps its number, and a new one stands behind all others
abbrev pub put_row : ℕ → Key → Document → List Row → List Row
put_row next k d [] = record { no = next; key = k; document = d } ∷ []
put_row next k d (r ∷ rs) = if same_key k r.key then record { no = r.no; key = r.key; document = d } ∷ rs else r ∷ put_row next k d rs

abbrev pub drop_row : Key → List Row → List Row
drop_row k [] = []
drop_row k (r ∷ rs) = if same_key k r.key then rs else r ∷ drop_row k rs

-- a new document takes the next number
abbrev pub next_after : ℕ → Option Row → ℕ
next_after next None = suc next
next_after next (Some r) = next

abbrev pub put_table : Key → Document → Table → Table
put_table k d t = record t { next = next_after t.next (row_of t.rows k); rows = put_row t.next k d t.rows }

abbrev pub drop_table : Key → Table → Table
drop_table k t = record t { rows = drop_row k t.rows }

-- numbers begin at 1
abbrev pub fresh_table : ℕ → Tree → Table
fresh_table inc o = record { options = o; indexes = map.empty; incarnation = inc; next = 1; rows = [] }

abbrev pub with_incarnation : ℕ → Table → Table
with_incarnation inc t = record t { incarnation = inc }

abbrev pub or_fresh : ℕ → Option Table → Table
or_fresh inc None = fresh_table inc no_options
or_fresh inc (Some t) = t

abbrev pub no_rows : Rows
no_rows = record { tables = map.empty; count = 0 }

abbrev pub Tables : Type 0
Tables = map.FinMap namespace_cmp Table

-- a collection that is there is changed
abbrev pub on_found : (Table → Table) → NsName → Option Table → Tables → Tables
on_found g n None s = s
on_found g n (Some t) s = map.insert s n (g t)

abbrev pub on_there : (Table → Table) → NsName → Tables → Tables
on_there g n s = on_found g n (map.get s n) s

-- with these collections, and one call more counted
abbrev pub counted : Tables → Rows → Rows
counted ts s = record { tables = ts; count = s.count + 1 }

abbrev pub with_tables : Tables → Rows → Rows
with_tables ts s = record s { tables = ts }

-- a document under its key; a missing collection is made
abbrev pub put_under : NsName → Key → Document → Rows → Rows
put_under n k d s = counted (map.insert s.tables n (put_table k d (or_fresh s.count (map.get s.tables n)))) s

abbrev pub put : NsName → Document → Rows → Rows
put n d s = put_under n (key_in (id_of d)) d s

abbrev pub remove : NsName → Key → Rows → Rows
remove n k s = with_tables (on_there (drop_table k) n s.tables) s

abbrev pub create : NsName → Tree → Rows → Rows
create n o s = counted (map.insert s.tables n (fresh_table s.count o)) s

abbrev pub drop_ns : NsName → Rows → Rows
drop_ns n s = with_tables (map.remove s.tables n) s

abbrev pub drop_db : List ℕ → Rows → Rows
drop_db d s = with_tables (map.retain_keys s.tables (λ n. not (same_key n.db d))) s

-- the collection under its new name, with a new incarnation; rows keep their numbers
abbrev pub renamed_in : NsName → Option Table → NsName → ℕ → Tables → Tables
renamed_in from None to inc s = s
renamed_in from (Some t) to inc s = map.insert (map.remove s from) to (with_incarnation inc t)

abbrev pub rename : NsName → NsName → Rows → Rows
rename from to s = counted (renamed_in from (map.get s.tables from) to s.count s.tables) s

-- definitions
abbrev pub put_index : Key → Tree → Table → Table
put_index i d t = record t { indexes = map.insert t.indexes i d }

abbrev pub take_index : Key → Table → Table
take_index i t = record t { indexes = map.remove t.indexes i }

-- a definition under its name
abbrev pub add_index : NsName → Tree → Rows → Rows
add_index n d s = with_tables (on_there (put_index (definition_name d) d) n s.tables) s

abbrev pub drop_index : NsName → Key → Rows → Rows
drop_index n i s = with_tables (on_there (take_index i) n s.tables) s

-- definitions under their names: of two of one name the later
abbrev pub under_names : List Tree → map.FinMap key_cmp Tree
under_names ds = fold (λ m d. map.insert m (definition_name d) d) map.empty ds

-- other options and definitions; the documents stay
abbrev pub described : Tree → map.FinMap key_cmp Tree → Table → Table
described o defs t = record t { options = o; indexes = defs }

-- the options and the definitions of a collection; a missing one is made
abbrev pub describe : NsName → Tree → List Tree → Rows → Rows
describe n o ds s = counted (map.insert s.tables n (described o (under_names ds) (or_fresh s.count (map.get s.tables n)))) s

-- what stands in a state
abbrev pub document_of : Option Row → Option Document
document_of None = None
document_of (Some r) = Some r.document

abbrev pub document_in : Key → Option Table → Option Document
document_in k None = None
document_in k (Some t) = document_of (row_of t.rows k)

abbrev pub document_at : NsName → Key → Tables → Option Document
document_at n k s = document_in k (map.get s n)

-- the number under which a document stands
abbrev pub number_in : Key → Option Table → Option ℕ
number_in k None = None
number_in k (Some t) = option_map (λ r. r.no) (row_of t.rows k)

abbrev pub number_at : NsName → Key → Tables → Option ℕ
number_at n k s = number_in k (map.get s n)

abbrev pub rows_after : ℕ → ℕ → Option Table → List Row
rows_after number n None = []
rows_after number n (Some t) = scan number n t.rows

-- whether a collection has a definition of a name
abbrev pub has_index : Key → Option Table → Bool
has_index i None = false
has_index i (Some t) = map.contains_key t.indexes i
