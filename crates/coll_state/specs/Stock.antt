-- A collection as the code has it: record numbers by key, documents by record number, definitions by name.
use Rattle.std.specs.Prelude.{⊤, ◌≡◌, ◌<◌, ℕ, List, [], ◌∷◌, Option, option_map, map as each, refl}
use Rattle.std.specs.Coded.{Coded, code_by, coded×, coded_ℕ}
use Rattle.std.specs.declared.cmp.Ordering.{Ordering}
use Rattle.std.specs.declared.cmp.Ordering.TheVariants.{Less}
use Rattle.std.specs.FinMap as map
use Rattle.json_tree.specs.declared.tree.Tree.{Tree}
use Rattle.state_model.specs.Keys.{Key, key_cmp}
use Rattle.coll_state.specs.declared.collection.NumberedKey.{NumberedKey}
use Rattle.coll_state.specs.declared.collection.Record.{Record}
use Rattle.coll_state.specs.Rows.{Row, Table, row_of, key_in, id_of, Rising, last_no}
use Rattle.coll_state.specs.Codes.{table_code}
use Rattle.coll_state.specs.Definitions.{definition_name}
use Rattle.sorted_list.specs.Order.{found}

-- a collection, and how many documents more it has room for
pub record Stock : Type 0 where
  pub table : Table
  pub room : ℕ

abbrev pub stock_code : Coded Stock
stock_code = code_by (Table × ℕ) (coded× table_code coded_ℕ) (λ s. (s.table, s.room)) (λ p. record { table = p.0; room = p.1 }) (λ _. refl)

-- keys rise, by an order
abbrev pub AllAfter : {K T : Type 0} → (K → K → Ordering) → (T → K) → K → List T → Type 0
AllAfter R key k [] = ⊤
AllAfter R key k (x ∷ xs) = (R k (key x) ≡ Less) × AllAfter R key k xs

abbrev pub Rise : {K T : Type 0} → (K → K → Ordering) → (T → K) → List T → Type 0
Rise R key [] = ⊤
Rise R key (x ∷ xs) = AllAfter R key (key x) xs × Rise R key xs

-- the order of elements beside a key
abbrev pub beside : {K T : Type 0} → (K → K → Ordering) → (T → K) → K → T → Ordering
beside R key k x = R (key x) k

abbrev pub key_of_number : NumberedKey → Key
key_of_number e = e.key

abbrev pub number_of : List NumberedKey → Key → Option ℕ
number_of es k = option_map (λ (e : NumberedKey). e.no) (found (beside key_cmp key_of_number k) es)

abbrev pub row_in : Record → Row
row_in r = record { no = r.no; key = key_in (id_of r.document); document = r.document }

abbrev pub rows_in : List Record → List Row
rows_in rs = each row_in rs

abbrev pub no_of : Record → ℕ
no_of r = r.no

-- definitions under their names
abbrev pub named : List Tree → List (Key × Tree)
named [] = []
named (d ∷ ds) = (definition_name d, d) ∷ named ds

abbrev pub indexes_in : List Tree → map.FinMap key_cmp Tree
indexes_in ds = map.from_entries (named ds)

abbrev pub table_in : Tree → List Tree → ℕ → ℕ → List Record → Table
table_in options defs incarnation next records = record { options = options; indexes = indexes_in defs; incarnation = incarnation; next = next; rows = rows_in records }

-- the number of each row stands under its key
abbrev pub Covers : List NumberedKey → List Row → Type 0
Covers es rs = (k : Key) → number_of es k ≡ option_map (λ (r : Row). r.no) (row_of rs k)

-- what holds of the parts of a collection
pub record AreParts (defs : List Tree) (next : ℕ) (numbers : List NumberedKey) (records : List Record) : Type 0 where
  pub definitions : Rise key_cmp definition_name defs
  pub keys : Rise key_cmp key_of_number numbers
  pub covers : Covers numbers (rows_in records)
  pub rising : Rising 0 (rows_in records)
  pub next_above : last_no 0 (rows_in records) < next
