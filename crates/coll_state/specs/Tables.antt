-- The collections of a state, as the code has them.
use Rattle.std.specs.Prelude.{List, [], ◌∷◌, Option}
use Rattle.std.specs.BTreeMap.{BTreeMap, is_at}
use Rattle.std.specs.Map.{lookup}
use Rattle.std.specs.FinMap as map
use Rattle.bson_value.specs.declared.namespace.NsName.{NsName}
use Rattle.bson_value.specs.NamespaceOrder.{namespace_cmp}
use Rattle.coll_state.specs.Rows.{Table}
use Rattle.coll_state.specs.Stock.{Stock}

abbrev pub Stocks : Type 0
Stocks = BTreeMap NsName Stock

abbrev pub named_tables : List (NsName × Stock) → List (NsName × Table)
named_tables [] = []
named_tables (e ∷ es) = (e.0, e.1.table) ∷ named_tables es

abbrev pub tables_in : Stocks → map.FinMap namespace_cmp Table
tables_in m = map.from_entries (named_tables m.entries)

-- the collection of a name
abbrev pub stock_at : Stocks → NsName → Option Stock
stock_at m n = lookup (is_at (namespace_cmp n)) m.entries
