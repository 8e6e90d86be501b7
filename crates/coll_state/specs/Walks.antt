-- What walks over a state have still to give.
use Rattle.std.specs.Prelude.{ℕ, List, map, take}
use Rattle.bson_value.specs.declared.namespace.NsName.{NsName}
use Rattle.bson_view.specs.declared.held.Held.{Held}
use Rattle.coll_state.specs.declared.walks.After.{After}
use Rattle.coll_state.specs.declared.walks.Namespaces.{Namespaces}
use Rattle.coll_state.specs.Kept.{Look, shown, shown_in}
use Rattle.coll_state.specs.Rows.{Document, Row}
use Rattle.coll_state.specs.Stock.{rows_in}

-- the names
abbrev pub names_left : Namespaces → List NsName
names_left n = n.names

-- record numbers, and documents as a look shows them
abbrev pub looks : List Row → List (ℕ × (Document × Look))
looks rs = map (λ r. (r.no, shown r.document)) rs

abbrev pub looks_left : After → List (ℕ × (Document × Look))
looks_left a = looks (rows_in (take a.left a.records))

abbrev pub item_of : ℕ × Held → ℕ × (Document × Look)
item_of p = (p.0, shown_in p.1)
