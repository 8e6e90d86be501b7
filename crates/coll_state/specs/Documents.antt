-- Documents in the order of the keys of their _ids.
use Rattle.std.specs.Prelude.{⊤, ◌≡◌, ℕ, List, [], ◌∷◌, Option, Some, None, is_some, true}
use Rattle.std.specs.Ordering.{nat_cmp}
use Rattle.std.specs.Borrow.{Bor}
use Rattle.std.specs.FinMap as map
use Rattle.bson_value.specs.declared.value.Value.{Value, Object}
use Rattle.coll_state.specs.declared.collection.NumberedKey.{NumberedKey}
use Rattle.coll_state.specs.declared.collection.Record.{Record}
use Rattle.coll_state.specs.Rows.{Table, Rising, collection_of}
use Rattle.sorted_list.specs.Order.{Shelf, found}
use Rattle.coll_state.specs.Stock.{beside, no_of, rows_in}

-- the documents of a collection that is there, in the order of their keys
abbrev pub documents_by_key : Option Table → List Value
documents_by_key None = []
documents_by_key (Some t) = map.values (collection_of t).documents

-- the record under a number
abbrev pub under : List Record → ℕ → Option Record
under rs n = found (beside nat_cmp no_of n) rs

abbrev pub put_value : Option Record → List Value → List Value
put_value None vs = vs
put_value (Some r) vs = Object r.document ∷ vs

-- all records, where there is a collection
abbrev pub records_in : Option (Bor (Shelf Record)) → List Record
records_in None = []
records_in (Some r) = r.now.items

-- the documents under these numbers
abbrev pub values_under : List NumberedKey → List Record → List Value
values_under [] rs = []
values_under (e ∷ es) rs = put_value (under rs e.no) (values_under es rs)

abbrev pub AllThere : List NumberedKey → List Record → Type 0
AllThere [] rs = ⊤
AllThere (e ∷ es) rs = (is_some (under rs e.no) ≡ true) × AllThere es rs

-- what holds of numbers that are still to come, and of all records
pub record AreNumbered (es : List NumberedKey) (rs : List Record) : Type 0 where
  pub rising : Rising 0 (rows_in rs)
  pub there : AllThere es rs
