use Rattle.std.proofs.Common.{◌≡◌}
use Rattle.std.specs.Prelude.{fold}
use Rattle.std.specs.FinMap as map
use Rattle.coll_state.specs.Changes.{described, fresh_table, under_names}
use Rattle.coll_state.specs.Definitions.{definition_name}
use Rattle.coll_state.proofs.tables.made_of.Given as goal

abbrev pub invariant-loop-definition : goal.invariant-loop-definition
invariant-loop-definition l = record {
  table : l.collection.table ≡ described l.fn.options l.collection.table.indexes (fresh_table l.incarnation l.fn.options);
  indexes : fold (λ m d. map.insert m (definition_name d) d) l.collection.table.indexes l.definition-iterator.rest.items ≡ under_names l.fn.definitions;
}
