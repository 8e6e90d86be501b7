use Rattle.std.proofs.Common.{sym, ap, ◌∙◌}
use Rattle.std.specs.FinMap as map
use Rattle.coll_state.specs.Stock.{Stock}
use Rattle.coll_state.proofs.Parts.{values_named, keys_named}
use Rattle.coll_state.proofs.collection.Collection.indexes.Goals as goal

pub returns-clause-definitions : goal.returns-clause-definitions
returns-clause-definitions c = values_named c.self.inside.indexes c.self.invariant.definitions ∙ ap (λ (s : Stock). map.values s.table.indexes) c.self.view_is

pub returns-clause-names : goal.returns-clause-names
returns-clause-names c = sym (ap (λ (s : Stock). map.keys s.table.indexes) c.self.view_is) ∙ keys_named c.self.inside.indexes c.self.invariant.definitions
