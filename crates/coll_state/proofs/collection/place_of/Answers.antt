use Rattle.std.proofs.Common.{rules}
use Rattle.std.proofs.lemmas.Fn.{always_returns_same}
use Rattle.sorted_list.proofs.Order.{searched}
use Rattle.coll_state.proofs.Parts.{at_name, names_ordered}
use Rattle.coll_state.proofs.collection.place_of.Goals as goal

pub returns-clause-place : goal.returns-clause-place
returns-clause-place c = λ r.
    let facts = c.binary_search_by.ensures in
    searched (at_name c.args.name.now) c.args.defs.now c.binary_search_by.result (names_ordered c.args.defs.now c.args.name.now r) facts.bound
    (facts.position (at_name c.args.name.now) (always_returns_same _ _ _ (λ a r f called. (search rules, search rules))))
