use Rattle.std.proofs.Common.{rules}
use Rattle.std.proofs.lemmas.Fn.{always_returns_same}
use Rattle.bson_check.proofs.Order.{start_order}
use Rattle.bson_check.proofs.table.sort.Goals as goal

pub returns-clause-sorted : goal.returns-clause-sorted
returns-clause-sorted c = c.sort_unstable_by.ensures.sorted _ (start_order c.args.body.now) (always_returns_same _ _ _ (λ a r f k. search rules))
