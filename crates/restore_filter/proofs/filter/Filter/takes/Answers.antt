use Rattle.restore_filter.proofs.Names.{taken_if, not_taken_if}
use Rattle.restore_filter.proofs.filter.Filter.takes.Goals as goal

pub returns-then-included : goal.returns-then-included
returns-then-included c =
    taken_if c.args.self.now c.args.ns.now _ c.self.view_is _ c.as_slice.ensures c.included.result c.any_matches.result c.included.ensures c.if-included.true c.any_matches.ensures

pub returns-else-included : goal.returns-else-included
returns-else-included c = not_taken_if c.args.self.now c.args.ns.now _ c.self.view_is c.included.result c.included.ensures c.if-included.false
