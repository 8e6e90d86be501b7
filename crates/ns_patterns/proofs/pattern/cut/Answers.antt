use Rattle.ns_patterns.proofs.Renaming.{split_at}
use Rattle.ns_patterns.proofs.pattern.cut.Goals as goal

pub returns-else-is_last : goal.returns-else-is_last
returns-else-is_last c = split_at c.args.literal.now c.args.rest.now c.args.is_last c.split_once.result c.if-is_last.false c.split_once.ensures.cases
