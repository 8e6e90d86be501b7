use Rattle.std.proofs.Common.{sym, arith}
use Rattle.bson_view.proofs.Bodies.{no_value}
use Rattle.bson_view.proofs.held.item_built.Goals as goal

pub returns-in-None : goal.returns-in-None
returns-in-None c = sym (no_value c.args.items.now _ _ c.in-None.ensures.none (omega (arith, c.len-count.ensures, c.len-count.type_inv)))
