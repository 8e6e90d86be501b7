use Rattle.std.proofs.Common.{rules}
use Rattle.bson_view.proofs.Bodies.{elem_items, elem_no_items}
use Rattle.bson_view.proofs.held.items_spelled.Goals as goal

pub returns-then-elem-eq4 : goal.returns-then-elem-eq4
returns-then-elem-eq4 c = elem_items c.args.elem.now _ (search rules) c.elements.ensures

pub returns-else-elem-eq4 : goal.returns-else-elem-eq4
returns-else-elem-eq4 c = elem_no_items c.args.elem.now (search rules)
