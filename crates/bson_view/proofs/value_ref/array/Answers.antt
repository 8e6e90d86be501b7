use Rattle.bson_view.proofs.Bodies.{array_value}
use Rattle.bson_view.proofs.value_ref.array.Goals as goal

pub returns : goal.returns
returns c = array_value c.args.elem.now _ c.requires c.elements.ensures
