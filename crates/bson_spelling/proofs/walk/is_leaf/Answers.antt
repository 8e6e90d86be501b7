use Rattle.std.proofs.Common.{rules}
use Rattle.bson_view.specs.Views.{elem_value}
use Rattle.bson_spelling.proofs.Frames.{leaf_is}
use Rattle.bson_spelling.proofs.walk.is_leaf.Goals as goal

pub returns : goal.returns
returns c = λ n y. leaf_is c.args.elem.now.tag c.args.elem.now.value.now (elem_value c.args.elem.now) n c.spells.ensures.spelled c.spells.ensures.leaf (search rules) (search rules) (search rules)
