use Rattle.std.proofs.Common.{◌∙◌}
use Rattle.bson_encode.proofs.Grammar.{tag_is}
use Rattle.bson_view.proofs.Leaves.{leaf_spelled_once}
use Rattle.bson_view.proofs.Meanings.{checked_value}
use Rattle.bson_view.proofs.elem.Elem.spells.Goals as goal

pub returns-clause-spelled : goal.returns-clause-spelled
returns-clause-spelled c = let e = c.args.self.now in checked_value e.tag e.value.now e.spelled

pub returns-clause-tag : goal.returns-clause-tag
returns-clause-tag c = let e = c.args.self.now in (checked_value e.tag e.value.now e.spelled).kind ∙ tag_is _

pub returns-clause-leaf : goal.returns-clause-leaf
returns-clause-leaf c = λ l. let e = c.args.self.now in leaf_spelled_once e.tag e.value.now _ c.are_bytes.ensures (checked_value e.tag e.value.now e.spelled) l
