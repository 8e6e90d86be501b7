use Rattle.bson_view.proofs.Meanings.{checked_value}
use Rattle.bson_view.proofs.elem.Elem.along.Goals as goal

pub returns-clause-spelled : goal.returns-clause-spelled
returns-clause-spelled c = checked_value c.loop-name.elem.tag c.loop-name.elem.value.now c.loop-name.elem.spelled
