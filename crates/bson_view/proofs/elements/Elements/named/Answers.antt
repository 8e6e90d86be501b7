use Rattle.bson_view.proofs.Meanings.{checked_value}
use Rattle.bson_view.proofs.elements.Elements.named.Goals as goal

pub returns-then-eq-clause-spelled : goal.returns-then-eq-clause-spelled
returns-then-eq-clause-spelled c = checked_value c.in-Some.elem.tag c.in-Some.elem.value.now c.in-Some.elem.spelled
