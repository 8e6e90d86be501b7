use Rattle.bson_value.proofs.Unordered.{answer_object}
use Rattle.std.proofs.Common.{refl}
use Rattle.bson_value.proofs.order.same_up_to_order.Goals as goal

pub returns : goal.returns
returns c = answer_object _ _ c.args.a.now c.args.b.now c.alike_fields.result refl refl c.alike_fields.ensures
