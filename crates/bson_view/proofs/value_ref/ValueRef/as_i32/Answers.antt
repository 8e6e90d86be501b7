use Rattle.bson_view.proofs.OtherTypes.{no_int}
use Rattle.bson_view.proofs.value_ref.ValueRef.as_i32.Goals as goal

pub returns-in_default : goal.returns-in_default
returns-in_default c = no_int c.args.self.now c.in_default.not-Int
