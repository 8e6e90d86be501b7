use Rattle.bson_view.proofs.OtherTypes.{no_long}
use Rattle.bson_view.proofs.value_ref.ValueRef.as_i64.Goals as goal

pub returns-in_default : goal.returns-in_default
returns-in_default c = no_long c.args.self.now c.in_default.not-Long
