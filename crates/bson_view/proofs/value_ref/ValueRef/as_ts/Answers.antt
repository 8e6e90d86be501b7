use Rattle.bson_view.proofs.OtherTypes.{no_stamp}
use Rattle.bson_view.proofs.value_ref.ValueRef.as_ts.Goals as goal

pub returns-in_default : goal.returns-in_default
returns-in_default c = no_stamp c.args.self.now c.in_default.not-Stamp
