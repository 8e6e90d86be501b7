use Rattle.bson_view.proofs.OtherTypes.{no_str}
use Rattle.bson_view.proofs.value_ref.ValueRef.as_str.Goals as goal

pub returns-in_default : goal.returns-in_default
returns-in_default c = no_str c.args.self.now c.in_default.not-Str
