use Rattle.bson_view.proofs.OtherTypes.{no_bool}
use Rattle.bson_view.proofs.value_ref.ValueRef.as_bool.Goals as goal

pub returns-in_default : goal.returns-in_default
returns-in_default c = no_bool c.args.self.now c.in_default.not-Bool
