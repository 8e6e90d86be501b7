use Rattle.bson_view.proofs.OtherTypes.{no_object}
use Rattle.bson_view.proofs.value_ref.ValueRef.as_document.Goals as goal

pub returns-in_default : goal.returns-in_default
returns-in_default c = no_object c.args.self.now c.in_default.not-Object
