use Rattle.replay.proofs.OneField.{unset_takes}
use Rattle.replay.proofs.touched_fields.taken_by.Goals as goal

pub returns-in-Unset : goal.returns-in-Unset
returns-in-Unset c = unset_takes (λ n. n.now) c.field_name.result c.args.touch.now c.in-Unset.place c.in-Unset.is c.field_name.ensures
