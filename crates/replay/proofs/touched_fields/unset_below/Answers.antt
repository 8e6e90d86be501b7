use Rattle.replay.proofs.FieldBelow.{unset_changes}
use Rattle.replay.proofs.touched_fields.unset_below.Goals as goal

pub returns-in-Unset : goal.returns-in-Unset
returns-in-Unset c = unset_changes (λ n. n.0.now) (λ n. n.1.now) c.two_names.result c.args.touch.now c.in-Unset.place c.in-Unset.is c.two_names.ensures
