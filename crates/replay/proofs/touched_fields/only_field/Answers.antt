use Rattle.std.proofs.Common.{arith}
use Rattle.replay.proofs.OneField.{only_one, only_sets}
use Rattle.replay.proofs.touched_fields.only_field.Goals as goal

pub returns-in-len1 : goal.returns-in-len1
returns-in-len1 c =
    only_sets (λ f. f.0.now) (λ f. f.1.now) c.field_of.result c.args.touches.now c.touch-item.result (only_one c.args.touches.now c.touch-item.result (omega (arith, c.in-len1.len_at_least, c.in-len1.len_below)) c.touch-item.is) c.field_of.ensures
