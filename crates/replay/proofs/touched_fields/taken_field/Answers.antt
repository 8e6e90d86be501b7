use Rattle.std.proofs.Common.{arith}
use Rattle.replay.proofs.OneField.{only_one, only_takes}
use Rattle.replay.proofs.touched_fields.taken_field.Goals as goal

pub returns-in-len1 : goal.returns-in-len1
returns-in-len1 c =
    only_takes (λ n. n.now) c.taken_by.result c.args.touches.now c.touch-item.result (only_one c.args.touches.now c.touch-item.result (omega (arith, c.in-len1.len_at_least, c.in-len1.len_below)) c.touch-item.is) c.taken_by.ensures
