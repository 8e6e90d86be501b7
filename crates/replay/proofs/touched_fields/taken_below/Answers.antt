use Rattle.std.proofs.Common.{arith}
use Rattle.spliced_documents.specs.Splicing.{IsCutBelow}
use Rattle.replay.proofs.FieldBelow.{only_changes}
use Rattle.replay.proofs.OneField.{only_one}
use Rattle.replay.proofs.touched_fields.taken_below.Goals as goal

pub returns-in-len1 : goal.returns-in-len1
returns-in-len1 c =
    only_changes (λ f. IsCutBelow f.0.now f.1.now) c.unset_below.result c.args.touches.now c.touch-item.result (only_one c.args.touches.now c.touch-item.result (omega (arith, c.in-len1.len_at_least, c.in-len1.len_below)) c.touch-item.is) c.unset_below.ensures
