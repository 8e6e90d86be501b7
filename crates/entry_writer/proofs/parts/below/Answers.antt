use Rattle.entry_writer.proofs.Groups.{below_more}
use Rattle.entry_writer.proofs.parts.below.Goals as goal

pub loop-edit-preserved : goal.loop-edit-preserved
loop-edit-preserved c =
    below_more c.args.part.now c.args.edits.now c.loop-edit.edit-index c.edit-item.result _ _ c.loop-edit-test.true c.edit-item.is c.loop-edit.invariant c.in_ok-push_below.ensures
