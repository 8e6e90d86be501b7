use Rattle.entry_writer.proofs.Groups.{grouped_more}
use Rattle.entry_writer.proofs.parts.by_part.Goals as goal

pub loop-edit-preserved : goal.loop-edit-preserved
loop-edit-preserved c =
    (grouped_more c.args.at c.args.edits.now c.loop-edit.edit-index c.edit-item.result _ _ c.loop-edit-test.true c.edit-item.is c.loop-edit.invariant.0 c.in_ok-add_edit.ensures.groups, c.in_ok-add_edit.ensures.index)
