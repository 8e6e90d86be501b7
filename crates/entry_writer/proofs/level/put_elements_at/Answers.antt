use Rattle.entry_model.specs.Written.{set_at}
use Rattle.entry_writer.specs.Edits.{edit_in}
use Rattle.entry_writer.proofs.Bytes.{picked_of_put}
use Rattle.entry_writer.proofs.level.put_elements_at.Goals as goal

pub loop-edit-preserved : goal.loop-edit-preserved
loop-edit-preserved c =
    picked_of_put (λ e. set_at c.args.part.now e.0 e.1) edit_in c.args.edits.now c.loop-edit.edit-index c.edit-item.result c.args.out.now.items c.loop-edit.out.items c.put_element_at.new.out.items
    c.loop-edit-test.true c.edit-item.is c.loop-edit.invariant c.in_ok-put_element_at.ensures
