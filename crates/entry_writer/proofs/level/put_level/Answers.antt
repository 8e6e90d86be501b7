use Rattle.entry_writer.specs.Edits.{edit_in}
use Rattle.entry_writer.specs.Levels.{field_of}
use Rattle.entry_writer.proofs.Bytes.{picked_of_put}
use Rattle.entry_writer.proofs.level.put_level.Goals as goal

pub loop-edit-preserved : goal.loop-edit-preserved
loop-edit-preserved c =
    picked_of_put (field_of c.args.kind) edit_in c.args.edits.now c.loop-edit.edit-index c.edit-item.result c.args.out.now.items c.loop-edit.out.items c.put_field.new.out.items
    c.loop-edit-test.true c.edit-item.is c.loop-edit.invariant c.in_ok-put_field.ensures
