use Rattle.entry_writer.specs.Levels.{path_field}
use Rattle.entry_writer.proofs.Bytes.{picked_put}
use Rattle.entry_writer.proofs.paths.put_paths.Goals as goal

pub loop-touch-preserved : goal.loop-touch-preserved
loop-touch-preserved c =
    picked_put (path_field c.args.sets) c.args.touches.now c.loop-touch.touch-index c.touch-item.result c.args.out.now.items c.loop-touch.out.items c.put_path.new.out.items
    c.loop-touch-test.true c.touch-item.is c.loop-touch.invariant c.in_ok-put_path.ensures
