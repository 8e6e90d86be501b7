use Rattle.std.proofs.Common.{true}
use Rattle.bson_value.specs.declared.value.Value.{Bool as Truth}
use Rattle.entry_model.specs.Written.{path_of}
use Rattle.entry_writer.specs.Levels.{path_field}
use Rattle.std.proofs.lemmas.Result.{on_ok_weaker}
use Rattle.entry_writer.proofs.Bytes.{one_put}
use Rattle.entry_writer.proofs.FirstForm.{set_there, unset_there}
use Rattle.entry_writer.proofs.paths.put_path.Goals as goal

pub returns-then-sets : goal.returns-then-sets
returns-then-sets c =
    on_ok_weaker c.put_at_path.result
    (λ h. one_put c.args.out.now.items c.put_at_path.new.out.items (path_of c.in-Set.place) c.in-Set.value (path_field c.args.sets c.args.touch.now)
    (set_there c.args.sets c.args.touch.now c.in-Set.place c.in-Set.value _ c.in-Set.is c.if-sets.true c.put_at_path.ensures.some) h)
    c.put_at_path.ensures.field

pub returns-else-sets-2 : goal.returns-else-sets-2
returns-else-sets-2 c =
    on_ok_weaker c.put_at_path-else-sets-2.result
    (λ h. one_put c.args.out.now.items c.put_at_path-else-sets-2.new.out.items (path_of c.in-Unset.place) (Truth true) (path_field c.args.sets c.args.touch.now)
    (unset_there c.args.sets c.args.touch.now c.in-Unset.place c.in-Unset.is c.if-sets-2.false c.put_at_path-else-sets-2.ensures.some) h)
    c.put_at_path-else-sets-2.ensures.field
