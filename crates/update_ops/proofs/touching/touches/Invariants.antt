use Rattle.std.proofs.Common.{◌≡◌, map, take}
use Rattle.bson_value.specs.declared.value.Value.{Object}
use Rattle.update_model.specs.Touched.{touch_of}
use Rattle.update_ops.specs.PlaceKeys.{HasSeen}
use Rattle.update_ops.proofs.Touches.{found}
use Rattle.update_ops.proofs.touching.touches.Given as goal

abbrev pub invariant-loop-mark : goal.invariant-loop-mark
invariant-loop-mark l = record {
  touches : l.touches ≡ map (touch_of (Object l.doc)) (found l.marks (take l.mark-index l.marks));
  seen : HasSeen l.seen.keys (found l.marks (take l.mark-index l.marks));
}
