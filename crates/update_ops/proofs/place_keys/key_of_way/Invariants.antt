use Rattle.std.proofs.Common.{◌≡◌, take}
use Rattle.doc_path.specs.Places.{keys}
use Rattle.update_ops.specs.Keys.{HaveNoZero}
use Rattle.update_ops.specs.PlaceKeys.{key_of_parts}
use Rattle.update_ops.proofs.place_keys.key_of_way.Given as goal

abbrev pub invariant-loop-part : goal.invariant-loop-part
invariant-loop-part l = record {
  text : l.text ≡ key_of_parts (take l.part-index l.way);
  clean : HaveNoZero (keys (take l.part-index l.way));
}
