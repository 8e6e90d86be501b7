use Rattle.std.proofs.Common.{◌≡◌, take}
use Rattle.delta_apply.specs.Touched.{touched_fields}
use Rattle.delta_apply.proofs.backup.copy_all_touched.Given as goal

abbrev pub invariant-loop-field : goal.invariant-loop-field
invariant-loop-field l = l.copies ≡ touched_fields l.touches (take l.field-index l.doc)
