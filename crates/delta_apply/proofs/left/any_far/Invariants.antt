use Rattle.std.proofs.Common.{◌≡◌, drop}
use Rattle.doc_path.specs.Played.{any_far}
use Rattle.delta_apply.proofs.left.any_far.Given as goal

abbrev pub invariant-loop-part : goal.invariant-loop-part
invariant-loop-part l = any_far l.parts ≡ any_far (drop l.part-index l.parts)
