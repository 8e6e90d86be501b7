use Rattle.std.proofs.Common.{take}
use Rattle.update_action.specs.Single.{AreWellFormedParts}
use Rattle.update_action.proofs.single.parts_are_well_formed.Given as goal

abbrev pub invariant-loop-part : goal.invariant-loop-part
invariant-loop-part l = AreWellFormedParts (take l.part-index l.parts)
