use Rattle.std.proofs.Common.{drop}
use Rattle.update_ops.specs.Ends.{IsLeft}
use Rattle.update_ops.proofs.updating.update_own.Given as goal

abbrev pub invariant-loop-operator : goal.invariant-loop-operator
invariant-loop-operator l = IsLeft l.operator-items (drop l.operator-index l.operator-items) l.fn.doc l.draft
