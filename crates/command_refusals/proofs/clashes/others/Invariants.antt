use Rattle.std.proofs.Common.{◌≡◌, take}
use Rattle.index_keys.specs.Definition.{plan_of}
use Rattle.index_build.specs.Counting.{held}
use Rattle.command_refusals.proofs.Shared.{apart_ones}
use Rattle.command_refusals.proofs.clashes.others.Given as goal

abbrev pub invariant-loop-doc : goal.invariant-loop-doc
invariant-loop-doc l = held l.left.items ≡ apart_ones (plan_of l.def) (held (take l.doc-index l.docs))
