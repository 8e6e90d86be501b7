use Rattle.std.proofs.Common.{◌≡◌, take}
use Rattle.index_build.specs.Counting.{held}
use Rattle.command_refusals.specs.Tests.{some_clash, some_parallel}
use Rattle.command_refusals.proofs.index_tests.test_all.Given as goal

abbrev pub invariant-loop-def : goal.invariant-loop-def
invariant-loop-def l = (l.clash ≡ some_clash (take l.def-index l.defs) (held l.docs)) × (l.parallel ≡ some_parallel (take l.def-index l.defs) (held l.docs))
