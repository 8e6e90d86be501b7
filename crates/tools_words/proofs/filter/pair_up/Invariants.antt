use Rattle.std.proofs.Common.{◌≡◌, ◌++◌}
use Rattle.std.specs.List.{zip}
use Rattle.tools_words.proofs.filter.pair_up.Given as goal

abbrev pub invariant-pairs : goal.invariant-pairs
invariant-pairs l = l.pairs.items ++ zip l.source-iterator.rest.items l.targets.rest.items ≡ zip l.fn.from l.fn.to
