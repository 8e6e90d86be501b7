use Rattle.std.proofs.Common.{◌≡◌}
use Rattle.tools_words.specs.Patterns.{patterns_of}
use Rattle.tools_words.proofs.filter.patterns_of.Given as goal

abbrev pub invariant-loop-next : goal.invariant-loop-next
invariant-loop-next l = l.patterns ≡ patterns_of l.yielded
