use Rattle.std.proofs.Common.{◌≡◌, drop}
use Rattle.restore_filter.specs.Names.{any_matches, text_of}
use Rattle.restore_filter.proofs.filter.any_matches.Given as goal

abbrev pub invariant-loop-pattern : goal.invariant-loop-pattern
invariant-loop-pattern l = any_matches (drop l.pattern-index l.patterns) (text_of l.ns) ≡ any_matches l.patterns (text_of l.ns)
