use Rattle.std.proofs.Common.{◌↔◌, ◌++◌, ◌∷◌, [], drop}
use Rattle.ns_patterns.specs.Matches.{Matches}
use Rattle.ns_patterns.specs.Search.{whole}
use Rattle.ns_patterns.proofs.Leftmost.{Filled}
use Rattle.ns_patterns.proofs.pattern.Pattern.takes.Given as goal

abbrev pub invariant-literals : goal.invariant-literals
invariant-literals l = Matches l.fn.self (whole l.fn.name) ↔ Filled (drop l.literal-index l.inner ++ l.last ∷ []) (whole l.rest)
