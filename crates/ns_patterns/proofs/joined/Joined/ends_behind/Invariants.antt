use Rattle.std.proofs.Common.{◌≡◌, length}
use Rattle.ns_patterns.specs.Search.{whole}
use Rattle.ns_patterns.proofs.Search.{Passed}
use Rattle.ns_patterns.proofs.joined.Joined.ends_behind.Given as goal

abbrev pub invariant-places : goal.invariant-places
invariant-places l = Passed (λ v. v ≡ l.text) (whole l.fn.self) (whole l.rest)

abbrev pub decreases-places : goal.decreases-places
decreases-places l = length (whole l.rest)
