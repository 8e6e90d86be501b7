use Rattle.ns_patterns.proofs.Search.{ends_early, differs_here}
use Rattle.ns_patterns.proofs.joined.Joined.strip_prefix.Goals as goal

pub returns-in_default : goal.returns-in_default
returns-in_default c = ends_early _ c.args.text.now _ c.bytes.byte-index c.bytes.invariant c.in_default.ensures c.bytes-test.true

pub returns-then-first-byte : goal.returns-then-first-byte
returns-then-first-byte c = differs_here _ c.args.text.now _ _ c.bytes.byte-index c.in-Some.first c.bytes.invariant c.in-Some.ensures c.bytes-test.true c.if-first-byte.true
