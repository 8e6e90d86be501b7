use Rattle.std.proofs.Common.{◌≡◌, ◌++◌, take}
use Rattle.ns_patterns.specs.Search.{whole}
use Rattle.ns_patterns.proofs.joined.Joined.strip_prefix.Given as goal

abbrev pub invariant-bytes : goal.invariant-bytes
invariant-bytes l = whole l.fn.self ≡ take l.byte-index l.text ++ whole l.rest
