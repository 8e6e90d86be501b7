use Rattle.std.proofs.Common.{length}
use Rattle.std.specs.Str.Iter.{chars_rest}
use Rattle.ns_patterns.specs.Literals.{literals_of, literals_from}
use Rattle.ns_patterns.proofs.Reading.{Left}
use Rattle.ns_patterns.proofs.pattern.Pattern.parse.Given as goal

abbrev pub invariant-chars : goal.invariant-chars
invariant-chars l = Left (literals_of l.text) l.behind l.literal (literals_from l.escaped (chars_rest l.chars))

abbrev pub decreases-chars : goal.decreases-chars
decreases-chars l = length (chars_rest l.chars)
