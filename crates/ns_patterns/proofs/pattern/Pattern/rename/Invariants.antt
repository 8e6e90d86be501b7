use denote.Shadow.{shadow}
use denote.Text.{Utf8}
use Rattle.ns_patterns.proofs.Renaming.{Going}
use Rattle.ns_patterns.proofs.pattern.Pattern.rename.Given as goal

abbrev pub invariant-stars : goal.invariant-stars
invariant-stars l = shadow (Utf8 l.rest) × Going l.fn.from l.fn.to l.fn.name l.new l.rest l.i
