use Rattle.std.proofs.Common.{◌≡◌, drop}
use Rattle.restore_filter.specs.Names.{first_renamed}
use Rattle.restore_filter.specs.Rules.{HaveSameStars}
use Rattle.restore_filter.proofs.filter.first_renamed.Given as goal

abbrev pub invariant-loop-from : goal.invariant-loop-from
invariant-loop-from l = HaveSameStars (drop l.from-index l.renames) × (first_renamed (drop l.from-index l.renames) l.name ≡ first_renamed l.renames l.name)
