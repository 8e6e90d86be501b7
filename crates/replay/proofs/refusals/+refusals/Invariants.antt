use Rattle.std.proofs.Common.{◌≡◌, map, drop}
use Rattle.replay.specs.Refusals.{first, first_refused}
use Rattle.replay.proofs.refusals.+refusals.Given as goal

abbrev pub invariant-check_all-loop-entry : goal.invariant-check_all-loop-entry
invariant-check_all-loop-entry l = first (map first_refused l.entries) ≡ first (map first_refused (drop l.entry-index l.entries))
