use Rattle.std.proofs.Common.{◌≡◌, take, true}
use Rattle.index_keys.specs.Definition.{all_known}
use Rattle.index_keys.proofs.plan.all_known.Given as goal

abbrev pub invariant-loop-entry : goal.invariant-loop-entry
invariant-loop-entry l = all_known (take l.entry-index l.entries) ≡ true
