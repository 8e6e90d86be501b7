use Rattle.std.proofs.Common.{◌≡◌, length}
use Rattle.command_refusals.specs.Collections.{is_among}
use Rattle.command_refusals.proofs.collection_rows.is_among.Given as goal

abbrev pub invariant-definitions : goal.invariant-definitions
invariant-definitions l = is_among l.name l.initial.left ≡ is_among l.name l.left

abbrev pub decreases-definitions : goal.decreases-definitions
decreases-definitions l = length l.left
