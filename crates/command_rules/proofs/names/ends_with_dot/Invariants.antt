use Rattle.std.proofs.Common.{◌≡◌, length}
use Rattle.history_model.specs.Documents.{ends_with_dot}
use Rattle.command_rules.proofs.names.ends_with_dot.Given as goal

abbrev pub invariant-bytes : goal.invariant-bytes
invariant-bytes l = ends_with_dot l.initial.left ≡ ends_with_dot l.left

abbrev pub decreases-bytes : goal.decreases-bytes
decreases-bytes l = length l.left
