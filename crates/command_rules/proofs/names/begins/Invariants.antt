use Rattle.std.proofs.Common.{◌≡◌, length}
use Rattle.history_model.specs.Documents.{begins}
use Rattle.command_rules.proofs.names.begins.Given as goal

abbrev pub invariant-bytes : goal.invariant-bytes
invariant-bytes l = begins l.initial.front l.initial.text ≡ begins l.front l.text

abbrev pub decreases-bytes : goal.decreases-bytes
decreases-bytes l = length l.front
