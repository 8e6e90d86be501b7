use Rattle.std.proofs.Common.{take}
use Rattle.transaction_indexes.specs.Following.{AreForgotten, OthersStay}
use Rattle.transaction_indexes.proofs.following.forget_all.Given as goal

abbrev pub invariant-loop-command : goal.invariant-loop-command
invariant-loop-command l = AreForgotten (take l.command-index l.commands) l.fn.indexes l.indexes × OthersStay l.commands l.fn.indexes l.indexes
