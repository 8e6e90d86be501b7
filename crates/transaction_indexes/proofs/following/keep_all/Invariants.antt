use Rattle.std.proofs.Common.{take}
use Rattle.kept_indexes.specs.Kept.{AreKept}
use Rattle.transaction_indexes.specs.Following.{HaveIndexes, OthersStay}
use Rattle.transaction_indexes.proofs.following.keep_all.Given as goal

abbrev pub invariant-loop-command : goal.invariant-loop-command
invariant-loop-command l = AreKept l.indexes l.state × HaveIndexes (take l.command-index l.commands) l.indexes l.state × OthersStay l.commands l.fn.indexes l.indexes
