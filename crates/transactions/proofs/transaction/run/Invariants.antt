use Rattle.bson_value.specs.declared.namespace.NsName.{NsName}
use Rattle.command_refusals.specs.Keyed.{AreKeyed}
use Rattle.transaction_indexes.specs.Following.{NoneNames, OthersStay, StayKept}
use Rattle.transaction_indexes.specs.Reversal.{NoneOf}
use Rattle.transactions.proofs.Running.{IsRunning}
use Rattle.transactions.proofs.transaction.run.Given as goal

abbrev pub invariant-loop-command : goal.invariant-loop-command
invariant-loop-command l =
    IsRunning l.ts l.form l.commands l.command-index l.state l.rows l.indexes l.changes l.entries
    × AreKeyed l.rows
    × OthersStay l.commands l.fn.indexes l.indexes
    × ((n : NsName) → NoneNames l.commands n → NoneOf l.changes n)
    × StayKept l.fn.indexes l.indexes
