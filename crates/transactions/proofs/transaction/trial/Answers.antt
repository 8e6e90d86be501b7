use Rattle.transactions.proofs.Running.{taken_still}
use Rattle.transactions.proofs.transaction.trial.Goals as goal
use Rattle.kept_indexes.proofs.Told.{if_ok}

pub returns-clause-taken : goal.returns-clause-taken
returns-clause-taken c =
    if_ok c.run.result c.run.ensures.stay (λ a s. taken_still c.args.commands.now c.keep_all.new.indexes c.run.new.indexes c.args.state.now s c.in_ok-keep_all.ensures.taken)
