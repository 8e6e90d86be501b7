use Rattle.store_core.proofs.Following.{checked_at}
use Rattle.store_core.proofs.store.Store.check.Goals as goal

pub returns-clause-stage : goal.returns-clause-stage
returns-clause-stage c = checked_at c.args.cmd.now c.args.self.now c.checked.result c.checked.ensures
