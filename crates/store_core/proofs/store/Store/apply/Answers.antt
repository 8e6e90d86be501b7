use Rattle.std.proofs.Common.{subst}
use Rattle.store_log.specs.Logged.{IsKept}
use Rattle.store_core.specs.Stores.{Stored}
use Rattle.store_core.proofs.Following.{applied_at}
use Rattle.store_core.proofs.store.Store.apply.Goals as goal

pub returns-clause-stage : goal.returns-clause-stage
returns-clause-stage c =
    applied_at c.keeps_the_longest_suffix.ensures c.oplog_is_kept.ensures.ring c.args.cmd.now c.args.self.now c.applied.new.self c.applied.result
    (subst (λ (s : Stored). IsKept s.log.newest s.log.ring s.log.recorded) c.self.view_is c.is_kept.ensures) c.applied.ensures
