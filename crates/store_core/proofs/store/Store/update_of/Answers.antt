use Rattle.store_core.proofs.Untouched.{one_effect}
use Rattle.store_core.proofs.store.Store.update_of.Goals as goal

pub returns-else-is_empty-clause-decided : goal.returns-else-is_empty-clause-decided
returns-else-is_empty-clause-decided c =
    one_effect c.equality_is_tested.ensures c.no_touches_no_change.ensures c.unchanged_is_untouched.ensures c.args.self.now c.args.ns.now c.args.id.now c.args.ops.now c.in_ok-after.after
    c.in_ok-after.ensures.decided.0 c.in_ok-after.ensures.decided.1 (λ t. let h = c.if-is_empty.ensures.1 t in cc)
