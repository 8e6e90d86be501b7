use Rattle.std.proofs.Common.{sym, subst}
use Rattle.update_ops.specs.KeyedValues.{Values, HavePlaces}
use Rattle.update_ops.proofs.Placed.{one_placed}
use Rattle.update_ops.proofs.keyed_values.KeyedValues.push.Goals as goal

pub invariant_of-self-2 : goal.invariant_of-self-2
invariant_of-self-2 c =
    let placed = one_placed c.self.inside.values c.self.inside.places c.insert.new.self c.args.value c.in_ok-key.key c.len.result c.in_ok-key.ensures c.in_ok-insert.ensures.updates.0 c.self.invariant in
    subst (λ (vs : Values). HavePlaces vs c.insert.new.self) (sym c.in_ok-push.ensures.ok) placed
