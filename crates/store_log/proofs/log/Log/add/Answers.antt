use Rattle.std.proofs.Common.{◌<◌, sym, ap, subst, arith}
use Rattle.bson_value.specs.declared.value.Ts.{Ts}
use Rattle.bson_value.specs.Timestamp.{stamp_number}
use Rattle.store_log.specs.Logged.{Logged}
use Rattle.store_log.proofs.Newest.{all_earlier, next_is_later}
use Rattle.store_log.proofs.Kept.{kept_on}
use Rattle.store_log.proofs.log.Log.add.Goals as goal

pub put_entry-requires : goal.put_entry-requires
put_entry-requires c =
    (let same = ap (λ (l : Logged). l.recorded) c.self.view_is in
    let later = next_is_later c.self.inside.clock c.self.inside.newest (omega (arith, c.self.invariant.low, same, c.requires)) in
    all_earlier c.self.inside.oplog.entries c.self.inside.newest c.next_ts-ts.result c.self.invariant.last c.len-before.ensures.rising
    (subst (λ (ts : Ts). stamp_number c.self.inside.newest < stamp_number ts) (sym c.next_ts-ts.ensures) later))

pub invariant_of-self : goal.invariant_of-self
invariant_of-self c = kept_on c.self.inside.clock c.self.inside.recorded c.self.inside.newest c.next_ts-ts.result c.self.inside.oplog c.put_entry.new.oplog c.args.bytes c.self.invariant c.next_ts-ts.ensures c.put_entry.ensures
