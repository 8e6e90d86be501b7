use Rattle.std.proofs.Common.{arith, ap, sym, ◌-◌, ◌∙◌, ◌≡◌, ℕ, subst, length}
use Rattle.capped_oplog.specs.Ring.{IsSound}
use Rattle.capped_oplog.proofs.Rings.{trim_sound, same_cap}
use Rattle.capped_oplog.proofs.ring.CappedOplog.trim.Goals as goal

pub invariant_of-self : goal.invariant_of-self
invariant_of-self c =
    let s = trim_sound c.self.inside.ring.items _ _ _ (c.in-Some-oldest.field-0-0, c.in-Some-oldest.gone) c.self.invariant (ap (λ b. b.items) c.pop_front-oldest.ensures.items) (sym c.pop_front-oldest.ensures.value ∙ c.in-Some-oldest.is) in
    let n : c.self.inside.total - length c.in-Some-oldest.gone ≡ c.self.inside.total - c.len-in-Some-oldest.result = omega (arith, c.len-in-Some-oldest.ensures) in
    subst (λ (k : ℕ). IsSound c.pop_front-oldest.new.self.items c.pop_front-oldest.new.self.capacity k) n (same_cap _ _ _ _ (ap (λ b. b.capacity) c.pop_front-oldest.ensures.items) s)
