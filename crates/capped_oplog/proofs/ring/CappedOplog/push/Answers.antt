use Rattle.std.proofs.Common.{arith, ap, sym, ◌+◌, ◌-◌, ◌≡◌, ℕ, List, subst, length}
use Rattle.std.specs.Prelude.{None, nat_lt, slice_get, if◌then◌else◌}
use Rattle.capped_oplog.specs.Ring.{Ring, Entry, IsSound, IsLater}
use Rattle.capped_oplog.proofs.Rings.{total_fits, push_none, push_some, handed, handed_fits, same_cap}
use Rattle.capped_oplog.proofs.ring.CappedOplog.push.Goals as goal

pub overflow_add-self : goal.overflow_add-self
overflow_add-self c = record { fits = total_fits _ _ _ _ c.self.invariant c.len.type_inv }

pub overflow_sub-self : goal.overflow_sub-self
overflow_sub-self c =
    let later = subst (λ (es : List Entry). IsLater es c.args.ts) (sym (ap (λ r. r.entries) c.self.view_is)) c.requires in
    omega (arith, handed_fits c.self.inside.ring.items (c.args.ts, c.args.entry) _ _ _ c.self.invariant later (omega (arith, c.len.ensures, c.len.type_inv)) (ap (λ b. b.items) c.push_back-oldest.ensures.items) _ _ c.push_back-oldest.ensures.value c.in-Some.is, c.len.ensures, c.len-in-Some.ensures)

pub invariant_of-self : goal.invariant_of-self
invariant_of-self c =
    let later = subst (λ (es : List Entry). IsLater es c.args.ts) (sym (ap (λ r. r.entries) c.self.view_is)) c.requires in
    let s = push_some c.self.inside.ring.items (c.args.ts, c.args.entry) _ _ _ c.self.invariant later (omega (arith, c.len.ensures, c.len.type_inv)) (ap (λ b. b.items) c.push_back-oldest.ensures.items) _ _ c.push_back-oldest.ensures.value c.in-Some.is in
    let n : c.self.inside.total + length c.args.entry - length c.in-Some.bytes ≡ c.self.inside.total + c.len.result - c.len-in-Some.result = omega (arith, c.len.ensures, c.len-in-Some.ensures) in
    subst (λ (k : ℕ). IsSound c.push_back-oldest.new.self.items c.push_back-oldest.new.self.capacity k) n (same_cap _ _ _ _ (ap (λ b. b.capacity) c.push_back-oldest.ensures.items) s)

pub invariant_of-self-in_default : goal.invariant_of-self-in_default
invariant_of-self-in_default c =
    let later = subst (λ (es : List Entry). IsLater es c.args.ts) (sym (ap (λ r. r.entries) c.self.view_is)) c.requires in
    let s = push_none c.self.inside.ring.items (c.args.ts, c.args.entry) _ _ _ c.self.invariant later (omega (arith, c.len.ensures, c.len.type_inv)) (ap (λ b. b.items) c.push_back-oldest.ensures.items) _ c.push_back-oldest.ensures.value c.in_default.is in
    let n : c.self.inside.total + length c.args.entry ≡ c.self.inside.total + c.len.result = omega (arith, c.len.ensures) in
    subst (λ (k : ℕ). IsSound c.push_back-oldest.new.self.items c.push_back-oldest.new.self.capacity k) n (same_cap _ _ _ _ (ap (λ b. b.capacity) c.push_back-oldest.ensures.items) s)

pub returns-in-Some-clause-value : goal.returns-in-Some-clause-value
returns-in-Some-clause-value c =
    subst (λ (r : Ring). c.push_back-oldest.result ≡ (if nat_lt (length r.entries) r.cap then None else slice_get r.entries 0)) c.self.view_is (handed _ (c.args.ts, c.args.entry) _ _ _ c.self.invariant c.push_back-oldest.ensures.value)

pub returns-in_default-clause-value : goal.returns-in_default-clause-value
returns-in_default-clause-value c =
    subst (λ (r : Ring). c.push_back-oldest.result ≡ (if nat_lt (length r.entries) r.cap then None else slice_get r.entries 0)) c.self.view_is (handed _ (c.args.ts, c.args.entry) _ _ _ c.self.invariant c.push_back-oldest.ensures.value)
