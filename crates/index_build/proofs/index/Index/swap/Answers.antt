use Rattle.std.proofs.Common.{◌≡◌, sym, ap, ◌∙◌, true, Some, None, Option, subst}
use Rattle.state_model.specs.Keys.{Key}
use Rattle.index_build.specs.declared.entry.Entry.{Entry}
use Rattle.index_build.specs.Entries.{owned_in, put_or_removed, keys_of, keys_refusal, IsUnder}
use Rattle.index_build.specs.Owned.{Holding}
use Rattle.index_build.proofs.Swapped.{kept_swapped}
use Rattle.index_build.proofs.index.Index.swap.Goals as goal

under : (k : Key) (o : Option Entry) (e : Entry) → o ≡ Some e → IsUnder k o → e.key ≡ k
under k o e is h = subst (IsUnder k) is h

pub invariant_of-self : goal.invariant_of-self
invariant_of-self c =
    let inside = c.self.inside in
    let parts = c.into_parts-key.result in
    let ready = c.into_parts-key.ensures.ready in
    let unique : inside.plan.unique ≡ true → c.args.swap.unique ≡ true = λ u. c.requires.unique ∙ (sym (ap (λ (h : Holding). h.plan.unique) c.self.view_is) ∙ u) in
    let is : put_or_removed parts.0 (keys_of parts.1) (owned_in inside.entries.items) ≡ put_or_removed parts.0 (Some c.in-Some.entry.keys) (owned_in inside.entries.items) = ap (λ (o : Option Entry). put_or_removed parts.0 (keys_of o) (owned_in inside.entries.items)) c.in-Some.is in
    kept_swapped inside.plan inside.entries.items c.put.new.entries.items inside.holders.recent.items inside.holders.settled.items
    c.hand_over.new.holders.recent.items c.hand_over.new.holders.settled.items parts.2.items parts.0 (keys_of parts.1)
    c.self.invariant c.put.ensures.rise
    (c.put.ensures.owned ∙ (ap (λ (k : Key). put_or_removed k (Some c.in-Some.entry.keys) (owned_in inside.entries.items)) (under parts.0 parts.1 c.in-Some.entry c.in-Some.is ready.under) ∙ sym is))
    c.hand_over.ensures.rise
    (λ u. (λ i. keys_refusal (c.into_parts-key.ensures.key i) (sym (unique u) i) (c.into_parts-key.ensures.keys i) (ap (λ (h : Holding). h.owned) c.self.view_is i)) ∙ c.requires.free)
    (λ u. ready.holders (unique u))
    (λ u t. c.hand_over.ensures.holders (c.unique-unique.ensures ∙ u) t)

pub invariant_of-self-in-None : goal.invariant_of-self-in-None
invariant_of-self-in-None c =
    let inside = c.self.inside in
    let parts = c.into_parts-key.result in
    let ready = c.into_parts-key.ensures.ready in
    let unique : inside.plan.unique ≡ true → c.args.swap.unique ≡ true = λ u. c.requires.unique ∙ (sym (ap (λ (h : Holding). h.plan.unique) c.self.view_is) ∙ u) in
    let is : put_or_removed parts.0 (keys_of parts.1) (owned_in inside.entries.items) ≡ put_or_removed parts.0 None (owned_in inside.entries.items) = ap (λ (o : Option Entry). put_or_removed parts.0 (keys_of o) (owned_in inside.entries.items)) c.in-None.is in
    kept_swapped inside.plan inside.entries.items c.remove.new.entries.items inside.holders.recent.items inside.holders.settled.items
    c.hand_over.new.holders.recent.items c.hand_over.new.holders.settled.items parts.2.items parts.0 (keys_of parts.1)
    c.self.invariant c.remove.ensures.rise
    (c.remove.ensures.owned ∙ sym is)
    c.hand_over.ensures.rise
    (λ u. (λ i. keys_refusal (c.into_parts-key.ensures.key i) (sym (unique u) i) (c.into_parts-key.ensures.keys i) (ap (λ (h : Holding). h.owned) c.self.view_is i)) ∙ c.requires.free)
    (λ u. ready.holders (unique u))
    (λ u t. c.hand_over.ensures.holders (c.unique-unique.ensures ∙ u) t)
