use Rattle.std.proofs.Common.{None, refl, ◌∙◌}
use Rattle.index_build.proofs.Swapped.{kept_swapped}
use Rattle.index_build.proofs.index.Index.take_out.Goals as goal

pub invariant_of-self : goal.invariant_of-self
invariant_of-self c =
    let inside = c.self.inside in
    kept_swapped inside.plan inside.entries.items c.remove.new.entries.items inside.holders.recent.items inside.holders.settled.items
    c.hand_over.new.holders.recent.items c.hand_over.new.holders.settled.items _ c.in_ok-key.key None
    c.self.invariant c.remove.ensures.rise c.remove.ensures.owned c.hand_over.ensures.rise (λ u. refl) (λ u. c.new-none.ensures.items)
    (λ u t. c.hand_over.ensures.holders (c.unique-unique.ensures ∙ u) t)
