use Rattle.std.proofs.Common.{◌≡◌, List, ℕ, length}
use Rattle.state_model.specs.Keys.{key_cmp}
use Rattle.coll_state.specs.Stock.{Rise}
use Rattle.index_build.specs.Holders.{holder_key, holder_of}
use Rattle.index_build.proofs.holders.Holders.settle.Given as goal

abbrev pub invariant-loop-self : goal.invariant-loop-self
invariant-loop-self l =
    Rise key_cmp holder_key l.self.settled.items
    × ((t : List ℕ) → holder_of l.self.recent.items l.self.settled.items t ≡ holder_of l.initial.self.recent.items l.initial.self.settled.items t)

abbrev pub decreases-loop-self : goal.decreases-loop-self
decreases-loop-self l = length l.self.recent.items
