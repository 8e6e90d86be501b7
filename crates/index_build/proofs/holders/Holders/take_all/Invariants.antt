use Rattle.std.proofs.Common.{◌≡◌, ◌≤◌, List, ℕ, length, None}
use Rattle.std.specs.Prelude.{if◌then◌else◌}
use Rattle.state_model.specs.Keys.{key_cmp}
use Rattle.coll_state.specs.Stock.{Rise}
use Rattle.index_build.specs.Holders.{holder_key, holder_of}
use Rattle.index_build.specs.Owners.{has}
use Rattle.index_build.proofs.holders.Holders.take_all.Given as goal

abbrev pub invariant-loop-key : goal.invariant-loop-key
invariant-loop-key l =
    Rise key_cmp holder_key l.self.settled.items
    × (l.initial.self.recent.room ≤ l.self.recent.room)
    × ((t : List ℕ) → (if has t l.left then None else holder_of l.self.recent.items l.self.settled.items t) ≡ (if has t l.keys then None else holder_of l.initial.self.recent.items l.initial.self.settled.items t))

abbrev pub decreases-loop-key : goal.decreases-loop-key
decreases-loop-key l = length l.left
