use Rattle.std.proofs.Common.{◌≡◌, ◌≤◌, List, ℕ, length}
use Rattle.index_build.specs.Faults.{or_else}
use Rattle.index_build.specs.Holders.{found_key, id_in, holder_of}
use Rattle.index_build.proofs.holders.Holders.give_all.Given as goal

abbrev pub invariant-loop-holder : goal.invariant-loop-holder
invariant-loop-holder l =
    (l.self.settled ≡ l.initial.self.settled)
    × (length l.holder-iterator.rest.items ≤ l.self.recent.room)
    × ((t : List ℕ) → or_else (holder_of l.self.recent.items l.self.settled.items t) (id_in (found_key t l.holder-iterator.rest.items)) ≡ or_else (holder_of l.initial.self.recent.items l.initial.self.settled.items t) (id_in (found_key t l.fn.holders.items)))
