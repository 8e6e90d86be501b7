use Rattle.std.proofs.Common.{◌≡◌, length}
use Rattle.std.specs.Option.{option_copied}
use Rattle.index_build.specs.Holders.{holder_of, least_from, least_other}
use Rattle.index_build.proofs.holders.Holders.first_other.Given as goal

abbrev pub invariant-loop-key : goal.invariant-loop-key
invariant-loop-key l =
    least_from l.id (holder_of l.self.recent.items l.self.settled.items) (option_copied l.first) l.left
    ≡ least_other l.id (holder_of l.self.recent.items l.self.settled.items) l.keys

abbrev pub decreases-loop-key : goal.decreases-loop-key
decreases-loop-key l = length l.left
