use Rattle.std.proofs.Common.{◌≡◌, ℕ, List, length}
use Rattle.bson_check.specs.Passing.{Path}
use Rattle.bson_check.specs.Blocks.{Way}
use Rattle.bson_check.specs.Slots.{IsMarked}
use Rattle.bson_check.specs.Sieve.{IsKept}
use Rattle.bson_check.proofs.Sifting.{Sifted}
use Rattle.bson_check.proofs.sieve.sift.Given as goal

abbrev pub invariant-names : goal.invariant-names
invariant-names l = (ns : List (List ℕ)) → (to : List ℕ) → Path ns l.body to → length to ≡ l.left
    → (w : Way ns l.body l.rest to) × Sifted (IsKept l.sieve.every l.sieve.factor l.sieve.words.now) (IsMarked l.words l.factor) (IsMarked l.marks l.next) w.gone

abbrev pub decreases-names : goal.decreases-names
decreases-names l = length l.rest
