use Rattle.std.proofs.Common.{◌≡◌, ◌≤◌, ℕ, List, true, length}
use Rattle.bson_check.specs.Passing.{Path, has}
use Rattle.bson_check.specs.Slots.{IsMarked}
use Rattle.bson_check.specs.Sieve.{IsKept}
use Rattle.bson_check.proofs.Search.{Seen}
use Rattle.bson_check.proofs.repeats.in_slots.Given as goal

abbrev pub invariant-names : goal.invariant-names
invariant-names l = record {
  seen : (ns : List (List ℕ)) → (to : List ℕ) → Path ns l.body to → length to ≡ l.left → (s : Seen l.end l.body ns to l.rest) × ((n : List ℕ) → has n s.seen ≡ true → IsKept l.sieve.every l.sieve.factor l.sieve.words.now n → IsMarked l.words l.factor n);
  fits : length l.rest ≤ l.end;
}

abbrev pub decreases-names : goal.decreases-names
decreases-names l = length l.rest
