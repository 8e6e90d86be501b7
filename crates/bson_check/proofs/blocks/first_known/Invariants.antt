use Rattle.std.proofs.Common.{◌≤◌, ℕ, List, length, Contains}
use Rattle.bson_check.specs.Passing.{Path}
use Rattle.bson_check.specs.Blocks.{IsEnd, name_at, starts, Known, Way}
use Rattle.bson_check.proofs.blocks.first_known.Given as goal

abbrev pub invariant-names : goal.invariant-names
invariant-names l = record {
  end : IsEnd l.body l.rest;
  fits : length l.rest ≤ length l.from;
  none : (ns : List (List ℕ)) → (to : List ℕ) → Path ns l.from to → length to ≤ l.stop → (w : Way ns l.from l.rest to) × ((k : ℕ) → Contains (starts w.gone l.from) k → Known l.body l.block (name_at l.body k) k → ⊥);
}

abbrev pub decreases-names : goal.decreases-names
decreases-names l = length l.rest
