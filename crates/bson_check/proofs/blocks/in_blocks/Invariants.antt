use Rattle.std.proofs.Common.{◌≡◌, ◌≤◌, ℕ, List, length, max}
use Rattle.bson_check.specs.Passing.{Path}
use Rattle.bson_check.specs.Blocks.{IsEnd}
use Rattle.bson_check.proofs.Starts.{Searched}
use Rattle.bson_check.proofs.blocks.in_blocks.Given as goal

abbrev pub invariant-parts : goal.invariant-parts
invariant-parts l = record {
  end : IsEnd l.body l.rest;
  fits : length l.rest ≤ length l.body;
  least : l.left ≤ l.stop;
  most : l.stop ≤ max l.left (length l.body);
  searched : (ns : List (List ℕ)) → (to : List ℕ) → Path ns l.body to → length to ≡ l.left → Searched l.body l.left ns l.rest to l.stop;
}

abbrev pub decreases-parts : goal.decreases-parts
decreases-parts l = length l.rest
