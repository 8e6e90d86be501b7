use Rattle.std.proofs.Common.{◌≡◌, ◌+◌, ◌≤◌, ℕ, List, length, take}
use Rattle.bson_check.specs.Passing.{Path}
use Rattle.bson_check.specs.Blocks.{IsEnd, starts, Way}
use Rattle.bson_check.proofs.blocks.fill.Given as goal

abbrev pub invariant-names : goal.invariant-names
invariant-names l = record {
  end : (body : List ℕ) → IsEnd body l.from → IsEnd body l.rest;
  count : l.count ≤ length l.block;
  less : length l.rest + l.count ≤ length l.from;
  way : (ns : List (List ℕ)) → (to : List ℕ) → Path ns l.from to → length to ≡ l.left → (w : Way ns l.from l.rest to) × (starts w.gone l.from ≡ take l.count l.block);
}

abbrev pub decreases-names : goal.decreases-names
decreases-names l = length l.rest
