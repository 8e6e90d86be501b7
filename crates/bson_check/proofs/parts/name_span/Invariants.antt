use Rattle.std.proofs.Common.{◌≡◌, ◌<◌, ◌==◌, take, drop, Contains}
use Rattle.std.specs.List.{position_from}
use Rattle.std.specs.Str.{IsAscii}
use Rattle.bson_check.proofs.parts.name_span.Given as goal

abbrev pub invariant-loop-at : goal.invariant-loop-at
invariant-loop-at l = record {
  place : position_from (λ b. b == 0) l.at (drop l.at l.bytes) ≡ position_from (λ b. b == 0) 0 l.bytes;
  ascii : l.seen < 128 → IsAscii (take l.at l.bytes);
  no_zero : Contains (take l.at l.bytes) 0 → ⊥;
}
