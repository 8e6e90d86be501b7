use Rattle.std.proofs.Common.{◌≡◌, drop}
use Rattle.bson_check.specs.Slots.{hash_on}
use Rattle.bson_check.proofs.slots.slot.Given as goal

abbrev pub invariant-loop-byte : goal.invariant-loop-byte
invariant-loop-byte l = hash_on l.factor l.hash (drop l.byte-index l.name) ≡ hash_on l.factor 0 l.name
