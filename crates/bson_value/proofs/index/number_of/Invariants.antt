use Rattle.std.proofs.Common.{◌≡◌, drop}
use Rattle.bson_value.specs.Digits.{read_on}
use Rattle.bson_value.proofs.index.number_of.Given as goal

abbrev pub invariant-loop-byte : goal.invariant-loop-byte
invariant-loop-byte l = read_on 0 l.bytes ≡ read_on l.number (drop l.byte-index l.bytes)
