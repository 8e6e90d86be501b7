use Rattle.std.proofs.Common.{◌<◌, take}
use Rattle.std.specs.Str.{IsAscii}
use Rattle.bson_check.proofs.parts.is_ascii.Given as goal

abbrev pub invariant-loop-byte : goal.invariant-loop-byte
invariant-loop-byte l = l.seen < 128 → IsAscii (take l.byte-index l.bytes)
