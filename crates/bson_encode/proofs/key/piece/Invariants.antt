use Rattle.std.proofs.Common.{◌≡◌, take}
use Rattle.bson_encode.specs.Comparing.{behind}
use Rattle.bson_encode.proofs.key.piece.Given as goal

abbrev pub invariant-loop-byte : goal.invariant-loop-byte
invariant-loop-byte l = (l.now.order, l.now.rest.now) ≡ behind l.fn.so_far.order l.fn.so_far.rest.now (take l.byte-index l.bytes)
