use Rattle.std.proofs.Common.{rules}
use Rattle.bson_encode.proofs.Comparing.{more}
use Rattle.bson_encode.proofs.key.piece.Goals as goal

pub loop-byte-preserved : goal.loop-byte-preserved
loop-byte-preserved c = more c.args.so_far.order c.args.so_far.rest.now c.args.bytes.now c.loop-byte.byte-index _ (c.loop-byte.now.order, c.loop-byte.now.rest.now) _ c.loop-byte-test.true (search rules) c.loop-byte.invariant c.next-now.ensures
