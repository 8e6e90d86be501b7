use Rattle.std.proofs.Common.{length}
use Rattle.byte_order.proofs.+order_by_bytes.Given as goal

abbrev pub decreases-order_by_bytes : goal.decreases-order_by_bytes
decreases-order_by_bytes l = length l.a.now
