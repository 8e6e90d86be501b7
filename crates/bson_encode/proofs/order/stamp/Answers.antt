use Rattle.std.proofs.Common.{sym, ◌∙◌}
use Rattle.std.specs.Int.{w32, to_le_bytes}
use Rattle.bson_encode.proofs.Leading.{leads_differ}
use Rattle.bson_encode.proofs.order.stamp.Goals as goal

pub returns-then-is_ne : goal.returns-then-is_ne
returns-then-is_ne c =
    leads_differ (to_le_bytes w32 c.args.a.inc) (to_le_bytes w32 c.args.b.inc) (to_le_bytes w32 c.args.a.secs) (to_le_bytes w32 c.args.b.secs) c.word-order.result (sym c.is_ne.ensures ∙ c.if-is_ne.true) c.word-order.ensures.leads
