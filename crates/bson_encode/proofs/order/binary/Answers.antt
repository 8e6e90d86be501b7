use Rattle.std.proofs.Common.{◌∷◌, length, sym, ◌∙◌}
use Rattle.bson_value.specs.Spelling.{count_bytes}
use Rattle.bson_encode.proofs.Leading.{leads_differ}
use Rattle.bson_encode.proofs.order.binary.Goals as goal

pub returns-then-is_ne : goal.returns-then-is_ne
returns-then-is_ne c = λ p q.
    let a = c.args.a.now in
    let b = c.args.b.now in
    leads_differ (count_bytes (length a)) (count_bytes (length b)) (c.args.first ∷ a) (c.args.second ∷ b) c.count-order.result (sym c.is_ne.ensures ∙ c.if-is_ne.true) c.count-order.ensures.leads
