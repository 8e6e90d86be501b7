use Rattle.std.proofs.Common.{sym, ◌∙◌}
use Rattle.bson_encode.proofs.Elements.{key_by_tag, key_by_value}
use Rattle.bson_encode.proofs.order.cmp_keys.Goals as goal

pub returns-then-is_ne : goal.returns-then-is_ne
returns-then-is_ne c = λ p q. key_by_tag c.args.a.now c.args.b.now c.type_of.result c.type_of-2.result c.byte-types.result c.type_of.ensures c.type_of-2.ensures c.byte-types.ensures (sym c.is_ne.ensures ∙ c.if-is_ne.true)

pub returns : goal.returns
returns c = key_by_value c.args.a.now c.args.b.now c.type_of.result c.type_of-2.result c.byte-types.result c.type_of.ensures c.type_of-2.ensures c.byte-types.ensures (sym c.is_ne.ensures ∙ c.if-is_ne.false) c.value.result c.value.ensures
