-- Null has no fields to be put in order.
use Rattle.std.proofs.Common.{◌≡◌, sym, ap, ◌∙◌}
use Rattle.bson_value.specs.declared.value.Value.{Value, Value-F, Null, fold-roll-Value}
use Rattle.bson_value.specs.declared.value.Value.TheVariants.{rolls-Null}
use Rattle.bson_value.specs.Alike.{ordered_step, ordered}

pub ordered_null : ordered Null ≡ Null
unfolding ordered
ordered_null = ap (λ (v : Value). ordered v) (sym rolls-Null) ∙ (fold-roll-Value Value ordered_step Value-F.Null ∙ rolls-Null)
