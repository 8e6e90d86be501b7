-- The values of an operand that is lent.
use Rattle.std.specs.Prelude.{List, [], ◌∷◌}
use Rattle.bson_value.specs.declared.value.Value.{Value}
use Rattle.update_ops.specs.declared.arguments.Appended.{Appended}
use Rattle.update_ops.specs.declared.arguments.Appended.TheVariants.{One, Each}

abbrev pub values_of : Appended → List Value
values_of (One v) = v.now ∷ []
values_of (Each vs) = vs.now
