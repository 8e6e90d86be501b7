-- Which operation on numbers, and which values are appended.
use Rattle.std.specs.Prelude.{Bool, true, false, List, Option}
use Rattle.bson_value.specs.declared.value.Value.{Value}
use Rattle.update_model.specs.declared.operator.Number.{Number}
use Rattle.update_model.specs.Numbers.{sum, product}
use Rattle.update_model.specs.Acts.{new_ones}
use Rattle.update_ops.specs.declared.numbers.Operation.{Operation}
use Rattle.update_ops.specs.declared.numbers.Operation.TheVariants as operations

abbrev pub applied : Operation → Number → Number → Option Number
applied operations.Sum m n = sum m n
applied operations.Product m n = product m n

-- of a set the values that are new, else all
abbrev pub news : Bool → List Value → List Value → List Value
news true vs is = new_ones is vs
news false vs is = vs
