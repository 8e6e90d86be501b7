-- Operators, where they can be read.
use Rattle.std.specs.Prelude.{◌≡◌, List, Option, Some, None, is_some, true}
use Rattle.update_model.specs.declared.operator.Operator.{Operator}
use Rattle.update_model.specs.Arguments.{Fields}
use Rattle.update_model.specs.Reading.{operators, ops_fault}

abbrev pub AreRead : Option (List Operator) → Fields → Type 0
AreRead None doc = is_some (ops_fault doc) ≡ true
AreRead (Some ops) doc = (ops ≡ operators doc) × (ops_fault doc ≡ None)
