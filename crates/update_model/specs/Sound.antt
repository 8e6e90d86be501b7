-- Operators at paths that don't begin with `_id`.
use Rattle.std.specs.Prelude.{◌≡◌, false, List, [], ◌∷◌}
use Rattle.update_model.specs.declared.operator.Operator.{Operator}
use Rattle.update_model.specs.declared.operator.Operator.TheVariants as operators
use Rattle.update_model.specs.Conflicts.{Path}
use Rattle.update_model.specs.Reading.{starts_with_id}

abbrev pub IsOff : Path → Type 0
IsOff p = starts_with_id p ≡ false

abbrev pub ActsOff : Operator → Type 0
ActsOff (operators.Set path v) = IsOff path
ActsOff (operators.Unset path) = IsOff path
ActsOff (operators.Inc path n) = IsOff path
ActsOff (operators.Mul path n) = IsOff path
ActsOff (operators.Rename from to) = IsOff from × IsOff to
ActsOff (operators.Push path vs) = IsOff path
ActsOff (operators.AddToSet path vs) = IsOff path
ActsOff (operators.Pop path end) = IsOff path
ActsOff (operators.Pull path v) = IsOff path

abbrev pub AllActOff : List Operator → Type 0
AllActOff [] = Unit {0}
AllActOff (o ∷ os) = ActsOff o × AllActOff os
