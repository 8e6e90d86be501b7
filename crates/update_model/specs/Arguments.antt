-- Which operand an operator takes at a path, and what the two are as an operator.
use Rattle.std.specs.Prelude.{ℕ, ℤ, pos, negsuc, ◌==◌, Bool, true, false, List, [], ◌∷◌, Option, Some, None, codes, option_map, if◌then◌else◌}
use Rattle.std.specs.Str.{bytes_eq}
use Rattle.bson_value.specs.declared.value.Value.{Value, Value-F, out-Value}
use Rattle.update_model.specs.Conflicts.{Path}
use Rattle.update_model.specs.declared.operator.OperatorName.{OperatorName}
use Rattle.update_model.specs.declared.operator.OperatorName.TheVariants as names
use Rattle.update_model.specs.declared.operator.Operator.{Operator}
use Rattle.update_model.specs.declared.operator.Operator.TheVariants as operators
use Rattle.update_model.specs.declared.operator.Number.{Number}
use Rattle.update_model.specs.declared.operator.Number.TheVariants as numbers
use Rattle.update_model.specs.declared.operator.ArrayEnd.{ArrayEnd}
use Rattle.update_model.specs.declared.operator.ArrayEnd.TheVariants as ends
use Rattle.doc_path.specs.Paths.{dollar, parts_of}

abbrev pub Fields : Type 0
Fields = List (List ℕ × Value)

-- a whole number of 32 or 64 bits
abbrev pub number_in : Value-F Value → Option Number
number_in (Value-F.Int n) = Some (numbers.Int n)
number_in (Value-F.Long n) = Some (numbers.Long n)
number_in _ = None

abbrev pub end_at : ℤ → Option ArrayEnd
end_at (pos n) = if n == 1 then Some ends.Last else None
end_at (negsuc n) = if n == 0 then Some ends.First else None

-- the last element for 1, and the first for -1
abbrev pub end_in : Value-F Value → Option ArrayEnd
end_in (Value-F.Int n) = end_at n
end_in (Value-F.Long n) = end_at n
end_in _ = None

abbrev pub text_in : Value-F Value → Option (List ℕ)
text_in (Value-F.Str t) = Some t
text_in _ = None

abbrev pub items_in : Value-F Value → Option (List Value)
items_in (Value-F.Array vs) = Some vs
items_in _ = None

-- `$each` alone, with an array
abbrev pub each_of : List ℕ × Value → Fields → Option (List Value)
each_of f [] = items_in (out-Value f.1)
each_of f (g ∷ gs) = None

-- the values to be appended: those of `$each`, or the operand itself
abbrev pub values_in : Value → Value-F Value → Option (List Value)
values_in v (Value-F.Object (f ∷ fs)) = if bytes_eq f.0 (codes "$each") then each_of f fs else Some (v ∷ [])
values_in v _ = Some (v ∷ [])

abbrev pub has_dollar : List ℕ → Bool
has_dollar [] = false
has_dollar (c ∷ cs) = c == dollar

-- a document whose first name begins with a dollar
abbrev pub is_expression : Value-F Value → Bool
is_expression (Value-F.Object (f ∷ fs)) = has_dollar f.0
is_expression _ = false

-- the operator of this name with this operand at the path, where it takes the operand; `$rename` takes a text
abbrev pub operator_of : OperatorName → Path → Value → Option Operator
operator_of names.Set path v = Some (operators.Set path v)
operator_of names.Unset path v = Some (operators.Unset path)
operator_of names.Inc path v = option_map (λ n. operators.Inc path n) (number_in (out-Value v))
operator_of names.Mul path v = option_map (λ n. operators.Mul path n) (number_in (out-Value v))
operator_of names.Rename path v = option_map (λ t. operators.Rename path (parts_of t)) (text_in (out-Value v))
operator_of names.Push path v = option_map (λ vs. operators.Push path vs) (values_in v (out-Value v))
operator_of names.AddToSet path v = option_map (λ vs. operators.AddToSet path vs) (values_in v (out-Value v))
operator_of names.Pop path v = option_map (λ e. operators.Pop path e) (end_in (out-Value v))
operator_of names.Pull path v = if is_expression (out-Value v) then None else Some (operators.Pull path v)
