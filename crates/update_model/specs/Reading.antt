-- What a document of operators is read as, and its first fault in written order.
use Rattle.std.specs.Prelude.{◌≡◌, ℕ, Bool, true, false, List, [], ◌∷◌, Option, Some, None, codes, if◌then◌else◌}
use Rattle.std.specs.List.{list_any, flat_map}
use Rattle.std.specs.Str.{bytes_eq}
use Rattle.bson_value.specs.declared.value.Value.{Value, Value-F, out-Value}
use Rattle.doc_path.specs.Paths.{parts_of, path_fault}
use Rattle.doc_path.specs.Played.{id_name}
use Rattle.doc_path.specs.declared.path.PathFault.{PathFault}
use Rattle.update_model.specs.declared.operator.OperatorName.{OperatorName}
use Rattle.update_model.specs.declared.operator.OperatorName.TheVariants as names
use Rattle.update_model.specs.declared.operator.Operator.{Operator}
use Rattle.update_model.specs.declared.fault.OpsFault.{OpsFault}
use Rattle.update_model.specs.declared.fault.OpsFault.TheVariants as faults
use Rattle.update_model.specs.Conflicts.{Path, conflict}
use Rattle.update_model.specs.Arguments.{Fields, text_in, operator_of}

abbrev pub name_of : List ℕ → Option OperatorName
name_of t =
    if bytes_eq t (codes "$set") then Some names.Set
    else if bytes_eq t (codes "$unset") then Some names.Unset
    else if bytes_eq t (codes "$inc") then Some names.Inc
    else if bytes_eq t (codes "$mul") then Some names.Mul
    else if bytes_eq t (codes "$rename") then Some names.Rename
    else if bytes_eq t (codes "$push") then Some names.Push
    else if bytes_eq t (codes "$addToSet") then Some names.AddToSet
    else if bytes_eq t (codes "$pop") then Some names.Pop
    else if bytes_eq t (codes "$pull") then Some names.Pull
    else None

-- what is met in written order: a path that is taken, or a fault
pub data Met : Type 0 where
  Taken : Path → Met
  Refused : OpsFault → Met

abbrev pub starts_with_id : Path → Bool
starts_with_id [] = false
starts_with_id (k ∷ p) = bytes_eq k id_name

-- a path of which the operand is known to be taken or not: the first of its faults
abbrev pub met_by : Option PathFault → Path → Bool → Met
met_by (Some f) p fits = Refused faults.BadPath
met_by None p fits = if starts_with_id p then Refused faults.ImmutableId else if fits then Taken p else Refused faults.BadArgument

abbrev pub met : List ℕ → Bool → Met
met text fits = met_by (path_fault text) (parts_of text) fits

abbrev pub is_some : {A : Type 0} → Option A → Bool
is_some None = false
is_some (Some a) = true

-- the target of `$rename`
abbrev pub target : Option (List ℕ) → List Met
target None = []
target (Some text) = met text true ∷ []

abbrev pub targets : OperatorName → Value → List Met
targets names.Rename v = target (text_in (out-Value v))
targets _ v = []

-- what is met at one path of an operator
abbrev pub met_at : OperatorName → List ℕ × Value → List Met
met_at name f = met f.0 (is_some (operator_of name (parts_of f.0) f.1)) ∷ targets name f.1

abbrev pub met_paths : OperatorName → Value-F Value → List Met
met_paths name (Value-F.Object fs) = flat_map (met_at name) fs
met_paths name _ = Refused faults.BadArgument ∷ []

abbrev pub met_field : Option OperatorName → Value → List Met
met_field None v = Refused faults.UnknownOperator ∷ []
met_field (Some name) v = met_paths name (out-Value v)

-- all that is met
abbrev pub all_met : Fields → List Met
all_met doc = flat_map (λ f. met_field (name_of f.0) f.1) doc

-- the first fault behind these paths; a path that conflicts with an earlier one is a fault too
abbrev pub first_fault : List Path → List Met → Option OpsFault
first_fault seen [] = None
first_fault seen (Refused e ∷ ms) = Some e
first_fault seen (Taken p ∷ ms) = if list_any (conflict p) seen then Some faults.Conflict else first_fault (p ∷ seen) ms

abbrev pub ops_fault : Fields → Option OpsFault
ops_fault doc = first_fault [] (all_met doc)

-- the operators, where each operand is taken
abbrev pub listed : Option Operator → List Operator
listed None = []
listed (Some o) = o ∷ []

abbrev pub operators_at : OperatorName → Value-F Value → List Operator
operators_at name (Value-F.Object fs) = flat_map (λ f. listed (operator_of name (parts_of f.0) f.1)) fs
operators_at name _ = []

abbrev pub operators_in : Option OperatorName → Value → List Operator
operators_in None v = []
operators_in (Some name) v = operators_at name (out-Value v)

abbrev pub operators : Fields → List Operator
operators doc = flat_map (λ f. operators_in (name_of f.0) f.1) doc

-- the error is this fault, unless memory ran out
abbrev pub IsFault : OpsFault → Option OpsFault → Type 0
IsFault faults.NoMemory first = Unit {0}
IsFault e first = first ≡ Some e
