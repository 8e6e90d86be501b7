-- Equality up to the order of fields at every level.
use Rattle.std.specs.Prelude.{ℕ, ◌≡◌, List, Some, option_map, map as map_list}
use Rattle.std.specs.Ordering.{nat_cmp}
use Rattle.std.specs.Cmp.Lexicographic.{slice_cmp}
use Rattle.std.specs.FinMap as map
use Rattle.containers.specs.Entries.{lookup}
use Rattle.bson_value.specs.declared.value.Value.{Value, Value-F, roll-Value, fold-Value}
use Rattle.bson_value.specs.declared.value.Value.TheVariants.{Object}

-- the fields by the bytes of their names
unfoldable pub by_name : {A : Type 0} → List (List ℕ × A) → List (List ℕ × A)
by_name fs = map.entries (map.from_entries {R = slice_cmp nat_cmp} fs)

abbrev pub ordered_step : Value-F Value → Value
ordered_step (Value-F.Object fs) = roll-Value (Value-F.Object (by_name fs))
ordered_step (Value-F.ScopedCode t fs) = roll-Value (Value-F.ScopedCode t (by_name fs))
ordered_step f = roll-Value f

-- with the fields of every document in it in the order of their names
unfoldable pub ordered : Value → Value
ordered = fold-Value Value ordered_step

infixl 20 ◌~◌
abbrev pub ◌~◌ : Value → Value → Type 0
a ~ b = ordered a ≡ ordered b

-- the same of two documents
abbrev pub AreAlike : List (List ℕ × Value) → List (List ℕ × Value) → Type 0
AreAlike fs gs = Object fs ~ Object gs

-- the fields, with what they hold in the order of its names
abbrev pub ordered_fields : List (List ℕ × Value) → List (List ℕ × Value)
ordered_fields fs = map_list (λ e. (e.0, ordered e.1)) fs

-- these fields name an equal value under this name, up to the order of fields in it
abbrev pub HasAlike : List ℕ × Value → List (List ℕ × Value) → Type 0
HasAlike e gs = Some (ordered e.1) ≡ option_map ordered (lookup e.0 gs)
