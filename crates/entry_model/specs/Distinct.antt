-- That names are distinct at every level of a value.
use Rattle.std.specs.Prelude.{ℕ, List, [], ◌∷◌}
use Rattle.bson_value.specs.declared.value.Value.{Value, Value-F, every-Value}
use Rattle.containers.specs.Entries.{AreDistinct, names_of}

abbrev pub DistinctIn : Value-F Value → Type 0
DistinctIn (Value-F.Object fs) = AreDistinct (names_of fs)
DistinctIn (Value-F.ScopedCode t fs) = AreDistinct (names_of fs)
DistinctIn _ = Unit {0}

abbrev pub AllDistinct : Value → Type 0
AllDistinct v = every-Value DistinctIn v

abbrev pub FieldsDistinct : List (List ℕ × Value) → Type 0
FieldsDistinct [] = Unit {0}
FieldsDistinct (e ∷ es) = AllDistinct e.1 × FieldsDistinct es
