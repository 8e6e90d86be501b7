-- What a document is.
use Rattle.std.specs.Prelude.{ℕ, List}
use Rattle.bson_value.specs.declared.value.Value.{Value}

-- the fields of a document
abbrev pub Document : Type 0
Document = List (List ℕ × Value)
