-- The key of an `_id`.
use Rattle.std.specs.Prelude.{ℕ, List, ◌∷◌}
use Rattle.bson_value.specs.declared.value.Value.{Value}
use Rattle.bson_value.specs.Spelling.{tag_of, spelled}

-- its type byte, and its spelling
abbrev pub key_of : Value → List ℕ
key_of v = tag_of v ∷ spelled v
