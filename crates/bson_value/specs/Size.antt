-- Whether a value fits the room and the levels that are left for it.
use Rattle.std.specs.Prelude.{◌≡◌, ℕ, ◌+◌, ◌≤◌, List, length, Option, Some, None}
use Rattle.bson_value.specs.declared.value.Value.{Value}
use Rattle.bson_value.specs.Spelling.{document_text}
use Rattle.bson_value.specs.Levels.{levels_of}

-- so many bytes and levels fit, and leave this room; or they don't
abbrev pub Leaves : ℕ → ℕ → ℕ → ℕ → Option ℕ → Type 0
Leaves bytes levels room depth None = bytes ≤ room → levels ≤ depth → ⊥
Leaves bytes levels room depth (Some left) = (left + bytes ≡ room) × (levels ≤ depth)

-- the spelling has at most so many bytes, and the document at most so many levels
abbrev pub Fits : List (List ℕ × Value) → ℕ → ℕ → Type 0
Fits doc bytes levels = (length (document_text doc) ≤ bytes) × (levels_of doc ≤ levels)
