-- The laws of spelling.
use Rattle.std.specs.Prelude.{◌≡◌, ℕ, ◌<◌, ◌^◌, List, length}
use Rattle.bson_value.specs.declared.value.Value.{Value}
use Rattle.bson_value.specs.Spelling.{document_text, spelled}
use Rattle.bson_value.specs.WellFormed.{IsWellFormed, IsWellFormedDocument}
use Rattle.bson_check.specs.Spells.{Spells}
use Rattle.bson_encode.specs.Key.{key_of}

-- a document is spelled by its spelling, where a length can hold how long it is
abbrev pub SpellingSpells : Type 0
SpellingSpells = (fs : List (List ℕ × Value)) → IsWellFormedDocument fs → length (document_text fs) < 2 ^ 31 → Spells (document_text fs) fs

-- values of one key are one value, where a length can hold how long its spelling is
abbrev pub EqualKeys : Type 0
EqualKeys = (a b : Value) → IsWellFormed a → IsWellFormed b → length (spelled a) < 2 ^ 31 → key_of a ≡ key_of b → a ≡ b
