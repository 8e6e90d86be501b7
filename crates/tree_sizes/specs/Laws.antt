-- The bytes of a value by those of its tree's print.
use Rattle.std.specs.Prelude.{◌*◌, ◌≤◌, length}
use Rattle.bson_value.specs.declared.value.Value.{Value}
use Rattle.bson_value.specs.Spelling.{spelled}
use Rattle.json_text.specs.Print.{text_of}
use Rattle.extjson.specs.Trees.{tree_of}

-- eight times the print at most, where that is short
abbrev pub ValuesAreShort : Type 0
ValuesAreShort = (v : Value) → length (text_of (tree_of v)) ≤ 8192 → length (spelled v) ≤ 8 * length (text_of (tree_of v))
