-- Values and documents as JSON.
use Rattle.std.specs.Prelude.{◌≡◌, ℕ, List, Ok}
use Rattle.json_tree.specs.declared.tree.Tree.{Tree}
use Rattle.json_text.specs.Print.{text_of}
use Rattle.json_text.specs.Reading.{tree_of_text}
use Rattle.extjson.specs.Trees.{tree_of}
use Rattle.extjson.specs.Values.{value_of}
use Rattle.bson_value.specs.declared.value.Value.{Value}
use Rattle.bson_value.specs.declared.value.Value.TheVariants.{Object}
use Rattle.row_script.specs.Documents.{Document}

-- a text writes a value
unfoldable pub WriteValue : List ℕ → Value → Type 0
WriteValue text value = (tree : Tree) × (tree_of_text text ≡ Ok tree) × (value_of tree ≡ Ok value)

-- a text writes a document
abbrev pub Write : List ℕ → Document → Type 0
Write text doc = WriteValue text (Object doc)

-- a value in Extended JSON
unfoldable pub value_text : Value → List ℕ
value_text v = text_of (tree_of v)
