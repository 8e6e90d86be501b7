-- What rows write, and what they show.
use Rattle.std.specs.Prelude.{◌++◌, ℕ, List, [], ◌∷◌, Result, codes, length}
use Rattle.std.specs.Fmt.{decimal}
use Rattle.bson_check.specs.Reading.{read_of, value_at}
use Rattle.bson_check.specs.declared.fault.BsonFault.{BsonFault}
use Rattle.bson_value.specs.declared.value.Value.{Value}
use Rattle.json_tree.specs.declared.tree.Tree.{Tree, Items}

-- the value of this type that bytes spell
unfoldable pub value_in : ℕ → List ℕ → Result Value BsonFault
value_in tag bytes = read_of (value_at (length bytes) tag (length bytes) bytes)

-- options and definitions as one array
abbrev pub metadata_array : Tree → List Tree → Tree
metadata_array options defs = Items (options ∷ Items defs ∷ [])

-- how long a text is, and the text
abbrev pub with_length : List ℕ → List ℕ
with_length text = decimal (length text) ++ codes " " ++ text
