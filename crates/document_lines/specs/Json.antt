-- The text of a value as canonical Extended JSON.
use Rattle.std.specs.Prelude.{ℕ, List, [], ◌∷◌, ◌++◌, Bool, true, false}
use Rattle.bson_value.specs.declared.value.Value.{Value}
use Rattle.json_text.specs.Print.{quoted, text_of, member_text, with_commas, behind_commas}
use Rattle.extjson.specs.Trees.{tree_of}

abbrev pub json_of : Value → List ℕ
json_of v = text_of (tree_of v)

-- a field: its name, a colon, its value
abbrev pub field_json : List ℕ × Value → List ℕ
field_json f = member_text (f.0, json_of f.1)

-- texts of a list with commas between them, where the first stands behind others or not
abbrev pub listed : Bool → List (List ℕ) → List ℕ
listed true ts = with_commas ts
listed false ts = behind_commas ts

abbrev pub comma : Bool → List ℕ
comma true = []
comma false = 44 ∷ []

-- what stands before the value in an object of one member
abbrev pub opened : List ℕ → List ℕ
opened name = 123 ∷ (quoted name ++ 58 ∷ [])

-- what stands before a member's value behind another member
abbrev pub further : List ℕ → List ℕ
further name = 44 ∷ (quoted name ++ 58 ∷ [])
