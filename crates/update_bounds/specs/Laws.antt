-- What an accepted update leaves as it was, and the limits that its document keeps.
use Rattle.std.specs.Prelude.{◌≡◌, ◌≤◌, List, ◌∷◌, length, None, Ok}
use Rattle.bson_value.specs.declared.value.Value.{Value}
use Rattle.bson_value.specs.Levels.{levels_of}
use Rattle.bson_value.specs.Spelling.{document_text}
use Rattle.doc_path.specs.Played.{id_name}
use Rattle.update_model.specs.declared.operator.Operator.{Operator}
use Rattle.update_model.specs.declared.updated.Updated.{Updated}
use Rattle.update_model.specs.Arguments.{Fields}
use Rattle.update_model.specs.Reading.{operators, ops_fault}
use Rattle.update_model.specs.Updating.{updated, byte_limit, level_limit}

-- this `_id` is the first field
abbrev pub BeginsWith : Value → Fields → Type 0
BeginsWith id d = (rest : Fields) × (d ≡ (id_name, id) ∷ rest)

-- where it is, it is so after an update by operators that were read
abbrev pub UpdatesKeepFirst : Type 0
UpdatesKeepFirst = (id : Value) (ops doc : Fields) (u : Updated) → BeginsWith id doc → ops_fault ops ≡ None → updated (operators ops) doc ≡ Ok u → BeginsWith id u.doc

-- the document after an update is within the limits
abbrev pub UpdatesAreSmall : Type 0
UpdatesAreSmall = (os : List Operator) (doc : Fields) (u : Updated) → updated os doc ≡ Ok u → (length (document_text u.doc) ≤ byte_limit) × (levels_of u.doc ≤ level_limit)
