-- The line of a document: its fields in the order of their names, in one of two forms.
use Rattle.std.specs.Prelude.{ℕ, List, [], ◌∷◌, ◌++◌, codes}
use Rattle.hex.specs.Hex.{encode_lower}
use Rattle.bson_value.specs.declared.value.Value.{Value, Object}
use Rattle.bson_value.specs.Alike.{by_name, ordered_fields}
use Rattle.bson_value.specs.Spelling.{document_text}
use Rattle.document_lines.specs.Json.{json_of}
use Rattle.document_lines.specs.declared.form.ListForm.{ListForm}
use Rattle.document_lines.specs.declared.form.ListForm.TheVariants as forms

abbrev pub Document : Type 0
Document = List (List ℕ × Value)

abbrev pub line : List ℕ → List ℕ
line text = text ++ 10 ∷ []

-- the fields of each level by the bytes of their names
abbrev pub in_order : Document → Document
in_order doc = by_name (ordered_fields doc)

-- by its bytes in hexadecimal, or as canonical Extended JSON
abbrev pub shown : ListForm → Document → List ℕ
shown forms.Hex doc = encode_lower (document_text doc)
shown forms.Json doc = json_of (Object doc)

abbrev pub document_line : ListForm → Document → List ℕ
document_line form doc = line (codes "doc " ++ shown form (in_order doc))
