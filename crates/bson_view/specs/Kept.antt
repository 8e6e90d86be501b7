-- A document that is kept as its bytes.
use Rattle.std.specs.Prelude.{ℕ, List}
use Rattle.bson_value.specs.declared.value.Value.{Value}
use Rattle.bson_view.specs.declared.document_bytes.DocumentBytes.{DocumentBytes}
use Rattle.bson_view.specs.Meaning.{document_in}

abbrev pub kept_bytes : DocumentBytes → List ℕ
kept_bytes d = d.bytes

-- the document that they spell
abbrev pub kept_document : DocumentBytes → List (List ℕ × Value)
kept_document d = document_in d.bytes
