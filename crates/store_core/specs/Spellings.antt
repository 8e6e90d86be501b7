-- The spellings of documents that are put.
use Rattle.std.specs.Prelude.{◌≡◌}
use Rattle.bson_value.specs.Spelling.{document_text}
use Rattle.bson_view.specs.Kept.{kept_bytes, kept_document}
use Rattle.bson_view.specs.declared.document_bytes.DocumentBytes.{DocumentBytes}
use Rattle.coll_state.specs.Rows.{Document as Fields}

-- these bytes are the spelling of the document
abbrev pub IsSpellingOf : DocumentBytes → Fields → Type 0
IsSpellingOf b d = (kept_bytes b ≡ document_text d) × (kept_document b ≡ d)
