-- Documents as their bytes, and as the hexadecimal digits of these.
use Rattle.std.specs.Prelude.{◌≡◌, ℕ, List, Ok}
use Rattle.hex.specs.Hex.{decode_of}
use Rattle.bson_check.specs.Reading.{document_of}
use Rattle.row_script.specs.Documents.{Document}

-- bytes spell a document within the limits
abbrev pub Spell : List ℕ → Document → Type 0
Spell bytes doc = document_of 16793600 200 bytes ≡ Ok doc

-- hexadecimal digits write the bytes of a document
unfoldable pub Write : List ℕ → Document → Type 0
Write digits doc = (bytes : List ℕ) × (decode_of digits ≡ Ok bytes) × Spell bytes doc
