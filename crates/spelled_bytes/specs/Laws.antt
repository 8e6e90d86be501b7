-- The spellings of well-formed documents are of bytes, and so are texts.
use Rattle.std.specs.Prelude.{◌≡◌, ℕ, true, List}
use Rattle.std.specs.Str.{is_utf8}
use Rattle.bson_value.specs.declared.value.Value.{Value}
use Rattle.bson_value.specs.Spelling.{document_text}
use Rattle.bson_value.specs.WellFormed.{AreBytes, IsWellFormedDocument}

abbrev pub TextsAreBytes : Type 0
TextsAreBytes = (t : List ℕ) → is_utf8 t ≡ true → AreBytes t

abbrev pub DocumentsAreBytes : Type 0
DocumentsAreBytes = (d : List (List ℕ × Value)) → IsWellFormedDocument d → AreBytes (document_text d)
