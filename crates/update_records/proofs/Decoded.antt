-- What a document's spelling is decoded to.
use Rattle.std.proofs.Common.{◌≡◌, ℕ, ◌<◌, ◌^◌, Ok, arith}
use Rattle.bson_value.specs.Spelling.{document_text}
use Rattle.bson_value.specs.WellFormed.{IsWellFormedDocument}
use Rattle.bson_check.specs.Reading.{document_of}
use Rattle.bson_check.specs.Spells.{SpelledOnce}
use Rattle.bson_check.proofs.Whole.{read_is_spelled}
use Rattle.bson_encode.specs.Laws.{SpellingSpells}
use Rattle.update_records.proofs.Levels.{Fields}

-- within limits below 2 ^ 31 bytes it is the document, where it is one
pub decoded_is : SpellingSpells → SpelledOnce → (max depth : ℕ) (o p : Fields) → max < 2 ^ 31 → IsWellFormedDocument o → document_of max depth (document_text o) ≡ Ok p → p ≡ o
decoded_is spells once max depth o p small k e =
    let s = read_is_spelled max depth (document_text o) p e in
    once (document_text o) p o s.spells (spells o k (omega (arith, small, s.short)))
