-- The document of an entry, built.
use Rattle.std.proofs.Common.{◌≡◌, ℕ, List, length, sym, ◌∙◌}
use Rattle.std.specs.Prelude.{Ok, Err}
use Rattle.bson_check.specs.declared.fault.BsonFault.{BsonFault}
use Rattle.bson_check.specs.declared.fault.DecodeFault.{DecodeFault}
use Rattle.bson_check.specs.declared.fault.DecodeFault.TheVariants as errors
use Rattle.bson_check.specs.Reading.{Fails, document_of}
use Rattle.bson_check.specs.Spells.{Spells}
use Rattle.bson_view.specs.Meaning.{read_document}
use Rattle.bson_view.proofs.Meanings.{document_read}
use Rattle.entry_model.specs.Written.{Fields}

read : (bytes : List ℕ) (fs : Fields) → Spells bytes fs → document_of (length bytes) (length bytes) bytes ≡ Ok fs
unfolding read_document
read bytes fs s = document_read bytes fs s

pub is_read : (bytes : List ℕ) (fs gs : Fields) → Spells bytes fs → document_of (length bytes) (length bytes) bytes ≡ Ok gs → gs ≡ fs
is_read bytes fs gs s e = let f : Ok gs ≡ Ok fs = sym e ∙ read bytes fs s in cc

pub never_bad : (bytes : List ℕ) (fs : Fields) (e : DecodeFault) (f : BsonFault) → Spells bytes fs → e ≡ errors.Bad f → Fails e (document_of (length bytes) (length bytes) bytes) → ⊥
never_bad bytes fs e f s is fails =
    let h : document_of (length bytes) (length bytes) bytes ≡ Err f = rw is at fails in
    let g : Ok fs ≡ Err f = sym (read bytes fs s) ∙ h in absurd cc
