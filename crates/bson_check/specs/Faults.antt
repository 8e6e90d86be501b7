-- The first fault of bytes that are no document within the limits.
use Rattle.std.specs.Prelude.{◌≡◌, ◌↔◌, ℕ, ℤ, List, Option, None, Some}
use Rattle.std.specs.Int.{w32, from_le_bytes, cast_signed}
use Rattle.std.specs.Result.{result_err}
use Rattle.bson_check.specs.declared.fault.BsonFault.{BsonFault}
use Rattle.bson_check.specs.declared.fault.DecodeFault.{DecodeFault}
use Rattle.bson_check.specs.declared.fault.DecodeFault.TheVariants as errors
use Rattle.bson_check.specs.Reading.{document_of}
use Rattle.bson_check.specs.Spells.{IsSomeDocument}

-- the first fault that reading meets, of at most max bytes and depth levels
unfoldable pub first_fault : ℕ → ℕ → List ℕ → Option BsonFault
first_fault max depth bytes = result_err (document_of max depth bytes)

-- the error is this fault, unless memory ran out
abbrev pub IsFault : DecodeFault → Option BsonFault → Type 0
IsFault errors.NoMemory first = Unit {0}
IsFault (errors.Bad f) first = first ≡ Some f

-- the law that there is none exactly where some document within the limits is spelled
abbrev pub FaultlessIfSpelled : Type 0
FaultlessIfSpelled = (max depth : ℕ) (bytes : List ℕ) → (first_fault max depth bytes ≡ None) ↔ IsSomeDocument max depth bytes

-- the length that a document's first four bytes tell, a signed number with its low byte first
abbrev pub told_length : List ℕ → ℤ
told_length first = cast_signed w32 (from_le_bytes w32 first)
