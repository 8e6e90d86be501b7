-- The spellings of documents whose arrays have the names "0", "1" and so on, at every level.
use Rattle.std.specs.Prelude.{◌≡◌, ℕ, zero, suc, ◌+◌, ◌<◌, ◌^◌, List, [], ◌∷◌, ◌++◌, length}
use Rattle.std.specs.Fmt.{decimal}
use Rattle.bson_value.specs.declared.value.Value.{Value, out-Value}
use Rattle.bson_value.specs.Spelling.{document_text}
use Rattle.bson_value.specs.WellFormed.{AreBytes, IsWellFormedDocument}
use Rattle.bson_check.specs.Spells.{IsFrame, type_byte, AreBytesOf, AreFields}

-- the elements of an array, named from this number on; V says which bytes are a value
abbrev pub AreNumberedItems : (List ℕ → Value → Type 0) → ℕ → List ℕ → List Value → Type 0
AreNumberedItems V i b [] = b ≡ []
AreNumberedItems V i b (v ∷ vs) = (bytes others : List ℕ) × V bytes v × AreNumberedItems V (i + 1) others vs × (b ≡ type_byte (out-Value v) ∷ ((decimal i ++ 0 ∷ []) ++ (bytes ++ others)))

-- documents and arrays of so many levels at most
unfoldable mutual
  pub IsNumberedDocument : ℕ → List ℕ → List (List ℕ × Value) → Type 0
  IsNumberedDocument zero b fs = ⊥
  IsNumberedDocument (suc levels) b fs = (elements : List ℕ) × IsFrame b elements × AreFields (λ c v. AreBytesOf (IsNumberedDocument levels) (IsNumberedArray levels) c (out-Value v)) elements fs

  pub IsNumberedArray : ℕ → List ℕ → List Value → Type 0
  IsNumberedArray zero b vs = ⊥
  IsNumberedArray (suc levels) b vs = (elements : List ℕ) × IsFrame b elements × AreNumberedItems (λ c v. AreBytesOf (IsNumberedDocument levels) (IsNumberedArray levels) c (out-Value v)) 0 elements vs

-- the law that the spelling of a document is one of these, where a length can hold how long it is
abbrev pub NumberedSpelling : Type 0
NumberedSpelling = (fs : List (List ℕ × Value)) → IsWellFormedDocument fs → length (document_text fs) < 2 ^ 31 → (levels : ℕ) × IsNumberedDocument levels (document_text fs) fs

-- the law that a document has one spelling of these names at most
abbrev pub OneNumberedSpelling : Type 0
OneNumberedSpelling = (bytes : List ℕ) (fs : List (List ℕ × Value)) → AreBytes bytes → (levels : ℕ) × IsNumberedDocument levels bytes fs → bytes ≡ document_text fs
