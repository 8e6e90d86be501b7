-- The document that bytes spell, and the value that bytes of a type spell, whatever their size.
-- Each level takes bytes of its own, so reading with as many levels as there are bytes refuses none for its depth.
use Rattle.std.specs.Prelude.{◌≡◌, ℕ, Bool, true, false, List, [], ◌∷◌, length, Result, Ok, Err, is_ok}
use Rattle.bson_value.specs.Spelling.{spelled}
use Rattle.bson_value.specs.WellFormed.{AreBytes}
use Rattle.bson_value.specs.declared.value.Value.{Value, out-Value, Null}
use Rattle.bson_value.specs.declared.value.Value.TheOpen.{Value-F}
use Rattle.bson_check.specs.declared.fault.BsonFault.{BsonFault}
use Rattle.bson_check.specs.Reading.{Taken, document_of, value_at}
use Rattle.bson_check.specs.Spells.{Spells, type_byte, AreBytesOf, IsDocument, IsArray}

unfoldable pub read_document : List ℕ → Result (List (List ℕ × Value)) BsonFault
read_document bytes = document_of (length bytes) (length bytes) bytes

abbrev pub read_fields : Result (List (List ℕ × Value)) BsonFault → List (List ℕ × Value)
read_fields (Ok fs) = fs
read_fields (Err e) = []

-- whether the bytes spell a document
unfoldable pub is_document : List ℕ → Bool
is_document bytes = is_ok (read_document bytes)

-- the document that the bytes spell
unfoldable pub document_in : List ℕ → List (List ℕ × Value)
document_in bytes = read_fields (read_document bytes)

-- these bytes are the value, which has this type
pub record AreValue (tag : ℕ) (bytes : List ℕ) (v : Value) : Type 0 where
  pub levels : ℕ
  pub kind : tag ≡ type_byte (out-Value v)
  pub spells : AreBytesOf (IsDocument levels) (IsArray levels) bytes (out-Value v)

unfoldable pub read_value : ℕ → List ℕ → Taken Value
read_value tag bytes = value_at (length bytes) tag (length bytes) bytes

abbrev pub ends : Taken Value → Bool
ends (Ok (v, [])) = true
ends (Ok (v, b ∷ bs)) = false
ends (Err e) = false

abbrev pub read_as : Taken Value → Value
read_as (Ok x) = x.0
read_as (Err e) = Null

-- whether the bytes spell a value of this type
unfoldable pub is_value : ℕ → List ℕ → Bool
is_value tag bytes = ends (read_value tag bytes)

-- the value of this type that the bytes spell
unfoldable pub value_in : ℕ → List ℕ → Value
value_in tag bytes = read_as (read_value tag bytes)

-- a value that holds no document and no array
abbrev pub IsLeaf : Value-F Value → Type 0
IsLeaf (Value-F.Object fs) = ⊥
IsLeaf (Value-F.Array vs) = ⊥
IsLeaf (Value-F.ScopedCode t fs) = ⊥
IsLeaf f = Unit {0}

-- the law that such a value has one spelling
abbrev pub LeafSpelledOnce : Type 0
LeafSpelledOnce = (tag : ℕ) (bytes : List ℕ) (v : Value) → AreBytes bytes → AreValue tag bytes v → IsLeaf (out-Value v) → bytes ≡ spelled v

-- the law that bytes of a type are one value at most
abbrev pub OneValue : Type 0
OneValue = (tag : ℕ) (bytes : List ℕ) (v : Value) → AreValue tag bytes v → value_in tag bytes ≡ v

-- the law that bytes spell the document that they mean
abbrev pub OneDocument : Type 0
OneDocument = (bytes : List ℕ) (fs : List (List ℕ × Value)) → Spells bytes fs → document_in bytes ≡ fs
