-- The grammar of BSON: which bytes spell which document.
-- A number has its low byte first. A length is a signed number, so it is below 2 ^ 31.
use Rattle.std.specs.Prelude.{◌≡◌, ℕ, zero, suc, ◌+◌, ◌<◌, ◌≤◌, ◌^◌, ◌↔◌, ℤ, true, List, [], ◌∷◌, ◌++◌, length, Contains, if◌then◌else◌}
use Rattle.std.specs.Int.{Width, w32, w64, byte_len, from_le_bytes, cast_signed}
use Rattle.std.specs.Str.{is_utf8}
use Rattle.containers.specs.Entries.{AreDistinct, names_of}
use Rattle.bson_value.specs.Levels.{levels_of}
pub use Rattle.bson_value.specs.WellFormed.{IsName}
use Rattle.bson_value.specs.declared.value.Value.{Value, out-Value}
use Rattle.bson_value.specs.declared.value.Value.TheOpen.{Value-F}

-- four bytes that are this number
pub record IsCount (b : List ℕ) (n : ℕ) : Type 0 where
  pub four : length b ≡ 4
  pub value : from_le_bytes w32 b ≡ n

-- the bytes of a signed number
pub record IsSigned (w : Width) (b : List ℕ) (z : ℤ) : Type 0 where
  pub count : length b ≡ byte_len w
  pub value : cast_signed w (from_le_bytes w b) ≡ z

-- a length that counts the zero at the end, a text, and the zero
abbrev pub IsString : List ℕ → List ℕ → Type 0
IsString b t = (count : List ℕ) × IsCount count (length t + 1) × (is_utf8 t ≡ true) × (b ≡ count ++ t ++ 0 ∷ [])

-- a length that counts all of these bytes, the elements, and a zero
abbrev pub IsFrame : List ℕ → List ℕ → Type 0
IsFrame b elements = (total : List ℕ) × IsCount total (length b) × (b ≡ total ++ elements ++ 0 ∷ [])

-- the byte of a value's type
abbrev pub type_byte : Value-F Value → ℕ
type_byte (Value-F.Double d) = 1
type_byte (Value-F.Str t) = 2
type_byte (Value-F.Object fs) = 3
type_byte (Value-F.Array vs) = 4
type_byte (Value-F.Binary s d) = 5
type_byte Value-F.Undefined = 6
type_byte (Value-F.Oid d) = 7
type_byte (Value-F.Bool v) = 8
type_byte (Value-F.Date z) = 9
type_byte Value-F.Null = 10
type_byte (Value-F.Regex p o) = 11
type_byte (Value-F.DbPointer t d) = 12
type_byte (Value-F.Code t) = 13
type_byte (Value-F.Symbol t) = 14
type_byte (Value-F.ScopedCode t fs) = 15
type_byte (Value-F.Int z) = 16
type_byte (Value-F.Stamp s) = 17
type_byte (Value-F.Long z) = 18
type_byte (Value-F.Decimal d) = 19
type_byte Value-F.MinKey = 255
type_byte Value-F.MaxKey = 127

-- these bytes are this value, where D says which bytes are a document in it, and A which are an array
abbrev pub AreBytesOf : (List ℕ → List (List ℕ × Value) → Type 0) → (List ℕ → List Value → Type 0) → List ℕ → Value-F Value → Type 0
AreBytesOf D A b (Value-F.Double d) = (length d ≡ 8) × (b ≡ d)
AreBytesOf D A b (Value-F.Str t) = IsString b t
AreBytesOf D A b (Value-F.Object fs) = D b fs
AreBytesOf D A b (Value-F.Array vs) = A b vs
AreBytesOf D A b (Value-F.Binary s d) = (count : List ℕ) × IsCount count (length d) × (b ≡ count ++ s ∷ d)
AreBytesOf D A b Value-F.Undefined = b ≡ []
AreBytesOf D A b (Value-F.Oid d) = (length d ≡ 12) × (b ≡ d)
AreBytesOf D A b (Value-F.Bool v) = b ≡ (if v then 1 else 0) ∷ []
AreBytesOf D A b (Value-F.Date z) = IsSigned w64 b z
AreBytesOf D A b Value-F.Null = b ≡ []
AreBytesOf D A b (Value-F.Regex p o) = IsName p × IsName o × (b ≡ (p ++ 0 ∷ []) ++ (o ++ 0 ∷ []))
AreBytesOf D A b (Value-F.DbPointer t d) = (string : List ℕ) × IsString string t × (length d ≡ 12) × (b ≡ string ++ d)
AreBytesOf D A b (Value-F.Code t) = IsString b t
AreBytesOf D A b (Value-F.Symbol t) = IsString b t
AreBytesOf D A b (Value-F.ScopedCode t fs) = (total string scope : List ℕ) × IsCount total (length b) × IsString string t × D scope fs × (b ≡ total ++ (string ++ scope))
AreBytesOf D A b (Value-F.Int z) = IsSigned w32 b z
AreBytesOf D A b (Value-F.Stamp s) = (low high : List ℕ) × IsCount low s.inc × IsCount high s.secs × (b ≡ low ++ high)
AreBytesOf D A b (Value-F.Long z) = IsSigned w64 b z
AreBytesOf D A b (Value-F.Decimal d) = (length d ≡ 16) × (b ≡ d)
AreBytesOf D A b Value-F.MinKey = b ≡ []
AreBytesOf D A b Value-F.MaxKey = b ≡ []

-- elements one after the other, each the byte of a type, a name and a zero, and the bytes of a value; V says which bytes are a value
abbrev pub AreFields : (List ℕ → Value → Type 0) → List ℕ → List (List ℕ × Value) → Type 0
AreFields V b [] = b ≡ []
AreFields V b (e ∷ es) = (bytes others : List ℕ) × IsName e.0 × V bytes e.1 × AreFields V others es × (b ≡ type_byte (out-Value e.1) ∷ ((e.0 ++ 0 ∷ []) ++ (bytes ++ others)))

-- the same in an array, where a name may be any bytes without a zero
abbrev pub AreItems : (List ℕ → Value → Type 0) → List ℕ → List Value → Type 0
AreItems V b [] = b ≡ []
AreItems V b (v ∷ vs) = (name bytes others : List ℕ) × (Contains name 0 → ⊥) × V bytes v × AreItems V others vs × (b ≡ type_byte (out-Value v) ∷ ((name ++ 0 ∷ []) ++ (bytes ++ others)))

-- documents and arrays of so many levels at most
unfoldable mutual
  pub IsDocument : ℕ → List ℕ → List (List ℕ × Value) → Type 0
  IsDocument zero b fs = ⊥
  IsDocument (suc levels) b fs = (elements : List ℕ) × IsFrame b elements × AreDistinct (names_of fs) × AreFields (λ c v. AreBytesOf (IsDocument levels) (IsArray levels) c (out-Value v)) elements fs

  pub IsArray : ℕ → List ℕ → List Value → Type 0
  IsArray zero b vs = ⊥
  IsArray (suc levels) b vs = (elements : List ℕ) × IsFrame b elements × AreItems (λ c v. AreBytesOf (IsDocument levels) (IsArray levels) c (out-Value v)) elements vs

-- the bytes spell the document
unfoldable pub Spells : List ℕ → List (List ℕ × Value) → Type 0
Spells bytes fs = (length bytes < 2 ^ 31) × (levels : ℕ) × IsDocument levels bytes fs

-- the same with at most so many bytes and levels
pub record SpellsWithin (max depth : ℕ) (bytes : List ℕ) (fs : List (List ℕ × Value)) : Type 0 where
  pub spells : Spells bytes fs
  pub short : length bytes ≤ max
  pub shallow : levels_of fs ≤ depth

-- some document of at most so many bytes and levels is spelled
abbrev pub IsSomeDocument : ℕ → ℕ → List ℕ → Type 0
IsSomeDocument max depth bytes = (fs : List (List ℕ × Value)) × SpellsWithin max depth bytes fs

-- the law that bytes spell one document at most
abbrev pub SpelledOnce : Type 0
SpelledOnce = (bytes : List ℕ) (fs gs : List (List ℕ × Value)) → Spells bytes fs → Spells bytes gs → fs ≡ gs

-- the law that levels are enough exactly where there are as many as the document has
abbrev pub LevelsNeeded : Type 0
LevelsNeeded = (n : ℕ) (bytes : List ℕ) (fs : List (List ℕ × Value)) → IsDocument n bytes fs ↔ (((m : ℕ) × IsDocument m bytes fs) × (levels_of fs ≤ n))
