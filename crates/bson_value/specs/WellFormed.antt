-- What the types of Rust hold, at every level of a value: texts are UTF-8, names are distinct and have no zero, numbers are in range, and runs have their length and are of bytes.
use Rattle.std.specs.Prelude.{◌≡◌, ℕ, ◌<◌, ◌^◌, true, List, length, slice_index, Contains, FitsSigned}
use Rattle.std.specs.Int.{w32, w64}
use Rattle.std.specs.Str.{is_utf8}
use Rattle.std.specs.List.{AllByRecursion}
use Rattle.containers.specs.Entries.{AreDistinct, names_of}
use Rattle.bson_value.specs.declared.value.Value.{Value, Value-F, every-Value}

-- a text without a zero
pub record IsName (t : List ℕ) : Type 0 where
  pub utf8 : is_utf8 t ≡ true
  pub no_zero : Contains t 0 → ⊥

-- numbers of eight bits; past the end of the list it reads a zero
abbrev pub AreBytes : List ℕ → Type 0
AreBytes bytes = (i : ℕ) → slice_index bytes i < 256

-- so many bytes
pub record IsRun (count : ℕ) (bytes : List ℕ) : Type 0 where
  pub count_is : length bytes ≡ count
  pub are_bytes : AreBytes bytes

-- distinct names
abbrev pub AreNames : List (List ℕ × Value) → Type 0
AreNames fs = AreDistinct (names_of fs) × AllByRecursion (λ e. IsName e.0) fs

-- one level of a value
abbrev pub IsWellFormedLevel : Value-F Value → Type 0
IsWellFormedLevel (Value-F.Double d) = IsRun 8 d
IsWellFormedLevel (Value-F.Str t) = is_utf8 t ≡ true
IsWellFormedLevel (Value-F.Object fs) = AreNames fs
IsWellFormedLevel (Value-F.Binary s d) = (s < 256) × AreBytes d
IsWellFormedLevel (Value-F.Oid d) = IsRun 12 d
IsWellFormedLevel (Value-F.Date z) = FitsSigned w64 z
IsWellFormedLevel (Value-F.Regex p o) = IsName p × IsName o
IsWellFormedLevel (Value-F.DbPointer t d) = (is_utf8 t ≡ true) × IsRun 12 d
IsWellFormedLevel (Value-F.Code t) = is_utf8 t ≡ true
IsWellFormedLevel (Value-F.Symbol t) = is_utf8 t ≡ true
IsWellFormedLevel (Value-F.ScopedCode t fs) = (is_utf8 t ≡ true) × AreNames fs
IsWellFormedLevel (Value-F.Int z) = FitsSigned w32 z
IsWellFormedLevel (Value-F.Stamp s) = (s.secs < 2 ^ 32) × (s.inc < 2 ^ 32)
IsWellFormedLevel (Value-F.Long z) = FitsSigned w64 z
IsWellFormedLevel (Value-F.Decimal d) = IsRun 16 d
IsWellFormedLevel _ = Unit {0}

abbrev pub IsWellFormed : Value → Type 0
IsWellFormed v = every-Value IsWellFormedLevel v

abbrev pub AreWellFormedItems : List Value → Type 0
AreWellFormedItems vs = AllByRecursion IsWellFormed vs

abbrev pub AreWellFormedFields : List (List ℕ × Value) → Type 0
AreWellFormedFields fs = AllByRecursion (λ e. IsWellFormed e.1) fs

-- a document
abbrev pub IsWellFormedDocument : List (List ℕ × Value) → Type 0
IsWellFormedDocument fs = AreNames fs × AreWellFormedFields fs
