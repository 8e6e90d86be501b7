-- What looking for a name among the elements of a document finds, and what its parts are read as.
use Rattle.std.specs.Prelude.{ℕ, ◌≡◌, List, ◌++◌, Option, Some, None}
use Rattle.std.specs.Borrow.{Bor}
use Rattle.bson_value.specs.declared.value.Value.{Value, out-Value}
use Rattle.containers.specs.Entries.{lookup}
use Rattle.bson_check.specs.Spells.{type_byte, AreBytesOf, AreFields, IsDocument, IsArray}

-- these elements spell the fields, which have at most so many levels
abbrev pub SpellFields : ℕ → List ℕ → List (List ℕ × Value) → Type 0
SpellFields n elements fs = AreFields (λ c v. AreBytesOf (IsDocument n) (IsArray n) c (out-Value v)) elements fs

-- the bytes begin with the value, which has this type
pub record BeginsValue (n tag : ℕ) (bytes : List ℕ) (v : Value) : Type 0 where
  pub spelling : List ℕ
  pub rest : List ℕ
  pub spells : AreBytesOf (IsDocument n) (IsArray n) spelling (out-Value v)
  pub kind : tag ≡ type_byte (out-Value v)
  pub parts : bytes ≡ spelling ++ rest

-- a type and bytes are those of the value that is there, and none where none is
abbrev pub Found : ℕ → Option (ℕ × Bor (List ℕ)) → Option Value → Type 0
Found n None o = o ≡ None
Found n (Some x) o = (v : Value) × (o ≡ Some v) × BeginsValue n x.0 x.1.now v

-- what is left of the elements spells fields, among which a name names the same
pub record Passes (n : ℕ) (name rest : List ℕ) (fs : List (List ℕ × Value)) : Type 0 where
  pub left : List (List ℕ × Value)
  pub spells : SpellFields n rest left
  pub same : lookup name fs ≡ lookup name left
