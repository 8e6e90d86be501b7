-- The elements of a document or an array as parts of its bytes.
use Rattle.std.specs.Prelude.{◌≡◌, ℕ, Bool, true, ◌&&◌, zero, suc, ◌-◌, ◌<◌, ◌≤◌, List, [], ◌∷◌, ◌++◌, length, take, drop, map, Contains}
use Rattle.std.specs.List.{flat_map}
use Rattle.std.specs.Str.{is_utf8}
use Rattle.bson_value.specs.declared.value.Value.{Value, out-Value}
use Rattle.bson_value.specs.declared.value.Value.TheOpen.{Value-F}
use Rattle.bson_value.specs.Spelling.{text_bytes}
use Rattle.bson_check.specs.Passing.{upto_zero, past_zero, jump}
use Rattle.bson_check.specs.Spells.{IsFrame, AreBytesOf, AreItems, IsDocument, IsArray}
use Rattle.bson_view.specs.Meaning.{value_in}

-- an element: its name, the byte of its type, and the bytes of its value
pub record Part : Type 0 where
  pub name : List ℕ
  pub tag : ℕ
  pub value : List ℕ

-- the bytes of an element
abbrev pub part_bytes : Part → List ℕ
part_bytes p = p.tag ∷ ((p.name ++ 0 ∷ []) ++ p.value)

abbrev pub part_value : Part → Value
part_value p = value_in p.tag p.value

-- the values of elements
abbrev pub values_of : List Part → List Value
values_of ps = map part_value ps

-- the fields that elements are
abbrev pub fields_of : List Part → List (List ℕ × Value)
fields_of ps = map (λ p. (p.name, part_value p)) ps

-- the bytes of elements, one after the other
abbrev pub bytes_of : List Part → List ℕ
bytes_of ps = flat_map part_bytes ps

-- the element that begins with this type, before the other bytes
abbrev pub first_part : ℕ → List ℕ → Part
first_part tag bytes = record {
  name = upto_zero bytes;
  tag = tag;
  value = take (length (past_zero bytes) - length (jump tag (past_zero bytes))) (past_zero bytes);
}

-- the elements that stand one after the other; each takes a byte or more, so as many turns as there are bytes are enough
unfoldable pub parts_in : ℕ → List ℕ → List Part
parts_in turns [] = []
parts_in zero (tag ∷ bytes) = []
parts_in (suc turns) (tag ∷ bytes) = first_part tag bytes ∷ parts_in turns (jump tag (past_zero bytes))

unfoldable pub parts_of : List ℕ → List Part
parts_of bytes = parts_in (length bytes) bytes

-- no name has a zero in it
abbrev pub AreNames : List Part → Type 0
AreNames [] = Unit {0}
AreNames (p ∷ ps) = (Contains p.name 0 → ⊥) × AreNames ps

-- each name is a text
abbrev pub have_text_names : List Part → Bool
have_text_names [] = true
have_text_names (p ∷ ps) = is_utf8 p.name && have_text_names ps

-- what stands between the length and the last zero
abbrev pub body_of : List ℕ → List ℕ
body_of bytes = take (length bytes - 5) (drop 4 bytes)

-- the elements of a document or an array, which these bytes spell
unfoldable pub elements_in : List ℕ → List Part
elements_in bytes = parts_of (body_of bytes)

-- the elements in the bytes of a value: the fields of a document, or the values of an array, whose bytes, one after the other, are all but the length and the last zero. Any other value has none, also a code with a scope
abbrev pub AreElementsOf : Value-F Value → List ℕ → List Part → Type 0
AreElementsOf (Value-F.Object fs) bytes ps = IsFrame bytes (bytes_of ps) × (fields_of ps ≡ fs)
AreElementsOf (Value-F.Array vs) bytes ps = IsFrame bytes (bytes_of ps) × (values_of ps ≡ vs) × AreNames ps
AreElementsOf _ bytes ps = ps ≡ []

-- these bytes are the value, which has at most so many levels in it
abbrev pub SpellsValue : ℕ → List ℕ → Value → Type 0
SpellsValue n bytes v = AreBytesOf (IsDocument n) (IsArray n) bytes (out-Value v)

-- the bytes are elements, one after the other
abbrev pub AreElements : List ℕ → Type 0
AreElements bytes = (n : ℕ) × (vs : List Value) × AreItems (SpellsValue n) bytes vs

-- elements stand between a length and a zero
abbrev pub HasElements : List ℕ → Type 0
HasElements bytes = (5 ≤ length bytes) × AreElements (body_of bytes)

-- a code with a scope: its text as it is spelled, and the elements that are the fields of its scope, in fewer bytes than the value has
abbrev pub AreScopedParts : Value-F Value → List ℕ → List ℕ → List Part → Type 0
AreScopedParts (Value-F.ScopedCode t fs) bytes text ps = (text ≡ text_bytes t) × (fields_of ps ≡ fs) × (length (bytes_of ps) < length bytes)
AreScopedParts _ bytes text ps = ⊥
