-- The bytes of a document with another element in the place of the one of its name, or behind all others, and without that one.
use Rattle.std.specs.Prelude.{◌≡◌, ℕ, ◌+◌, ◌<◌, ◌≤◌, List, [], ◌∷◌, ◌++◌, length, Some, if◌then◌else◌}
use Rattle.std.specs.Str.{bytes_eq}
use Rattle.containers.specs.Entries.{lookup, put, without}
use Rattle.bson_value.specs.declared.value.Value.{Value, out-Value}
use Rattle.bson_value.specs.declared.value.Value.TheVariants.{Array, Object}
use Rattle.bson_value.specs.Levels.{levels_in, levels_of}
use Rattle.bson_value.specs.Place.{put_item}
use Rattle.bson_value.specs.Spelling.{count_bytes, document_text, element, framed, spelling}
use Rattle.bson_check.specs.Spells.{IsName, Spells, SpellsWithin}
use Rattle.bson_view.specs.Meaning.{IsLeaf}
use Rattle.bson_view.specs.Parts.{Part, part_bytes, bytes_of, elements_in}
use Rattle.bson_view.specs.Paths.{part_named}

-- the bytes of the elements before the first one of this name
abbrev pub front_of : List ℕ → List Part → List ℕ
front_of k [] = []
front_of k (p ∷ ps) = if bytes_eq p.name k then [] else part_bytes p ++ front_of k ps

-- the bytes of those behind it
abbrev pub rest_of : List ℕ → List Part → List ℕ
rest_of k [] = []
rest_of k (p ∷ ps) = if bytes_eq p.name k then bytes_of ps else rest_of k ps

-- a length that counts all of them, and an element between those before it and those behind it
abbrev pub enclosed : List ℕ → List ℕ → List ℕ → List ℕ
enclosed front own rest = count_bytes (length front + length own + length rest + 4) ++ front ++ own ++ rest

-- a document's bytes with this element in the place of the one of this name, or behind all others
abbrev pub placed : List ℕ → List ℕ → List ℕ → List ℕ
placed k own bytes = framed (front_of k (elements_in bytes) ++ (own ++ rest_of k (elements_in bytes)))

-- a document's bytes with this field
abbrev pub spliced : List ℕ → Value → List ℕ → List ℕ
spliced k v bytes = framed (front_of k (elements_in bytes) ++ (element (k, spelling v) ++ rest_of k (elements_in bytes)))

-- they are within the limits
abbrev pub Fits : List ℕ → Value → List ℕ → Type 0
Fits k v bytes = (length (spliced k v bytes) ≤ 16777216) × (levels_in v < 100)

-- the value holds no others, a field may have the name, and they are within the limits
abbrev pub FitsLeaf : List ℕ → Value → List ℕ → Type 0
FitsLeaf k v bytes = IsLeaf (out-Value v) × IsName k × (length (spliced k v bytes) ≤ 16777216)

-- these are they, and spell the fields with this one set
abbrev pub IsSpliced : List ℕ → Value → List ℕ → List (List ℕ × Value) → List ℕ → Type 0
IsSpliced k v bytes fs new = (new ≡ spliced k v bytes) × SpellsWithin 16777216 100 new (put k v fs)

-- a document's bytes without this field
abbrev pub cut : List ℕ → List ℕ → List ℕ
cut k bytes = framed (front_of k (elements_in bytes) ++ rest_of k (elements_in bytes))

-- these are they, and spell the fields without this one
abbrev pub IsCut : List ℕ → List ℕ → List (List ℕ × Value) → List ℕ → Type 0
IsCut k bytes fs new = (new ≡ cut k bytes) × SpellsWithin 16777216 100 new (without k fs)

-- ---- a field of the document that a field holds

-- the field of this name holds a document of these bytes
abbrev pub HoldsDocument : List ℕ → List ℕ → List ℕ → Type 0
HoldsDocument f inner bytes = part_named f (elements_in bytes) ≡ Some (record { name = f; tag = 3; value = inner })

-- a document's bytes, where the document of these inner bytes, which the field f holds, has this field
abbrev pub spliced_below : List ℕ → List ℕ → Value → List ℕ → List ℕ → List ℕ
spliced_below f k v inner bytes = placed f (element (f, (3, spliced k v inner))) bytes

-- the field holds a document, and they are within the limits
abbrev pub FitsBelow : List ℕ → List ℕ → Value → List ℕ → Type 0
FitsBelow f k v bytes = (inner : List ℕ) × HoldsDocument f inner bytes × (length (spliced_below f k v inner bytes) ≤ 16777216) × (levels_in v < 99)

-- the same of a value that holds no others
abbrev pub FitsCopyBelow : List ℕ → List ℕ → Value → List ℕ → Type 0
FitsCopyBelow f k v bytes = (inner : List ℕ) × HoldsDocument f inner bytes × (length (spliced_below f k v inner bytes) ≤ 16777216)

-- the value holds no others, a field may have the name, the field f holds a document, and they are within the limits
abbrev pub FitsLeafBelow : List ℕ → List ℕ → Value → List ℕ → Type 0
FitsLeafBelow f k v bytes = IsLeaf (out-Value v) × IsName k × FitsCopyBelow f k v bytes

-- these are they
abbrev pub AreSplicedBelow : List ℕ → List ℕ → Value → List ℕ → List ℕ → Type 0
AreSplicedBelow f k v bytes new = (inner : List ℕ) × HoldsDocument f inner bytes × (new ≡ spliced_below f k v inner bytes)

-- the field f of these fields holds a document, and the new ones are they with the field k of it set
abbrev pub IsPutBelow : List ℕ → List ℕ → Value → List (List ℕ × Value) → List (List ℕ × Value) → Type 0
IsPutBelow f k v fs new = (gs : List (List ℕ × Value)) × (lookup f fs ≡ Some (Object gs)) × (new ≡ put f (Object (put k v gs)) fs)

-- the same without the field k of it
abbrev pub cut_below : List ℕ → List ℕ → List ℕ → List ℕ → List ℕ
cut_below f k inner bytes = placed f (element (f, (3, cut k inner))) bytes

abbrev pub FitsCutBelow : List ℕ → List ℕ → List ℕ → Type 0
FitsCutBelow f k bytes = (inner : List ℕ) × HoldsDocument f inner bytes × (length (cut_below f k inner bytes) ≤ 16777216)

abbrev pub AreCutBelow : List ℕ → List ℕ → List ℕ → List ℕ → Type 0
AreCutBelow f k bytes new = (inner : List ℕ) × HoldsDocument f inner bytes × (new ≡ cut_below f k inner bytes)

abbrev pub IsCutBelow : List ℕ → List ℕ → List (List ℕ × Value) → List (List ℕ × Value) → Type 0
IsCutBelow f k fs new = (gs : List (List ℕ × Value)) × (lookup f fs ≡ Some (Object gs)) × (new ≡ put f (Object (without k gs)) fs)

-- ---- an element of the array that a field holds

-- these elements are parted at an index: the bytes of those before it, its name, and the bytes of those behind it with the last zero
pub record IsParted (n : ℕ) (ps : List Part) (front name rest : List ℕ) : Type 0 where
  pub before : List Part
  pub part : Part
  pub behind : List Part
  pub parts : ps ≡ before ++ part ∷ behind
  pub count : length before ≡ n
  pub front_is : front ≡ bytes_of before
  pub name_is : name ≡ part.name
  pub rest_is : rest ≡ bytes_of behind ++ 0 ∷ []

-- the field f of these fields holds an array with an element at the index n, and the new ones are they with the value in its place
abbrev pub IsItemPut : List ℕ → ℕ → Value → List (List ℕ × Value) → List (List ℕ × Value) → Type 0
IsItemPut f n v fs new = (xs : List Value) × (lookup f fs ≡ Some (Array xs)) × (n < length xs) × (new ≡ put f (Array (put_item xs n v)) fs)

-- the value holds no others, the field holds an array with an element at the index, and with the value there they are spelled within the limit
abbrev pub FitsItem : List ℕ → ℕ → Value → List (List ℕ × Value) → Type 0
FitsItem f n v fs = IsLeaf (out-Value v) × ((xs : List Value) × (lookup f fs ≡ Some (Array xs)) × (n < length xs) × (length (document_text (put f (Array (put_item xs n v)) fs)) ≤ 16777216))

-- ---- what new bytes mean

-- new bytes spell fields that meet this, within the limits, and are their spelling where the bytes were that of their fields
pub record SpellsNew (meets : List (List ℕ × Value) → Type 0) (bytes : List ℕ) (fs : List (List ℕ × Value)) (new : List ℕ) : Type 0 where
  pub fields : List (List ℕ × Value)
  pub meant : meets fields
  pub spells : SpellsWithin 16777216 100 new fields
  pub text : bytes ≡ document_text fs → new ≡ document_text fields

-- bytes that spell fields spell these
abbrev pub Means : List ℕ → List (List ℕ × Value) → Type 0
Means bytes kept = (fs : List (List ℕ × Value)) → Spells bytes fs → kept ≡ fs

-- the bytes are the spelling of the fields, within these limits
pub record IsShortSpelling (bytes : List ℕ) (fs : List (List ℕ × Value)) : Type 0 where
  pub text : bytes ≡ document_text fs
  pub size : length bytes ≤ 16777216
  pub levels : levels_of fs ≤ 100
