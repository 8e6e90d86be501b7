-- Elements whose bytes are those that a spelling has for their values.
use Rattle.std.specs.Prelude.{◌≡◌, ℕ, ◌≤◌, List, map}
use Rattle.bson_value.specs.Levels.{largest, levels_in}
use Rattle.bson_value.specs.Spelling.{spelled, spelling, elements_of, numbered}
use Rattle.bson_view.specs.Parts.{Part, part_value, bytes_of, fields_of, values_of}

-- the bytes of an element's value are the spelling of the value, which has at most so many levels
abbrev pub IsSpelled : ℕ → Part → Type 0
IsSpelled n p = (p.value ≡ spelled (part_value p)) × (levels_in (part_value p) ≤ n)

-- the bytes of a document's elements are those of its fields
abbrev pub AreSpelledFields : ℕ → List Part → Type 0
AreSpelledFields n ps = (bytes_of ps ≡ elements_of (fields_of ps)) × (largest (map (λ e. levels_in e.1) (fields_of ps)) ≤ n)

-- the bytes of an array's elements from this index on are those of its values
abbrev pub AreSpelledItems : ℕ → ℕ → List Part → Type 0
AreSpelledItems n i ps = (bytes_of ps ≡ numbered i (map spelling (values_of ps))) × (largest (map levels_in (values_of ps)) ≤ n)
