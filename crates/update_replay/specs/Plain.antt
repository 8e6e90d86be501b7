-- Touches as an entry of the oplog can have them: places of names without dots, where only a field with a name is new, and an array stands at each length.
use Rattle.std.specs.Prelude.{⊤, ℕ, ◌≡◌, ◌==◌, ◌≤◌, List, [], ◌∷◌, true, false, is_some, None, Ok}
use Rattle.std.specs.List.{All}
use Rattle.bson_value.specs.declared.value.Value.{Value, Object}
use Rattle.bson_value.specs.Levels.{levels_of}
use Rattle.doc_path.specs.declared.parts.Part.{Part}
use Rattle.doc_path.specs.declared.parts.Part.TheVariants.{Name as name, Index as index}
use Rattle.doc_path.specs.declared.touches.Touch.{Touch}
use Rattle.doc_path.specs.declared.touches.Touch.TheVariants.{Set, Unset, Resize}
use Rattle.doc_path.specs.Paths.{dot}
use Rattle.doc_path.specs.Places.{keys}
use Rattle.doc_path.specs.Ways.{value_in}
use Rattle.update_model.specs.declared.updated.Updated.{Updated}
use Rattle.update_model.specs.Arguments.{Fields}
use Rattle.update_model.specs.Reading.{operators, ops_fault}
use Rattle.update_model.specs.Updating.{updated, level_limit}

abbrev pub Undotted : ℕ → Type 0
Undotted b = (b == dot) ≡ false

abbrev pub PlainName : List ℕ → Type 0
PlainName k = All Undotted k

abbrev pub ArePlain : List (List ℕ) → Type 0
ArePlain [] = ⊤
ArePlain (k ∷ p) = PlainName k × ArePlain p

-- some parts, each a name without dots or an index
abbrev pub IsPlainPlace : List Part → Type 0
IsPlainPlace place = (place ≡ [] → ⊥) × ArePlain (keys place)

abbrev pub IsNamed : Part → Type 0
IsNamed (name k) = ⊤
IsNamed (index n) = ⊥

-- the last part is a name
abbrev pub IsField : List Part → Type 0
IsField [] = ⊥
IsField (p ∷ []) = IsNamed p
IsField (p ∷ (q ∷ ps)) = IsField (q ∷ ps)

-- z is the document after the update
abbrev pub IsPlainTouch : Value → Touch → Type 0
IsPlainTouch z (Set place a fresh) = IsPlainPlace place × (fresh ≡ true → IsField place)
IsPlainTouch z (Unset place) = IsPlainPlace place
IsPlainTouch z (Resize place n) = IsPlainPlace place × (is_some (value_in place z) ≡ true)

abbrev pub ArePlainTouches : Value → List Touch → Type 0
ArePlainTouches z [] = ⊤
ArePlainTouches z (t ∷ ts) = IsPlainTouch z t × ArePlainTouches z ts

-- those of an accepted update are, and the document has no more levels than an update may make
abbrev pub TouchesArePlain : Type 0
TouchesArePlain = (d doc : Fields) (u : Updated) → ops_fault d ≡ None → updated (operators d) doc ≡ Ok u → ArePlainTouches (Object u.doc) u.touches × (levels_of u.doc ≤ level_limit)
