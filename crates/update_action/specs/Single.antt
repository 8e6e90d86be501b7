-- When the delta of one touch is read as this touch again.
use Rattle.std.specs.Prelude.{◌≡◌, ◌<◌, ◌≤◌, ◌^◌, List, [], ◌∷◌, length, Bool, true, false, Some}
use Rattle.std.specs.List.{AllByRecursion}
use Rattle.bson_value.specs.declared.value.Value.{Value}
use Rattle.bson_value.specs.Levels.{levels_in}
use Rattle.bson_value.specs.Spelling.{document_text}
use Rattle.bson_value.specs.WellFormed.{IsName, IsWellFormed}
use Rattle.bson_check.specs.Reading.{document_of}
use Rattle.doc_path.specs.declared.parts.Part.{Part}
use Rattle.doc_path.specs.declared.parts.Part.TheVariants.{Name as name, Index as index}
use Rattle.doc_path.specs.declared.parts.Form.TheVariants.{V2}
use Rattle.doc_path.specs.declared.touches.Touch.{Touch}
use Rattle.entry_model.specs.Written.{is_index}
use Rattle.entry_model.specs.Touches.{written}
use Rattle.entry_model.specs.Spelling.{level_limit}
use Rattle.update_action.specs.Recorded.{touches_in, byte_limit}

-- what the types hold of a part
abbrev pub IsWellFormedPart : Part → Type 0
IsWellFormedPart (name k) = IsName k
IsWellFormedPart (index n) = n < 2 ^ 32

abbrev pub AreWellFormedParts : List Part → Type 0
AreWellFormedParts ps = AllByRecursion IsWellFormedPart ps

abbrev pub starts_at_name : List Part → Bool
starts_at_name [] = false
starts_at_name (name k ∷ ps) = true
starts_at_name (index n ∷ ps) = false

abbrev pub ends_at_index : List Part → Bool
ends_at_index [] = false
ends_at_index (p ∷ []) = is_index p
ends_at_index (p ∷ (q ∷ ps)) = ends_at_index (q ∷ ps)

-- a place of few parts, of which the first is a name
pub record IsPlain (place : List Part) : Type 0 where
  pub parts : AreWellFormedParts place
  pub few : length place ≤ 64
  pub start : starts_at_name place ≡ true

-- a value of few levels
abbrev pub IsShallow : Value → Type 0
IsShallow a = IsWellFormed a × (levels_in a ≤ 100)

-- what is written of these touches in the second form is read as they are, where it isn't too long
unfoldable pub AreReadAgain : List Touch → Type 0
AreReadAgain ts = length (document_text (written V2 level_limit ts)) ≤ byte_limit → touches_in (document_of byte_limit level_limit (document_text (written V2 level_limit ts))) ≡ Some (V2, ts)
