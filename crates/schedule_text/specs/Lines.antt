-- The lines of a text.
use Rattle.std.specs.Prelude.{◌≡◌, ℕ, ◌+◌, ◌-◌, ◌==◌, Bool, true, List, [], ◌∷◌, ◌++◌, length, take, slice_index, if◌then◌else◌}
use Rattle.schedule_text.specs.Words.{lacks}

-- a byte more before the first line
abbrev pub onto_first : ℕ → List (List ℕ) → List (List ℕ)
onto_first b [] = (b ∷ []) ∷ []
onto_first b (line ∷ lines) = (b ∷ line) ∷ lines

abbrev pub begun : ℕ → List (List ℕ) → List (List ℕ)
begun b lines = if b == 10 then (b ∷ []) ∷ lines else onto_first b lines

-- the lines, each with the line feed that ends it
unfoldable pub whole_lines : List ℕ → List (List ℕ)
whole_lines [] = []
whole_lines (b ∷ bytes) = begun b (whole_lines bytes)

-- the first line feed stands there, and so many bytes end with it
pub record EndsAt (end : ℕ) (bytes : List ℕ) : Type 0 where
  pub line : List ℕ
  pub rest : List ℕ
  pub joined : bytes ≡ line ++ 10 ∷ rest
  pub lacks_feed : lacks 10 line ≡ true
  pub end_is : end ≡ length line + 1

abbrev pub front : List ℕ → List ℕ
front bytes = take (length bytes - 1) bytes

abbrev pub ends_with : ℕ → List ℕ → Bool
ends_with b bytes = slice_index bytes (length bytes - 1) == b

-- without a carriage return at its end
abbrev pub without_return : List ℕ → List ℕ
without_return line = if ends_with 13 line then front line else line

-- a line without its line feed, and without a carriage return before that
abbrev pub content : List ℕ → List ℕ
content line = if ends_with 10 line then without_return (front line) else line
