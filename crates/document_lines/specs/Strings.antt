-- Bytes that stand in a JSON string as they are.
use Rattle.std.specs.Prelude.{ℕ, ◌≡◌, ◌<◌, ◌≤◌, List, [], ◌∷◌, get_or}
use Rattle.json_text.specs.Print.{escaped}

-- no byte from i up to j is escaped
abbrev pub ArePlain : List ℕ → ℕ → ℕ → Type 0
ArePlain bytes i j = (k : ℕ) → i ≤ k → k < j → escaped (get_or bytes k 0) ≡ get_or bytes k 0 ∷ []
