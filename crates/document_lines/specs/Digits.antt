-- Digits that are written so far.
use Rattle.std.specs.Prelude.{ℕ, ◌≡◌, ◌*◌, ◌++◌, List, length, take, drop}
use Rattle.hex.specs.Hex.{encode_lower}

-- the text has room for the digits of all bytes, and those of the first so many
abbrev pub AreWritten : List ℕ → List ℕ → ℕ → Type 0
AreWritten bytes text i = (length text ≡ 2 * length bytes) × (take (2 * i) text ++ encode_lower (drop i bytes) ≡ encode_lower bytes)
