-- Ends in memory.
use Rattle.std.specs.Prelude.{ℕ, List, [], ◌∷◌, Option, None, Some}

-- the calls that fail: one, or none
abbrev pub failing : Option ℕ → List ℕ
failing None = []
failing (Some call) = call ∷ []
