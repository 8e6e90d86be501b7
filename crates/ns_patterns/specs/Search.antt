-- Places of texts in bytes that stand in parts.
use Rattle.std.specs.Prelude.{◌≡◌, ◌≢◌, ℕ, ◌≤◌, Bool, true, false, List, [], ◌++◌, length}
use Rattle.ns_patterns.specs.declared.joined.Joined.{Joined}

abbrev pub whole : Joined → List ℕ
whole j = j.front.now ++ j.middle.now ++ j.back.now

-- this text stands behind t, and nowhere before
pub record IsFirst (text bytes t after : List ℕ) : Type 0 where
  pub here : bytes ≡ t ++ (text ++ after)
  pub first : (u more : List ℕ) → bytes ≡ u ++ (text ++ more) → length t ≤ length u

-- the bytes before and behind a literal: at its first place, or where it is the last one at the end
abbrev pub IsCut : Bool → List ℕ → List ℕ → List ℕ → List ℕ → Type 0
IsCut true literal bytes t after = (bytes ≡ t ++ literal) × (after ≡ [])
IsCut false literal bytes t after = IsFirst literal bytes t after

abbrev pub IsUncut : Bool → List ℕ → List ℕ → Type 0
IsUncut true literal bytes = (t : List ℕ) → bytes ≢ t ++ literal
IsUncut false literal bytes = (t after : List ℕ) → bytes ≢ t ++ (literal ++ after)
