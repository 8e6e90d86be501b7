-- Whole numbers at the front of bytes.
use Rattle.std.specs.Prelude.{◌≡◌, ◌⊎◌, ◌<◌, ℕ, ℤ, pos, neg_ℤ, ◌||◌, Bool, false, ◌==◌, List, [], ◌∷◌, ◌++◌}
use Rattle.std.specs.Str.Parse.{digits_value}
use Rattle.json_tree.specs.Numbers.{is_digit, IsWhole}

-- a point or an exponent stands here
abbrev pub goes_on : List ℕ → Bool
goes_on [] = false
goes_on (b ∷ bytes) = b == 46 || b == 101 || b == 69

abbrev pub starts_with_digit : List ℕ → Bool
starts_with_digit [] = false
starts_with_digit (b ∷ bytes) = is_digit b

-- the digits at the front write this number, and are the whole of it
unfoldable pub IsNaturalRead : List ℕ → ℕ → List ℕ → Type 0
IsNaturalRead bytes n rest = (ds : List ℕ) × (bytes ≡ ds ++ rest) × IsWhole ds × (digits_value 10 ds ≡ n) × (starts_with_digit rest ≡ false) × (goes_on rest ≡ false)

-- the same where a minus sign may stand before them
unfoldable pub IsIntRead : List ℕ → ℤ → List ℕ → Type 0
IsIntRead bytes z rest = (n : ℕ) × (n < 1000000000) × ((IsNaturalRead bytes n rest × (z ≡ pos n)) ⊎ ((tail : List ℕ) × (bytes ≡ 45 ∷ tail) × IsNaturalRead tail n rest × (z ≡ neg_ℤ (pos n))))
