-- Whole numbers as texts: a minus sign or none, and digits without a leading zero.
use Rattle.std.specs.Prelude.{ℕ, ℤ, pos, negsuc, Bool, false, ◌==◌, nat_lt, List, [], ◌∷◌, Option, Some, None, length, if◌then◌else◌}
use Rattle.std.specs.List.{list_all}
use Rattle.std.specs.Char.{is_ascii_digit}
use Rattle.std.specs.Str.Parse.{signed_digits_value}

-- digits, of which the first is 0 only where it stands alone
unfoldable pub is_natural : List ℕ → Bool
is_natural [] = false
is_natural (c ∷ cs) = if c == 48 then length cs == 0 else list_all is_ascii_digit (c ∷ cs)

unfoldable pub is_whole : List ℕ → Bool
is_whole [] = false
is_whole (c ∷ cs) = if c == 45 then is_natural cs else is_natural (c ∷ cs)

-- the number that such a text writes
unfoldable pub whole_number : List ℕ → ℤ
whole_number t = signed_digits_value 10 t

-- the number is at least -limit, and below limit
abbrev pub is_within : ℕ → ℤ → Bool
is_within limit (pos n) = nat_lt n limit
is_within limit (negsuc n) = nat_lt n limit

-- the number, where it is within the limit
unfoldable pub in_range : ℕ → ℤ → Option ℤ
in_range limit z = if is_within limit z then Some z else None

-- the number, where it is a count below 2 ^ 32
unfoldable pub as_count : ℤ → Option ℕ
as_count (pos n) = if nat_lt n 4294967296 then Some n else None
as_count (negsuc n) = None
