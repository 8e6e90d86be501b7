-- A pattern's literals, and how a text gives them.
use Rattle.std.specs.Prelude.{ℕ, Bool, true, false, List, [], ◌∷◌, Option, Some, None, option_map, ◌==◌, if◌then◌else◌}

-- the literal before the first star, and the literal behind each star
pub record Literals : Type 0 where
  pub first : List ℕ
  pub behind : List (List ℕ)

abbrev pub star : ℕ
star = 42

abbrev pub backslash : ℕ
backslash = 92

abbrev pub with_byte : ℕ → Literals → Literals
with_byte b p = record { first = b ∷ p.first; behind = p.behind }

abbrev pub with_star : Literals → Literals
with_star p = record { first = []; behind = p.first ∷ p.behind }

-- the literals of what is left of a text, behind a backslash or not: a star parts two of them, a backslash takes the next character as it stands, and every other one stands for itself
unfoldable pub literals_from : Bool → List ℕ → Option Literals
literals_from true [] = None
literals_from true (b ∷ bs) = option_map (with_byte b) (literals_from false bs)
literals_from false [] = Some (record { first = []; behind = [] })
literals_from false (b ∷ bs) = if b == star then option_map with_star (literals_from false bs) else (if b == backslash then literals_from true bs else option_map (with_byte b) (literals_from false bs))

abbrev pub literals_of : List ℕ → Option Literals
literals_of text = literals_from false text
