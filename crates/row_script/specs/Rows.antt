-- The rows of a script, one a line, and which of them differ.
use Rattle.std.specs.Prelude.{◌≡◌, ◌≢◌, ◌⊎◌, ℕ, ◌≤◌, ◌==◌, nat_eq, Bool, true, not, List, [], ◌∷◌, ◌++◌, length, codes, if◌then◌else◌}
use Rattle.std.specs.Cmp.Lexicographic.{pointwise}
use Rattle.std.specs.List.{before_first, after_first}

-- what a row asks, and the answer that it wants
pub record Row : Type 0 where
  pub asked : List ℕ
  pub wanted : List ℕ

-- an empty line, or one that begins with a number sign, is no row
abbrev pub is_passed_over : List ℕ → Bool
is_passed_over [] = true
is_passed_over (b ∷ rest) = b == 35

-- what stands between the two parts of a row
abbrev pub mark : List ℕ
mark = codes " = "

-- the row of a line, which is parted at the first mark. A line without a mark is what is asked, and wants the empty answer.
abbrev pub IsRow : List ℕ → Row → Type 0
IsRow line row =
    ((line ≡ row.asked ++ (mark ++ row.wanted)) × ((xs ys : List ℕ) → line ≡ xs ++ (mark ++ ys) → length row.asked ≤ length xs))
    ⊎ ((row ≡ record { asked = line; wanted = [] }) × ((xs ys : List ℕ) → line ≢ xs ++ (mark ++ ys)))

abbrev pub is_blank : ℕ → Bool
is_blank b = b == 32

-- what stands in front of the first blank, or all of it
abbrev pub before_blank : List ℕ → List ℕ
before_blank text = before_first is_blank text

-- what stands behind the first blank, or nothing
abbrev pub behind_blank : List ℕ → List ℕ
behind_blank text = after_first is_blank text

-- a row whose answer is another than it wants
abbrev pub differs : Row → List ℕ → Bool
differs row answer = not (pointwise nat_eq answer row.wanted)

-- the line that tells of a row that differs
abbrev pub told_line : Row → List ℕ → List ℕ
told_line row answer = row.asked ++ mark ++ answer ++ codes ", not " ++ row.wanted ++ codes "\n"

-- a row that differs is told, and no other one
abbrev pub told : Row → List ℕ → List ℕ
told row answer = if differs row answer then told_line row answer else []
