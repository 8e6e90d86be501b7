-- Elements by where they start, counted in the bytes from there up to the end of the body.
use Rattle.std.specs.Prelude.{◌≡◌, ℕ, ◌-◌, ◌<◌, ◌⊎◌, List, [], ◌∷◌, ◌++◌, length, drop, Contains}
use Rattle.std.specs.declared.cmp.Ordering.{Ordering}
use Rattle.std.specs.Cmp.Lexicographic.{slice_cmp}
use Rattle.std.specs.Ordering.{nat_cmp, is_lt, on, then_cmp, flip_args}
use Rattle.std.specs.List.Sorted.{IsSortedBy}
use Rattle.bson_check.specs.Passing.{first_name, passed, Path}

-- the bytes are the last ones of the body
abbrev pub IsEnd : List ℕ → List ℕ → Type 0
IsEnd body rest = rest ≡ drop (length body - length rest) body

-- the name of the element that starts there
unfoldable pub name_at : List ℕ → ℕ → List ℕ
name_at body left = first_name (drop (length body - left) body)

-- where the elements of these names start
abbrev pub starts : List (List ℕ) → List ℕ → List ℕ
starts [] from = []
starts (n ∷ ns) from = length from ∷ starts ns (passed from)

-- by name, and an earlier element before a later one
abbrev pub start_cmp : List ℕ → ℕ → ℕ → Ordering
start_cmp body = then_cmp (on (name_at body) (slice_cmp nat_cmp)) (flip_args nat_cmp)

abbrev pub InOrder : List ℕ → List ℕ → Type 0
InOrder body block = IsSortedBy (λ a b. is_lt (start_cmp body a b)) block

-- one of these elements, and one before this place, has the name
abbrev pub Known : List ℕ → List ℕ → List ℕ → ℕ → Type 0
Known body block name left = (e : ℕ) × (Contains block e) × (left < e) × (name_at body e ≡ name)

-- among the elements that start here, the search for one that is known ends there
pub record FirstKnown (body block places : List ℕ) (stop first : ℕ) : Type 0 where
  pub none : (l : ℕ) → Contains places l → first < l → Known body block (name_at body l) l → ⊥
  pub found : (first ≡ stop) ⊎ (Contains places first × Known body block (name_at body first) first)

-- the names from one place up to another, and those from there on
pub record Way (ns : List (List ℕ)) (from rest to : List ℕ) : Type 0 where
  pub gone : List (List ℕ)
  pub left : List (List ℕ)
  pub so_far : Path gone from rest
  pub path : Path left rest to
  pub all : ns ≡ gone ++ left
