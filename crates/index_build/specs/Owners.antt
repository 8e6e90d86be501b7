-- Who has a text: places in a list of lists of texts.
use Rattle.std.specs.Prelude.{ℕ, suc, ◌≡◌, List, [], ◌∷◌, ◌++◌, length, Bool, Option, Some, None, option_map, min, if◌then◌else◌}
use Rattle.std.specs.List.{list_any}
use Rattle.std.specs.Str.{bytes_eq}
use Rattle.std.specs.Ordering.{nat_cmp}
use Rattle.std.specs.Cmp.Lexicographic.{slice_cmp}
use Rattle.std.specs.BTreeMap.{BTreeMap, get}
use Rattle.index_build.specs.Faults.{meet}

abbrev pub Texts : Type 0
Texts = List (List ℕ)

abbrev pub has : List ℕ → Texts → Bool
has t ts = list_any (bytes_eq t) ts

-- the place of the first element with a property
abbrev pub place_where : {A : Type 0} → (A → Bool) → List A → Option ℕ
place_where p [] = None
place_where p (x ∷ xs) = if p x then Some 0 else option_map suc (place_where p xs)

-- the lesser of two places
abbrev pub lesser : Option ℕ → Option ℕ → Option ℕ
lesser None o = o
lesser (Some a) None = Some a
lesser (Some a) (Some b) = Some (min a b)

-- the owner of each text is the first list that has it
abbrev pub AreOwners : BTreeMap (List ℕ) ℕ → List Texts → Type 0
AreOwners m lists = (t : List ℕ) → get (slice_cmp nat_cmp) m t ≡ place_where (has t) lists

-- the place of the first list that has a text of an earlier one or of one of these, behind the place of the first such one
abbrev pub later_place : ℕ → Option ℕ → Option (ℕ × ℕ) → Option (ℕ × ℕ)
later_place n (Some a) later = Some (a, n)
later_place n None later = later

abbrev pub repeat_place_behind : List Texts → List Texts → Option (ℕ × ℕ)
repeat_place_behind before [] = None
repeat_place_behind before (ts ∷ lists) = later_place (length before) (place_where (meet ts) before) (repeat_place_behind (before ++ ts ∷ []) lists)

abbrev pub repeat_place : List Texts → Option (ℕ × ℕ)
repeat_place lists = repeat_place_behind [] lists
