-- Sets of the names that a walk has passed, with a few bits for each name.
use Rattle.std.specs.Prelude.{◌≡◌, ℕ, ◌-◌, ◌/◌, ◌%◌, true, false, List, [], ◌∷◌, length, slice_index, None, if◌then◌else◌, ◌==◌}
use Rattle.bson_check.specs.declared.name_set.NameSet.{NameSet}
use Rattle.bson_check.specs.Passing.{has, repeat_at}
use Rattle.bson_check.specs.Slots.{IsMarked}

-- four bytes that tell most names apart: the first, the middle and the last one, and the length
abbrev pub outline : List ℕ → List ℕ
outline name =
    if length name == 0 then 0 ∷ 0 ∷ 0 ∷ 0 ∷ []
    else slice_index name 0 ∷ slice_index name (length name / 2) ∷ slice_index name (length name - 1) ∷ length name % 256 ∷ []

-- the bits of each of these names are set
abbrev pub AreMarked : List ℕ → ℕ → List (List ℕ) → Type 0
AreMarked words factor ns = (n : List ℕ) → has n ns ≡ true → IsMarked words factor (outline n)

-- none of these names stands twice
abbrev pub AreOnce : List (List ℕ) → Type 0
AreOnce ns = (end : ℕ) → (from : List ℕ) → repeat_at end [] ns from ≡ None

-- the set holds these names, and each was new to it, unless it says that one may stand twice
unfoldable pub Holds : NameSet → List (List ℕ) → Type 0
Holds set ns = set.may_repeat ≡ false → AreOnce ns × AreMarked set.words 11400714819323198485 ns
