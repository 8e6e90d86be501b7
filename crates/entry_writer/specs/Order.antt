-- Parts by rising index: before each name those that stand before it.
use Rattle.std.specs.Prelude.{ℕ, ◌≡◌, List, [], ◌∷◌, ◌++◌, true, false, None, reverse, if◌then◌else◌}
use Rattle.std.specs.Ordering.{nat_cmp}
use Rattle.std.specs.BTreeMap.{BTreeMap, get}
use Rattle.doc_path.specs.declared.parts.Part.{Part}
use Rattle.doc_path.specs.declared.parts.Part.TheVariants.{Index as index}
use Rattle.entry_model.specs.Edits.{mapped, is_before}
use Rattle.entry_model.specs.Written.{is_index}
use Rattle.entry_writer.specs.declared.parts.PartEdits.{PartEdits}
use Rattle.entry_writer.specs.Groups.{Group, group_in, groups_in, among}

abbrev pub put_rising : Group → List Group → List Group
put_rising g [] = g ∷ []
put_rising g (h ∷ hs) = if is_before h.0 g.0 then h ∷ put_rising g hs else g ∷ (h ∷ hs)

abbrev pub risen : List Group → List Group
risen [] = []
risen (g ∷ gs) = put_rising g (risen gs)

abbrev pub parts_of : List Group → List Part
parts_of gs = mapped (λ g. g.0) gs

-- each part stands once
abbrev pub IsOnce : List Part → Type 0
IsOnce [] = Unit {0}
IsOnce (p ∷ ps) = (among p ps ≡ false) × IsOnce ps

-- ---- while it is made: indexes in front, and behind them what begins with a name, the last first

abbrev pub front_in : List (ℕ × PartEdits) → List Group
front_in es = mapped (λ e. group_in e.1) es

abbrev pub laid : List (ℕ × PartEdits) → List PartEdits → List Group
laid front behind = front_in front ++ reverse (groups_in behind)

abbrev pub IsNumbered : List (ℕ × PartEdits) → Type 0
IsNumbered [] = Unit {0}
IsNumbered (e ∷ es) = (e.1.part.now ≡ index e.0) × IsNumbered es

abbrev pub IsNamed : List Group → Type 0
IsNamed [] = Unit {0}
IsNamed (g ∷ gs) = is_index g.0 ≡ false

-- no index of those that are left is in front
abbrev pub IsApart : BTreeMap ℕ PartEdits → List Part → Type 0
IsApart front ps = (n : ℕ) → among (index n) ps ≡ true → get nat_cmp front n ≡ None

abbrev pub IsLaid : BTreeMap ℕ PartEdits → List PartEdits → List Group → Type 0
IsLaid front behind left = IsNumbered front.entries × IsNamed (reverse (groups_in behind)) × IsOnce (parts_of left) × IsApart front (parts_of left)
