-- Values that are well formed, by their one level and what it holds.
use Rattle.std.proofs.Common.{◌≡◌, ℕ, ◌+◌, ◌<◌, Bool as Truth, true, List, [], ◌∷◌, ◌++◌, length, map, take, get_or, refl, sym, ap, ◌∙◌, subst}
use Rattle.std.specs.List.{AllByRecursion}
use Rattle.std.specs.Str.{is_utf8}
use Rattle.std.proofs.lemmas.List.{take_more}
use Rattle.containers.specs.Entries.{AreDistinct, names_of}
use Rattle.json_tree.specs.declared.tree.Tree.{Tree, Tree-F, out-Tree, roll-Tree, map-Tree, every_here-Tree, every_held-Tree, every_made-Tree}
use Rattle.json_tree.specs.declared.tree.Tree.TheVariants as trees
use Rattle.json_tree.specs.Numbers.{IsNumber}
use Rattle.json_tree.specs.WellFormed.{AreNames, IsWellFormedLevel, IsWellFormed, AreWellFormedItems, AreWellFormedFields, IsWellFormedEntry, AreWellFormedEntries}

-- what one level holds is well formed
abbrev pub HoldsWellFormed : Tree-F Tree → Type 0
HoldsWellFormed (Tree-F.Items ts) = AreWellFormedItems ts
HoldsWellFormed (Tree-F.Object es) = AreWellFormedFields es
HoldsWellFormed _ = Unit {0}

abbrev Held : Type 0
Held = (t : Tree) × IsWellFormed t

abbrev tree_in : Held → Tree
tree_in h = h.0

abbrev on_tree : List ℕ × Held → List ℕ × Tree
on_tree e = (e.0, e.1.0)

items_held : (hs : List Held) → AreWellFormedItems (map tree_in hs)
items_held [] = tt
items_held (h ∷ hs) = (h.1, items_held hs)

fields_held : (hs : List (List ℕ × Held)) → AreWellFormedFields (map on_tree hs)
fields_held [] = tt
fields_held (h ∷ hs) = (h.1.1, fields_held hs)

all_held : (y : Tree-F Held) → HoldsWellFormed (map-Tree Held Tree tree_in y)
all_held (Tree-F.Items hs) = items_held hs
all_held (Tree-F.Object hs) = fields_held hs
all_held _ = tt

pub held_well : (t : Tree) → IsWellFormed t → HoldsWellFormed (out-Tree t)
held_well t k = let y = every_held-Tree IsWellFormedLevel t k in subst HoldsWellFormed y.1 (all_held y.0)

pub here_well : (t : Tree) → IsWellFormed t → IsWellFormedLevel (out-Tree t)
here_well t k = every_here-Tree IsWellFormedLevel t k

-- ---- the other way round

with_items : (ts : List Tree) → AreWellFormedItems ts → (hs : List Held) × (map tree_in hs ≡ ts)
with_items [] k = ([], refl)
with_items (t ∷ ts) k = let r = with_items ts k.1 in ((t, k.0) ∷ r.0, ap (λ (l : List Tree). t ∷ l) r.1)

with_fields : (es : List (List ℕ × Tree)) → AreWellFormedFields es → (hs : List (List ℕ × Held)) × (map on_tree hs ≡ es)
with_fields [] k = ([], refl)
with_fields (e ∷ es) k = let r = with_fields es k.1 in ((e.0, (e.1, k.0)) ∷ r.0, ap (λ (l : List (List ℕ × Tree)). e ∷ l) r.1)

with_held : (x : Tree-F Tree) → HoldsWellFormed x → (y : Tree-F Held) × (map-Tree Held Tree tree_in y ≡ x)
with_held Tree-F.Null h = (Tree-F.Null, refl)
with_held (Tree-F.Bool b) h = (Tree-F.Bool b, refl)
with_held (Tree-F.Number t) h = (Tree-F.Number t, refl)
with_held (Tree-F.Str t) h = (Tree-F.Str t, refl)
with_held (Tree-F.Items ts) h = let r = with_items ts h in (Tree-F.Items r.0, ap (λ (l : List Tree). Tree-F.Items l) r.1)
with_held (Tree-F.Object es) h = let r = with_fields es h in (Tree-F.Object r.0, ap (λ (l : List (List ℕ × Tree)). Tree-F.Object l) r.1)

pub well_one : (x : Tree-F Tree) → IsWellFormedLevel x → HoldsWellFormed x → IsWellFormed (roll-Tree x)
well_one x k h = let y = with_held x h in every_made-Tree IsWellFormedLevel x y.0 y.1 k

pub well_null : IsWellFormed trees.Null
well_null = subst IsWellFormed trees.rolls-Null (well_one Tree-F.Null tt tt)

pub well_bool : (b : Truth) → IsWellFormed (trees.Bool b)
well_bool b = subst IsWellFormed (trees.rolls-Bool b) (well_one (Tree-F.Bool b) tt tt)

pub well_number : (t : List ℕ) → IsNumber t → IsWellFormed (trees.Number t)
well_number t k = subst IsWellFormed (trees.rolls-Number t) (well_one (Tree-F.Number t) k tt)

pub well_str : (t : List ℕ) → is_utf8 t ≡ true → IsWellFormed (trees.Str t)
well_str t k = subst IsWellFormed (trees.rolls-Str t) (well_one (Tree-F.Str t) k tt)

pub well_items : (ts : List Tree) → AreWellFormedItems ts → IsWellFormed (trees.Items ts)
well_items ts k = subst IsWellFormed (trees.rolls-Items ts) (well_one (Tree-F.Items ts) tt k)

pub well_object : (es : List (List ℕ × Tree)) → AreNames es → AreWellFormedFields es → IsWellFormed (trees.Object es)
well_object es n k = subst IsWellFormed (trees.rolls-Object es) (well_one (Tree-F.Object es) n k)

-- ---- one element more

pub all_push : {A : Type 0} (P : A → Type 0) (xs : List A) (x : A) → AllByRecursion P xs → P x → AllByRecursion P (xs ++ x ∷ [])
all_push P [] x k p = (p, tt)
all_push P (y ∷ xs) x k p = (k.0, all_push P xs x k.1 p)

pub all_more : {A : Type 0} (P : A → Type 0) (xs : List A) (i : ℕ) (x : A) → i < length xs → x ≡ get_or xs i x → AllByRecursion P (take i xs) → P x → AllByRecursion P (take (i + 1) xs)
all_more {A} P xs i x lt at k p =
    subst (AllByRecursion P) (sym (take_more xs i x lt ∙ ap (λ (y : A). take i xs ++ y ∷ []) (sym at))) (all_push P (take i xs) x k p)

-- ---- entries

names_in : (es : List (List ℕ × Tree)) → AreWellFormedEntries es → AllByRecursion (λ e. is_utf8 e.0 ≡ true) es
unfolding IsWellFormedEntry
names_in [] k = tt
names_in (e ∷ es) k = (k.0.0, names_in es k.1)

values_in : (es : List (List ℕ × Tree)) → AreWellFormedEntries es → AreWellFormedFields es
unfolding IsWellFormedEntry
values_in [] k = tt
values_in (e ∷ es) k = (k.0.1, values_in es k.1)

pub well_entries : (es : List (List ℕ × Tree)) → AreDistinct (names_of es) → AreWellFormedEntries es → IsWellFormed (trees.Object es)
well_entries es d k = well_object es (d, names_in es k) (values_in es k)

pub well_entry : (e : List ℕ × Tree) → is_utf8 e.0 ≡ true → IsWellFormed e.1 → IsWellFormedEntry e
unfolding IsWellFormedEntry
well_entry e u k = (u, k)

pub ruleset well_formed = (well_null, well_bool, well_number, well_str, well_items, well_entries)
