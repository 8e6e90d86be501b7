-- Levels of a tree whose plain numbers became wrappers.
use Rattle.std.proofs.Common.{◌≡◌, ℕ, ◌+◌, ◌≤◌, List, [], ◌∷◌, map, sym, ap, subst, inl, inr, arith}
use Rattle.std.specs.Prelude.{ℤ}
use Rattle.std.proofs.lemmas.Bool.{cases_Bool}
use Rattle.json_tree.specs.declared.tree.Tree.{Tree, Tree-F, roll-Tree, map-Tree, ind-Tree}
use Rattle.json_tree.specs.declared.tree.Tree.TheVariants as trees
use Rattle.json_tree.specs.Levels.{levels_of, items_levels, field_levels}
use Rattle.extjson.specs.Trees.{int_tree, long_tree}
use Rattle.extjson.specs.Plain.{has_plain_parts, number_tree, wrapped_numbers, wrapped_items, wrapped_fields}
use Rattle.extjson.specs.Levels.{WrappedAreShallow}
use Rattle.extjson.proofs.Wrapping.{wrapped_null, wrapped_bool, wrapped_number, wrapped_str, wrapped_list, told_object, other_object}
use Rattle.extjson.proofs.Once.{Plain, an_int, a_long, as_it_is, plain}
use Rattle.extjson.proofs.Shallow.{of_number, of_items, of_object, wrap_le, str_le}

-- as many levels, or one more
abbrev IsDeeper : ℕ → ℕ → Type 0
IsDeeper n m = (n ≤ m) × (m ≤ n + 1)

abbrev Bounded : Tree → Type 0
Bounded t = IsDeeper (levels_of t) (levels_of (wrapped_numbers t))

same_bounded : (t : Tree) → wrapped_numbers t ≡ t → Bounded t
same_bounded t e = let same = ap levels_of e in (omega (arith, same), omega (arith, same))

int_le : (z : ℤ) → levels_of (int_tree z) ≤ 1
unfolding int_tree
int_le z = wrap_le 0 _ _ (str_le 0 _)

long_one : (z : ℤ) → levels_of (long_tree z) ≤ 1
unfolding long_tree
long_one z = wrap_le 0 _ _ (str_le 0 _)

number_tree_le : (t : List ℕ) → Plain t → levels_of (number_tree t) ≤ 1
number_tree_le t (an_int z e) = omega (arith, ap levels_of e, int_le z)
number_tree_le t (a_long z e) = omega (arith, ap levels_of e, long_one z)
number_tree_le t (as_it_is e) = omega (arith, ap levels_of e, of_number t)

number_bounded : (t : List ℕ) → Bounded (trees.Number t)
number_bounded t =
    let made = ap levels_of (wrapped_number t) in
    let low = number_tree_le t (plain t) in
    (omega (arith, of_number t), omega (arith, made, low))

-- ---- the induction

abbrev Proved : Type 0
Proved = (t : Tree) × Bounded t

abbrev tree_in : Proved → Tree
tree_in p = p.0

abbrev on_tree : List ℕ × Proved → List ℕ × Tree
on_tree e = (e.0, e.1.0)

items_bounded : (ys : List Proved) → IsDeeper (items_levels (map tree_in ys)) (items_levels (wrapped_items (map tree_in ys)))
items_bounded [] = (omega arith, omega arith)
items_bounded (y ∷ ys) = let r = items_bounded ys in (omega (arith, y.1.0, r.0), omega (arith, y.1.1, r.1))

fields_bounded : (ys : List (List ℕ × Proved)) → IsDeeper (field_levels (map on_tree ys)) (field_levels (wrapped_fields (map on_tree ys)))
fields_bounded [] = (omega arith, omega arith)
fields_bounded (y ∷ ys) = let r = fields_bounded ys in (omega (arith, y.1.1.0, r.0), omega (arith, y.1.1.1, r.1))

object_bounded : (es : List (List ℕ × Tree)) → IsDeeper (field_levels es) (field_levels (wrapped_fields es)) → Bounded (trees.Object es)
object_bounded es r =
    elim (cases_Bool (has_plain_parts es)) [
      | inl h ↦ same_bounded (trees.Object es) (told_object es h)
      | inr h ↦
          let made = ap levels_of (other_object es h) in
          let before = of_object es in
          let after = of_object (wrapped_fields es) in
          (omega (arith, made, before, after, r.0), omega (arith, made, before, after, r.1))
    ]

items_object : (ts : List Tree) → IsDeeper (items_levels ts) (items_levels (wrapped_items ts)) → Bounded (trees.Items ts)
items_object ts r =
    let made = ap levels_of (wrapped_list ts) in
    let before = of_items ts in
    let after = of_items (wrapped_items ts) in
    (omega (arith, made, before, after, r.0), omega (arith, made, before, after, r.1))

one_level : (y : Tree-F Proved) → Bounded (roll-Tree (map-Tree Proved Tree tree_in y))
one_level Tree-F.Null = subst Bounded (sym trees.rolls-Null) (same_bounded trees.Null wrapped_null)
one_level (Tree-F.Bool b) = subst Bounded (sym (trees.rolls-Bool b)) (same_bounded (trees.Bool b) (wrapped_bool b))
one_level (Tree-F.Str t) = subst Bounded (sym (trees.rolls-Str t)) (same_bounded (trees.Str t) (wrapped_str t))
one_level (Tree-F.Number t) = subst Bounded (sym (trees.rolls-Number t)) (number_bounded t)
one_level (Tree-F.Items ys) = subst Bounded (sym (trees.rolls-Items _)) (items_object _ (items_bounded ys))
one_level (Tree-F.Object ys) = subst Bounded (sym (trees.rolls-Object _)) (object_bounded _ (fields_bounded ys))

bounded_step : (x : Tree-F Tree) (y : Tree-F Proved) → map-Tree Proved Tree (λ (p : Proved). p.0) y ≡ x → Bounded (roll-Tree x)
bounded_step x y is = subst (λ (z : Tree-F Tree). Bounded (roll-Tree z)) is (one_level y)

pub wrapped_shallow : WrappedAreShallow
wrapped_shallow t = ind-Tree Bounded bounded_step t
