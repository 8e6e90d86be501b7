-- A tree with its plain whole numbers as wrappers, by its parts.
use Rattle.std.proofs.Common.{◌≡◌, ℕ, Bool as Truth, true, false, List, [], ◌∷◌, length, get_or, ◌<◌, ◌≤◌, refl, sym, ap, ◌∙◌, arith}
use Rattle.std.specs.Prelude.{map}
use Rattle.std.specs.Prelude.{ℤ, Some, None}
use Rattle.std.specs.Int.{w32, w64}
use mir.Val.{to_z, of_z}
use Rattle.bson_value.specs.declared.value.Value.{Value-F, fold-roll-Value}
use Rattle.bson_value.specs.declared.value.Value.TheVariants as values
use Rattle.containers.specs.Entries.{names_of}
use Rattle.extjson.specs.Numbers.{is_whole, whole_number, in_range}
use Rattle.extjson.specs.Trees.{int_tree, long_tree, tree_step, tree_of}
use Rattle.extjson.specs.Values.{plain_value, whole_value}
use Rattle.extjson.proofs.Wholes.{range_number, kept}
use Rattle.json_tree.specs.declared.tree.Tree.{Tree, Tree-F, roll-Tree, map-Tree}
use Rattle.json_tree.specs.declared.tree.Tree.TheVariants as trees
use Rattle.extjson.specs.Plain.{is_told, has_plain_parts, number_tree, object_tree, wrapped_step, wrapped_numbers, wrapped_items, wrapped_fields}
use Rattle.extjson.specs.Wrappers.{wrapper_of}
use Rattle.extjson.proofs.Recursions.{by_parts-roll}

roll_is : (x : Tree-F Tree) → wrapped_numbers (roll-Tree x) ≡ wrapped_step (map-Tree Tree (Tree × Tree) (λ t. (t, wrapped_numbers t)) x)
unfolding wrapped_numbers
roll_is x = by_parts-roll wrapped_step x

pub wrapped_null : wrapped_numbers trees.Null ≡ trees.Null
wrapped_null = ap wrapped_numbers (sym trees.rolls-Null) ∙ roll_is Tree-F.Null

pub wrapped_bool : (b : Truth) → wrapped_numbers (trees.Bool b) ≡ trees.Bool b
wrapped_bool b = ap wrapped_numbers (sym (trees.rolls-Bool b)) ∙ roll_is (Tree-F.Bool b)

pub wrapped_number : (t : List ℕ) → wrapped_numbers (trees.Number t) ≡ number_tree t
wrapped_number t = ap wrapped_numbers (sym (trees.rolls-Number t)) ∙ roll_is (Tree-F.Number t)

pub wrapped_str : (t : List ℕ) → wrapped_numbers (trees.Str t) ≡ trees.Str t
wrapped_str t = ap wrapped_numbers (sym (trees.rolls-Str t)) ∙ roll_is (Tree-F.Str t)

second_items : (ts : List Tree) → map (λ (p : Tree × Tree). p.1) (map (λ t. (t, wrapped_numbers t)) ts) ≡ wrapped_items ts
second_items [] = refl
second_items (t ∷ ts) = ap (λ (l : List Tree). wrapped_numbers t ∷ l) (second_items ts)

pub wrapped_list : (ts : List Tree) → wrapped_numbers (trees.Items ts) ≡ trees.Items (wrapped_items ts)
wrapped_list ts = ap wrapped_numbers (sym (trees.rolls-Items ts)) ∙ roll_is (Tree-F.Items ts) ∙ ap (λ (l : List Tree). trees.Items l) (second_items ts)

abbrev two : List ℕ × Tree → List ℕ × (Tree × Tree)
two e = (e.0, (e.1, wrapped_numbers e.1))

first_fields : (es : List (List ℕ × Tree)) → map (λ (e : List ℕ × (Tree × Tree)). (e.0, e.1.0)) (map two es) ≡ es
first_fields [] = refl
first_fields (e ∷ es) = ap (λ (l : List (List ℕ × Tree)). e ∷ l) (first_fields es)

second_fields : (es : List (List ℕ × Tree)) → map (λ (e : List ℕ × (Tree × Tree)). (e.0, e.1.1)) (map two es) ≡ wrapped_fields es
second_fields [] = refl
second_fields (e ∷ es) = ap (λ (l : List (List ℕ × Tree)). (e.0, wrapped_numbers e.1) ∷ l) (second_fields es)

object_is : (es : List (List ℕ × Tree)) → wrapped_numbers (trees.Object es) ≡ object_tree (map two es)
object_is es = ap wrapped_numbers (sym (trees.rolls-Object es)) ∙ roll_is (Tree-F.Object es)

pub told_object : (es : List (List ℕ × Tree)) → has_plain_parts es ≡ true → wrapped_numbers (trees.Object es) ≡ trees.Object es
unfolding object_tree
told_object es h = object_is es ∙ rw (first_fields es, h) refl

pub other_object : (es : List (List ℕ × Tree)) → has_plain_parts es ≡ false → wrapped_numbers (trees.Object es) ≡ trees.Object (wrapped_fields es)
unfolding object_tree
other_object es h = object_is es ∙ rw (first_fields es, second_fields es, h) refl

pub wrapped_names : (es : List (List ℕ × Tree)) → names_of (wrapped_fields es) ≡ names_of es
wrapped_names [] = refl
wrapped_names (e ∷ es) = ap (λ (ns : List (List ℕ)). e.0 ∷ ns) (wrapped_names es)

pub parts_none : (es : List (List ℕ × Tree)) → length es < 1 → has_plain_parts es ≡ false
unfolding has_plain_parts
parts_none [] lt = refl
parts_none (e ∷ es) lt = absurd (omega arith)

pub parts_one : (es : List (List ℕ × Tree)) (e : List ℕ × Tree) → 1 ≤ length es → length es < 2 → e ≡ get_or es 0 e → has_plain_parts es ≡ is_told (wrapper_of e.0) e.1
unfolding has_plain_parts
parts_one [] e le lt at = absurd (omega arith)
parts_one (f ∷ []) e le lt at = ap (λ (x : List ℕ × Tree). is_told (wrapper_of x.0) x.1) (sym at)
parts_one (f ∷ g ∷ es) e le lt at = absurd (omega arith)

pub parts_more : (es : List (List ℕ × Tree)) → 2 ≤ length es → has_plain_parts es ≡ false
unfolding has_plain_parts
parts_more [] le = refl
parts_more (e ∷ []) le = absurd (omega arith)
parts_more (e ∷ f ∷ es) le = refl

-- ---- numbers

tree_of_int : (z : ℤ) → tree_of (values.Int z) ≡ int_tree z
tree_of_int z = ap tree_of (sym (values.rolls-Int z)) ∙ fold-roll-Value Tree tree_step (Value-F.Int z)

tree_of_long : (z : ℤ) → tree_of (values.Long z) ≡ long_tree z
tree_of_long z = ap tree_of (sym (values.rolls-Long z)) ∙ fold-roll-Value Tree tree_step (Value-F.Long z)

pub number_int : (t : List ℕ) (n : ℤ) → is_whole t ≡ true → Some n ≡ in_range 2147483648 (whole_number t) → number_tree t ≡ int_tree (to_z w32 (of_z w32 n))
unfolding number_tree plain_value whole_value
number_int t n h r = rw (h, ← r) (tree_of_int n ∙ ap int_tree ((range_number 2147483648 (whole_number t) n r).0 ∙ sym (kept w32 (whole_number t) n r)))

pub number_long : (t : List ℕ) (n : ℤ) → is_whole t ≡ true → None ≡ in_range 2147483648 (whole_number t) → Some n ≡ in_range 9223372036854775808 (whole_number t) → number_tree t ≡ long_tree (to_z w64 (of_z w64 n))
unfolding number_tree plain_value whole_value
number_long t n h q r = rw (h, ← q, ← r) (tree_of_long n ∙ ap long_tree ((range_number 9223372036854775808 (whole_number t) n r).0 ∙ sym (kept w64 (whole_number t) n r)))
