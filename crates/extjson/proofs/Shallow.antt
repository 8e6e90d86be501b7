-- The levels of a value's tree.
use Rattle.std.proofs.Common.{◌≡◌, ℕ, suc, ◌+◌, ◌*◌, ◌≤◌, Bool as Truth, true, false, List, [], ◌∷◌, map, refl, sym, ap, ◌∙◌, subst, arith}
use Rattle.std.specs.Prelude.{ℤ, codes}
use Rattle.std.specs.Str.{bytes_eq}
use Rattle.bson_value.specs.declared.value.Value.{Value, Value-F, roll-Value, map-Value, fold-roll-Value, ind-Value}
use Rattle.bson_value.specs.Levels.{largest as most, levels_step, levels_in}
use Rattle.json_tree.specs.declared.tree.Tree.{Tree, Tree-F}
use Rattle.json_tree.specs.declared.tree.Tree.TheVariants as trees
use Rattle.json_tree.specs.Levels.{levels_of, items_levels, field_levels}
use Rattle.json_tree.proofs.Levels.{levels_roll, fields_same}
use Rattle.extjson.specs.Trees.{wrapped, paired, one, minus_one, double_tree, decimal_tree, binary_tree, undefined_tree, oid_tree, int_tree, long_tree, date_tree, regex_tree, pointer_tree, code_tree, scoped_tree, symbol_tree, stamp_tree, min_tree, max_tree, tree_step, tree_of, items_of, fields_of}
use Rattle.extjson.specs.Levels.{TreesAreShallow}

-- ---- levels by the kind of tree

pub of_str : (t : List ℕ) → levels_of (trees.Str t) ≡ 0
of_str t = ap levels_of (sym (trees.rolls-Str t)) ∙ levels_roll (Tree-F.Str t)

pub of_number : (t : List ℕ) → levels_of (trees.Number t) ≡ 0
of_number t = ap levels_of (sym (trees.rolls-Number t)) ∙ levels_roll (Tree-F.Number t)

of_bool : (b : Truth) → levels_of (trees.Bool b) ≡ 0
of_bool b = ap levels_of (sym (trees.rolls-Bool b)) ∙ levels_roll (Tree-F.Bool b)

of_null : levels_of trees.Null ≡ 0
of_null = ap levels_of (sym trees.rolls-Null) ∙ levels_roll Tree-F.Null

pub of_items : (ts : List Tree) → levels_of (trees.Items ts) ≡ suc (items_levels ts)
of_items ts = ap levels_of (sym (trees.rolls-Items ts)) ∙ levels_roll (Tree-F.Items ts)

pub of_object : (es : List (List ℕ × Tree)) → levels_of (trees.Object es) ≡ suc (field_levels es)
of_object es = ap levels_of (sym (trees.rolls-Object es)) ∙ (levels_roll (Tree-F.Object es) ∙ ap (λ (n : ℕ). suc n) (fields_same es))

pub wrap_le : (n : ℕ) (name : List ℕ) (t : Tree) → levels_of t ≤ n → levels_of (wrapped name t) ≤ n + 1
wrap_le n name t h = omega (arith, h, of_object ((name, t) ∷ []))

pair_le : (n : ℕ) (m k : List ℕ) (t u : Tree) → levels_of t ≤ n → levels_of u ≤ n → levels_of (paired m t k u) ≤ n + 1
pair_le n m k t u h g = omega (arith, h, g, of_object ((m, t) ∷ (k, u) ∷ []))

pub str_le : (n : ℕ) (t : List ℕ) → levels_of (trees.Str t) ≤ n
str_le n t = omega (arith, of_str t)

number_le : (n : ℕ) (t : List ℕ) → levels_of (trees.Number t) ≤ n
number_le n t = omega (arith, of_number t)

-- ---- the wrappers

double_le : (d : List ℕ) (p q : Truth) → bytes_eq d one ≡ p → bytes_eq d minus_one ≡ q → levels_of (double_tree d) ≤ 3
unfolding double_tree
double_le d true q e f = rw e (wrap_le 2 _ _ (str_le 2 _))
double_le d false true e f = rw (e, f) (wrap_le 2 _ _ (str_le 2 _))
double_le d false false e f = rw (e, f) (wrap_le 2 _ _ (str_le 2 _))

oid_le : (d : List ℕ) → levels_of (oid_tree d) ≤ 1
unfolding oid_tree
oid_le d = wrap_le 0 _ _ (str_le 0 _)

long_le : (z : ℤ) → levels_of (long_tree z) ≤ 2
unfolding long_tree
long_le z = wrap_le 1 _ _ (str_le 1 _)

abbrev IsLow : Tree → Type 0
IsLow t = levels_of t ≤ 3

int_low : (z : ℤ) → IsLow (int_tree z)
unfolding int_tree
int_low z = wrap_le 2 _ _ (str_le 2 _)

date_low : (z : ℤ) → IsLow (date_tree z)
unfolding date_tree
date_low z = wrap_le 2 _ _ (long_le z)

decimal_low : (d : List ℕ) → IsLow (decimal_tree d)
unfolding decimal_tree
decimal_low d = wrap_le 2 _ _ (str_le 2 _)

binary_low : (s : ℕ) (b : List ℕ) → IsLow (binary_tree s b)
unfolding binary_tree
binary_low s b = wrap_le 2 _ _ (pair_le 1 _ _ _ _ (str_le 1 _) (str_le 1 _))

undefined_low : IsLow undefined_tree
unfolding undefined_tree
undefined_low = wrap_le 2 _ _ (omega (arith, of_bool true))

regex_low : (p o : List ℕ) → IsLow (regex_tree p o)
unfolding regex_tree
regex_low p o = wrap_le 2 _ _ (pair_le 1 _ _ _ _ (str_le 1 _) (str_le 1 _))

pointer_low : (t d : List ℕ) → IsLow (pointer_tree t d)
unfolding pointer_tree
pointer_low t d = wrap_le 2 _ _ (pair_le 1 _ _ _ _ (str_le 1 _) (oid_le d))

code_low : (t : List ℕ) → IsLow (code_tree t)
unfolding code_tree
code_low t = wrap_le 2 _ _ (str_le 2 _)

symbol_low : (t : List ℕ) → IsLow (symbol_tree t)
unfolding symbol_tree
symbol_low t = wrap_le 2 _ _ (str_le 2 _)

stamp_low : (secs inc : ℕ) → IsLow (stamp_tree secs inc)
unfolding stamp_tree
stamp_low secs inc = wrap_le 2 _ _ (pair_le 1 _ _ _ _ (number_le 1 _) (number_le 1 _))

min_low : IsLow min_tree
unfolding min_tree
min_low = wrap_le 2 _ _ (number_le 2 _)

max_low : IsLow max_tree
unfolding max_tree
max_low = wrap_le 2 _ _ (number_le 2 _)

scoped_le : (t : List ℕ) (es : List (List ℕ × Tree)) → levels_of (scoped_tree t es) ≤ field_levels es + 2
unfolding scoped_tree
scoped_le t es = omega (arith, pair_le (field_levels es + 1) (codes "$code") (codes "$scope") (trees.Str t) (trees.Object es) (str_le _ t) (omega (arith, of_object es)))

-- ---- the induction

abbrev IsShallow : Value → Type 0
IsShallow v = levels_of (tree_of v) ≤ 2 * levels_in v + 3

abbrev Proved : Type 0
Proved = (v : Value) × IsShallow v

abbrev value_in : Proved → Value
value_in p = p.0

abbrev on_value : List ℕ × Proved → List ℕ × Value
on_value e = (e.0, e.1.0)

levels_in-roll : (x : Value-F Value) → levels_in (roll-Value x) ≡ levels_step (map-Value Value ℕ levels_in x)
unfolding levels_in
levels_in-roll x = fold-roll-Value ℕ levels_step x

items_le : (ys : List Proved) → items_levels (items_of (map value_in ys)) ≤ 2 * most (map levels_in (map value_in ys)) + 3
items_le [] = omega arith
items_le (y ∷ ys) = omega (arith, y.1, items_le ys)

fields_le : (ys : List (List ℕ × Proved)) → field_levels (fields_of (map on_value ys)) ≤ 2 * most (map (λ (e : List ℕ × ℕ). e.1) (map (λ (e : List ℕ × Value). (e.0, levels_in e.1)) (map on_value ys))) + 3
fields_le [] = omega arith
fields_le (y ∷ ys) = omega (arith, y.1.1, fields_le ys)

level_le : (y : Value-F Proved) → levels_of (tree_step (map-Value Value Tree tree_of (map-Value Proved Value value_in y))) ≤ 2 * levels_step (map-Value Value ℕ levels_in (map-Value Proved Value value_in y)) + 3
level_le (Value-F.Double d) = double_le d (bytes_eq d one) (bytes_eq d minus_one) refl refl
level_le (Value-F.Str t) = str_le 3 t
level_le (Value-F.Object ys) = omega (arith, of_object (fields_of (map on_value ys)), fields_le ys)
level_le (Value-F.Array ys) = omega (arith, of_items (items_of (map value_in ys)), items_le ys)
level_le (Value-F.Binary s b) = binary_low s b
level_le Value-F.Undefined = undefined_low
level_le (Value-F.Oid d) = omega (arith, oid_le d)
level_le (Value-F.Bool b) = omega (arith, of_bool b)
level_le (Value-F.Date z) = date_low z
level_le Value-F.Null = omega (arith, of_null)
level_le (Value-F.Regex p o) = regex_low p o
level_le (Value-F.DbPointer t d) = pointer_low t d
level_le (Value-F.Code t) = code_low t
level_le (Value-F.Symbol t) = symbol_low t
level_le (Value-F.ScopedCode t ys) = omega (arith, scoped_le t (fields_of (map on_value ys)), fields_le ys)
level_le (Value-F.Int z) = int_low z
level_le (Value-F.Stamp s) = stamp_low s.secs s.inc
level_le (Value-F.Long z) = omega (arith, long_le z)
level_le (Value-F.Decimal d) = decimal_low d
level_le Value-F.MinKey = min_low
level_le Value-F.MaxKey = max_low

step_le : (x : Value-F Value) (y : Value-F Proved) → map-Value Proved Value (λ p. p.0) y ≡ x → IsShallow (roll-Value x)
step_le x y e =
    let made : levels_of (tree_of (roll-Value x)) ≡ levels_of (tree_step (map-Value Value Tree tree_of x)) = ap levels_of (fold-roll-Value Tree tree_step x) in
    let here : levels_of (tree_step (map-Value Value Tree tree_of x)) ≤ 2 * levels_step (map-Value Value ℕ levels_in x) + 3 =
    subst (λ (z : Value-F Value). levels_of (tree_step (map-Value Value Tree tree_of z)) ≤ 2 * levels_step (map-Value Value ℕ levels_in z) + 3) e (level_le y) in
    omega (arith, made, here, levels_in-roll x)

pub trees_shallow : TreesAreShallow
trees_shallow v = ind-Value IsShallow step_le v
