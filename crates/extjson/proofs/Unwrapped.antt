-- The tree of a value has no plain number outside its wrappers.
use Rattle.std.proofs.Common.{◌≡◌, ℕ, ◌<◌, ◌^◌, Bool as Truth, true, false, List, [], ◌∷◌, map, refl, sym, ap, ◌∙◌, subst, inl, inr}
use Rattle.std.specs.Prelude.{ℤ, is_ok}
use Rattle.std.specs.List.{AllByRecursion}
use Rattle.std.specs.Str.{bytes_eq}
use Rattle.std.proofs.lemmas.Bool.{cases_Bool}
use Rattle.bson_value.specs.declared.value.Value.{Value, Value-F, roll-Value, map-Value, fold-roll-Value, ind-Value}
use Rattle.bson_value.specs.declared.value.Value.TheVariants as values
use Rattle.bson_value.specs.WellFormed.{IsWellFormedLevel, IsWellFormed}
use Rattle.json_tree.specs.declared.tree.Tree.{Tree}
use Rattle.json_tree.specs.declared.tree.Tree.TheVariants as trees
use Rattle.extjson.specs.Wrappers.{wrapper_of, outermost_names}
use Rattle.extjson.specs.Trees.{wrapped, paired, one, minus_one, double_tree, decimal_tree, binary_tree, undefined_tree, oid_tree, int_tree, long_tree, date_tree, regex_tree, pointer_tree, code_tree, scoped_tree, symbol_tree, stamp_tree, min_tree, max_tree, tree_step, tree_of, items_of, fields_of}
use Rattle.extjson.specs.Plain.{has_plain_parts, wrapped_numbers, wrapped_items, wrapped_fields, TreesAreWrapped}
use Rattle.extjson.proofs.Wrapping.{wrapped_null, wrapped_bool, wrapped_str, wrapped_list, told_object, other_object}
use Rattle.extjson.proofs.ReadBack.{stamp_told, key_told}
use Rattle.extjson.proofs.RoundTrips.{Holds, held, here}

abbrev Stays : Tree → Type 0
Stays t = wrapped_numbers t ≡ t

in_wrapper : (name : List ℕ) (t : Tree) → has_plain_parts ((name, t) ∷ []) ≡ false → Stays t → Stays (wrapped name t)
in_wrapper name t h e = other_object _ h ∙ ap (λ (u : Tree). trees.Object ((name, u) ∷ [])) e

in_pair : (m n : List ℕ) (t u : Tree) → Stays t → Stays u → Stays (paired m t n u)
unfolding has_plain_parts
in_pair m n t u e f = other_object _ refl ∙ (λ i. trees.Object ((m, e i) ∷ (n, f i) ∷ []))

in_object : (es : List (List ℕ × Tree)) → wrapped_fields es ≡ es → Stays (trees.Object es)
in_object es e =
    elim (cases_Bool (has_plain_parts es)) [
      | inl h ↦ told_object es h
      | inr h ↦ other_object es h ∙ ap (λ (l : List (List ℕ × Tree)). trees.Object l) e
    ]

-- ---- the wrappers

stays_int : (z : ℤ) → Stays (int_tree z)
unfolding int_tree has_plain_parts wrapper_of outermost_names
stays_int z = in_wrapper _ _ refl (wrapped_str _)

stays_long : (z : ℤ) → Stays (long_tree z)
unfolding long_tree has_plain_parts wrapper_of outermost_names
stays_long z = in_wrapper _ _ refl (wrapped_str _)

stays_date : (z : ℤ) → Stays (date_tree z)
unfolding date_tree has_plain_parts wrapper_of outermost_names
stays_date z = in_wrapper _ _ refl (stays_long z)

double_case : (d : List ℕ) (p q : Truth) → bytes_eq d one ≡ p → bytes_eq d minus_one ≡ q → Stays (double_tree d)
unfolding double_tree has_plain_parts wrapper_of outermost_names
double_case d true q e f = rw e (in_wrapper _ _ refl (wrapped_str _))
double_case d false true e f = rw (e, f) (in_wrapper _ _ refl (wrapped_str _))
double_case d false false e f = rw (e, f) (in_wrapper _ _ refl (wrapped_str _))

stays_decimal : (d : List ℕ) → Stays (decimal_tree d)
unfolding decimal_tree has_plain_parts wrapper_of outermost_names
stays_decimal d = in_wrapper _ _ refl (wrapped_str _)

stays_binary : (s : ℕ) (b : List ℕ) → Stays (binary_tree s b)
unfolding binary_tree has_plain_parts wrapper_of outermost_names
stays_binary s b = in_wrapper _ _ refl (in_pair _ _ _ _ (wrapped_str _) (wrapped_str _))

stays_undefined : Stays undefined_tree
unfolding undefined_tree has_plain_parts wrapper_of outermost_names
stays_undefined = in_wrapper _ _ refl (wrapped_bool true)

stays_oid : (d : List ℕ) → Stays (oid_tree d)
unfolding oid_tree has_plain_parts wrapper_of outermost_names
stays_oid d = in_wrapper _ _ refl (wrapped_str _)

stays_regex : (p o : List ℕ) → Stays (regex_tree p o)
unfolding regex_tree has_plain_parts wrapper_of outermost_names
stays_regex p o = in_wrapper _ _ refl (in_pair _ _ _ _ (wrapped_str p) (wrapped_str o))

stays_pointer : (t d : List ℕ) → Stays (pointer_tree t d)
unfolding pointer_tree has_plain_parts wrapper_of outermost_names
stays_pointer t d = in_wrapper _ _ refl (in_pair _ _ _ _ (wrapped_str t) (stays_oid d))

stays_code : (t : List ℕ) → Stays (code_tree t)
unfolding code_tree has_plain_parts wrapper_of outermost_names
stays_code t = in_wrapper _ _ refl (wrapped_str t)

stays_symbol : (t : List ℕ) → Stays (symbol_tree t)
unfolding symbol_tree has_plain_parts wrapper_of outermost_names
stays_symbol t = in_wrapper _ _ refl (wrapped_str t)

stays_scoped : (t : List ℕ) (es : List (List ℕ × Tree)) → wrapped_fields es ≡ es → Stays (scoped_tree t es)
unfolding scoped_tree
stays_scoped t es e = in_pair _ _ _ _ (wrapped_str t) (in_object es e)

-- the numbers of a timestamp and of a key belong to their wrappers
stays_stamp : (secs inc : ℕ) → secs < 2 ^ 32 → inc < 2 ^ 32 → Stays (stamp_tree secs inc)
unfolding stamp_tree has_plain_parts wrapper_of outermost_names
stays_stamp secs inc a b = told_object _ (ap is_ok (stamp_told secs inc a b))

stays_min : Stays min_tree
unfolding min_tree has_plain_parts wrapper_of outermost_names
stays_min = told_object _ (ap is_ok (key_told values.MinKey))

stays_max : Stays max_tree
unfolding max_tree has_plain_parts wrapper_of outermost_names
stays_max = told_object _ (ap is_ok (key_told values.MaxKey))

-- ---- the induction

abbrev TreeStays : Value → Type 0
TreeStays v = IsWellFormed v → Stays (tree_of v)

abbrev Proved : Type 0
Proved = (v : Value) × TreeStays v

abbrev value_in : Proved → Value
value_in p = p.0

abbrev on_value : List ℕ × Proved → List ℕ × Value
on_value e = (e.0, e.1.0)

items_stay : (ys : List Proved) → AllByRecursion IsWellFormed (map value_in ys) → wrapped_items (items_of (map value_in ys)) ≡ items_of (map value_in ys)
items_stay [] k = refl
items_stay (y ∷ ys) k = λ i. y.1 k.0 i ∷ items_stay ys k.1 i

fields_stay : (ys : List (List ℕ × Proved)) → AllByRecursion (λ e. IsWellFormed e.1) (map on_value ys) → wrapped_fields (fields_of (map on_value ys)) ≡ fields_of (map on_value ys)
fields_stay [] k = refl
fields_stay (y ∷ ys) k = λ i. (y.0, y.1.1 k.0 i) ∷ fields_stay ys k.1 i

level_stays : (y : Value-F Proved) → IsWellFormedLevel (map-Value Proved Value value_in y) → Holds IsWellFormedLevel (map-Value Proved Value value_in y) → Stays (tree_step (map-Value Value Tree tree_of (map-Value Proved Value value_in y)))
level_stays (Value-F.Double d) k h = double_case d (bytes_eq d one) (bytes_eq d minus_one) refl refl
level_stays (Value-F.Str t) k h = wrapped_str t
level_stays (Value-F.Object ys) k h = in_object _ (fields_stay ys h)
level_stays (Value-F.Array ys) k h = wrapped_list _ ∙ ap (λ (l : List Tree). trees.Items l) (items_stay ys h)
level_stays (Value-F.Binary s b) k h = stays_binary s b
level_stays Value-F.Undefined k h = stays_undefined
level_stays (Value-F.Oid d) k h = stays_oid d
level_stays (Value-F.Bool b) k h = wrapped_bool b
level_stays (Value-F.Date z) k h = stays_date z
level_stays Value-F.Null k h = wrapped_null
level_stays (Value-F.Regex p o) k h = stays_regex p o
level_stays (Value-F.DbPointer t d) k h = stays_pointer t d
level_stays (Value-F.Code t) k h = stays_code t
level_stays (Value-F.Symbol t) k h = stays_symbol t
level_stays (Value-F.ScopedCode t ys) k h = stays_scoped t _ (fields_stay ys h)
level_stays (Value-F.Int z) k h = stays_int z
level_stays (Value-F.Stamp s) k h = stays_stamp s.secs s.inc k.0 k.1
level_stays (Value-F.Long z) k h = stays_long z
level_stays (Value-F.Decimal d) k h = stays_decimal d
level_stays Value-F.MinKey k h = stays_min
level_stays Value-F.MaxKey k h = stays_max

step_stays : (x : Value-F Value) (y : Value-F Proved) → map-Value Proved Value (λ p. p.0) y ≡ x → TreeStays (roll-Value x)
step_stays x y e k =
    subst Stays (sym (fold-roll-Value Tree tree_step x))
    (subst (λ (z : Value-F Value). IsWellFormedLevel z → Holds IsWellFormedLevel z → Stays (tree_step (map-Value Value Tree tree_of z))) e (level_stays y) (here IsWellFormedLevel x k) (held IsWellFormedLevel x k))

pub trees_wrapped : TreesAreWrapped
trees_wrapped v = ind-Value TreeStays step_stays v
