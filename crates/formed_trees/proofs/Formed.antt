-- The tree of a well-formed value is well-formed.
use Rattle.std.proofs.Common.{◌≡◌, ℕ, ◌<◌, ◌^◌, Bool as Truth, true, false, List, [], ◌∷◌, map, refl, sym, subst, arith}
use Rattle.std.specs.Prelude.{ℤ, FitsSigned}
use Rattle.std.specs.Int.{w32, w64}
use Rattle.std.specs.Int.Signed.{mag}
use Rattle.std.specs.Fmt.{signed_decimal}
use Rattle.std.specs.List.{AllByRecursion}
use Rattle.std.specs.Str.{is_utf8, bytes_eq}
use Rattle.std.proofs.lemmas.Fmt.{IsAscii-signed}
use Rattle.bson_value.specs.declared.value.Value.{Value, Value-F, roll-Value, map-Value, fold-roll-Value, ind-Value}
use Rattle.bson_value.specs.WellFormed.{IsName, IsWellFormedLevel, IsWellFormed}
use Rattle.bson_value.specs.WellFormed as values
use Rattle.containers.specs.Entries.{AreDistinct}
use Rattle.json_tree.specs.declared.tree.Tree.{Tree}
use Rattle.json_tree.specs.declared.tree.Tree.TheVariants as trees
use Rattle.json_tree.specs.WellFormed.{AreNames, AreWellFormedItems, AreWellFormedFields}
use Rattle.json_tree.specs.WellFormed.{IsWellFormed as IsWell}
use Rattle.json_tree.proofs.WellFormed.{well_null, well_bool, well_number, well_str, well_items, well_object}
use Rattle.extjson.specs.Trees.{wrapped, paired, hex_text, one, minus_one, double_tree, decimal_tree, binary_tree, undefined_tree, oid_tree, int_tree, long_tree, date_tree, regex_tree, pointer_tree, code_tree, scoped_tree, symbol_tree, stamp_tree, min_tree, max_tree, tree_step, tree_of, items_of, fields_of}
use Rattle.extjson.proofs.RoundTrips.{Holds, held, here}
use Rattle.extjson.proofs.Formed.{ascii}
use Rattle.extjson.proofs.Decimals.{decimal_number, one_number}
use Rattle.formed_trees.specs.Laws.{TreesAreFormed}
use Rattle.formed_trees.proofs.Texts.{of_ascii, differ, hex_text_formed, base64_formed}
use Rattle.extjson.proofs.Wraps.{names_kept}

well_wrapped : (name : List ℕ) (t : Tree) → is_utf8 name ≡ true → IsWell t → IsWell (wrapped name t)
well_wrapped name t u k = well_object ((name, t) ∷ []) ((tt, tt), (u, tt)) (k, tt)

well_paired : (m n : List ℕ) (t u : Tree) → AreDistinct (m ∷ n ∷ []) → is_utf8 m ≡ true → is_utf8 n ≡ true → IsWell t → IsWell u → IsWell (paired m t n u)
well_paired m n t u d a b k l = well_object ((m, t) ∷ (n, u) ∷ []) (d, (a, (b, tt))) (k, (l, tt))

well_hex : (bs : List ℕ) → IsWell (hex_text bs)
well_hex bs = well_str _ (hex_text_formed bs)

well_signed : (z : ℤ) → mag z < 2 ^ 63 → IsWell (trees.Str (signed_decimal z))
well_signed z h = well_str _ (of_ascii _ (IsAscii-signed z h))

well_double : (d : List ℕ) (p q : Truth) → bytes_eq d one ≡ p → bytes_eq d minus_one ≡ q → IsWell (double_tree d)
unfolding double_tree
well_double d true q e f = rw e (well_wrapped _ _ (ascii _ refl) (well_str _ (ascii _ refl)))
well_double d false true e f = rw (e, f) (well_wrapped _ _ (ascii _ refl) (well_str _ (ascii _ refl)))
well_double d false false e f = rw (e, f) (well_wrapped _ _ (ascii _ refl) (well_hex _))

well_decimal : (d : List ℕ) → IsWell (decimal_tree d)
unfolding decimal_tree
well_decimal d = well_wrapped _ _ (ascii _ refl) (well_hex _)

well_binary : (s : ℕ) (b : List ℕ) → IsWell (binary_tree s b)
unfolding binary_tree
well_binary s b = well_wrapped _ _ (ascii _ refl) (well_paired _ _ _ _ ((differ _ _ refl, tt), (tt, tt)) (ascii _ refl) (ascii _ refl) (well_str _ (base64_formed b)) (well_hex _))

well_undefined : IsWell undefined_tree
unfolding undefined_tree
well_undefined = well_wrapped _ _ (ascii _ refl) (well_bool true)

well_oid : (d : List ℕ) → IsWell (oid_tree d)
unfolding oid_tree
well_oid d = well_wrapped _ _ (ascii _ refl) (well_hex d)

well_int : (z : ℤ) → FitsSigned w32 z → IsWell (int_tree z)
unfolding int_tree
well_int z f = well_wrapped _ _ (ascii _ refl) (well_signed z (omega (arith, f.sfits)))

well_long : (z : ℤ) → FitsSigned w64 z → IsWell (long_tree z)
unfolding long_tree
well_long z f = well_wrapped _ _ (ascii _ refl) (well_signed z f.sfits)

well_date : (z : ℤ) → FitsSigned w64 z → IsWell (date_tree z)
unfolding date_tree
well_date z f = well_wrapped _ _ (ascii _ refl) (well_long z f)

well_regex : (p o : List ℕ) → is_utf8 p ≡ true → is_utf8 o ≡ true → IsWell (regex_tree p o)
unfolding regex_tree
well_regex p o a b = well_wrapped _ _ (ascii _ refl) (well_paired _ _ _ _ ((differ _ _ refl, tt), (tt, tt)) (ascii _ refl) (ascii _ refl) (well_str p a) (well_str o b))

well_pointer : (t d : List ℕ) → is_utf8 t ≡ true → IsWell (pointer_tree t d)
unfolding pointer_tree
well_pointer t d a = well_wrapped _ _ (ascii _ refl) (well_paired _ _ _ _ ((differ _ _ refl, tt), (tt, tt)) (ascii _ refl) (ascii _ refl) (well_str t a) (well_oid d))

well_code : (t : List ℕ) → is_utf8 t ≡ true → IsWell (code_tree t)
unfolding code_tree
well_code t a = well_wrapped _ _ (ascii _ refl) (well_str t a)

well_symbol : (t : List ℕ) → is_utf8 t ≡ true → IsWell (symbol_tree t)
unfolding symbol_tree
well_symbol t a = well_wrapped _ _ (ascii _ refl) (well_str t a)

well_scoped : (t : List ℕ) (es : List (List ℕ × Tree)) → is_utf8 t ≡ true → IsWell (trees.Object es) → IsWell (scoped_tree t es)
unfolding scoped_tree
well_scoped t es a k = well_paired _ _ _ _ ((differ _ _ refl, tt), (tt, tt)) (ascii _ refl) (ascii _ refl) (well_str t a) k

well_stamp : (secs inc : ℕ) → secs < 2 ^ 32 → inc < 2 ^ 32 → IsWell (stamp_tree secs inc)
unfolding stamp_tree
well_stamp secs inc a b = well_wrapped _ _ (ascii _ refl) (well_paired _ _ _ _ ((differ _ _ refl, tt), (tt, tt)) (ascii _ refl) (ascii _ refl) (well_number _ (decimal_number secs (omega arith))) (well_number _ (decimal_number inc (omega arith))))

well_min : IsWell min_tree
unfolding min_tree
well_min = well_wrapped _ _ (ascii _ refl) (well_number _ one_number)

well_max : IsWell max_tree
unfolding max_tree
well_max = well_wrapped _ _ (ascii _ refl) (well_number _ one_number)

-- ---- names

names_utf8 : (fs : List (List ℕ × Value)) → AllByRecursion (λ e. IsName e.0) fs → AllByRecursion (λ e. is_utf8 e.0 ≡ true) (fields_of fs)
names_utf8 [] h = tt
names_utf8 (f ∷ fs) h = (h.0.utf8, names_utf8 fs h.1)

names_well : (fs : List (List ℕ × Value)) → values.AreNames fs → AreNames (fields_of fs)
names_well fs h = (subst AreDistinct (sym (names_kept fs)) h.0, names_utf8 fs h.1)

-- ---- the induction

abbrev TreeWell : Value → Type 0
TreeWell v = IsWellFormed v → IsWell (tree_of v)

abbrev Proved : Type 0
Proved = (v : Value) × TreeWell v

abbrev value_in : Proved → Value
value_in p = p.0

abbrev on_value : List ℕ × Proved → List ℕ × Value
on_value e = (e.0, e.1.0)

items_well : (ys : List Proved) → AllByRecursion IsWellFormed (map value_in ys) → AreWellFormedItems (items_of (map value_in ys))
items_well [] k = tt
items_well (y ∷ ys) k = (y.1 k.0, items_well ys k.1)

fields_well : (ys : List (List ℕ × Proved)) → AllByRecursion (λ e. IsWellFormed e.1) (map on_value ys) → AreWellFormedFields (fields_of (map on_value ys))
fields_well [] k = tt
fields_well (y ∷ ys) k = (y.1.1 k.0, fields_well ys k.1)

object_well : (ys : List (List ℕ × Proved)) → values.AreNames (map on_value ys) → AllByRecursion (λ e. IsWellFormed e.1) (map on_value ys) → IsWell (trees.Object (fields_of (map on_value ys)))
object_well ys n k = well_object _ (names_well (map on_value ys) n) (fields_well ys k)

level_well : (y : Value-F Proved) → IsWellFormedLevel (map-Value Proved Value value_in y) → Holds IsWellFormedLevel (map-Value Proved Value value_in y) → IsWell (tree_step (map-Value Value Tree tree_of (map-Value Proved Value value_in y)))
level_well (Value-F.Double d) k h = well_double d (bytes_eq d one) (bytes_eq d minus_one) refl refl
level_well (Value-F.Str t) k h = well_str t k
level_well (Value-F.Object ys) k h = object_well ys k h
level_well (Value-F.Array ys) k h = well_items _ (items_well ys h)
level_well (Value-F.Binary s b) k h = well_binary s b
level_well Value-F.Undefined k h = well_undefined
level_well (Value-F.Oid d) k h = well_oid d
level_well (Value-F.Bool b) k h = well_bool b
level_well (Value-F.Date z) k h = well_date z k
level_well Value-F.Null k h = well_null
level_well (Value-F.Regex p o) k h = well_regex p o k.0.utf8 k.1.utf8
level_well (Value-F.DbPointer t d) k h = well_pointer t d k.0
level_well (Value-F.Code t) k h = well_code t k
level_well (Value-F.Symbol t) k h = well_symbol t k
level_well (Value-F.ScopedCode t ys) k h = well_scoped t _ k.0 (object_well ys k.1 h)
level_well (Value-F.Int z) k h = well_int z k
level_well (Value-F.Stamp s) k h = well_stamp s.secs s.inc k.0 k.1
level_well (Value-F.Long z) k h = well_long z k
level_well (Value-F.Decimal d) k h = well_decimal d
level_well Value-F.MinKey k h = well_min
level_well Value-F.MaxKey k h = well_max

step_well : (x : Value-F Value) (y : Value-F Proved) → map-Value Proved Value (λ p. p.0) y ≡ x → TreeWell (roll-Value x)
step_well x y e k =
    subst IsWell (sym (fold-roll-Value Tree tree_step x))
    (subst (λ (z : Value-F Value). IsWellFormedLevel z → Holds IsWellFormedLevel z → IsWell (tree_step (map-Value Value Tree tree_of z))) e (level_well y) (here IsWellFormedLevel x k) (held IsWellFormedLevel x k))

pub trees_formed : TreesAreFormed
trees_formed v = ind-Value TreeWell step_well v
