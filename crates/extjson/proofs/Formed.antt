-- A well-formed tree stays so when its plain numbers become wrappers.
use Rattle.std.proofs.Common.{◌≡◌, ℕ, ◌^◌, ◌<◌, true, ltb, List, [], ◌∷◌, map, Option, Some, None, refl, sym, ap, ◌∙◌, subst, inl, inr, arith}
use Rattle.std.specs.Prelude.{ℤ, pos, negsuc, codes}
use Rattle.std.specs.Fmt.{signed_decimal}
use Rattle.std.specs.Int.{w32, w64}
use Rattle.std.specs.List.{AllByRecursion, list_all}
use Rattle.std.specs.Str.{is_utf8, IsAscii}
use Rattle.std.proofs.lemmas.Bool.{cases_Bool, and_parts, ltb-true}
use Rattle.std.proofs.lemmas.Fmt.{IsAscii-signed}
use Rattle.std.proofs.lemmas.Str.{is_utf8-from_IsUtf8, IsUtf8-from_ascii}
use Rattle.std.proofs.lemmas.Str.Ascii.{IsAscii-cons, IsAscii-nil}
use lib.Signed.{mag}
use Rattle.containers.specs.Entries.{AreDistinct}
use Rattle.json_tree.specs.declared.tree.Tree.{Tree, Tree-F, roll-Tree, map-Tree, ind-Tree}
use Rattle.json_tree.specs.declared.tree.Tree.TheVariants as trees
use Rattle.json_tree.specs.Numbers.{IsNumber}
use Rattle.json_tree.specs.WellFormed.{AreNames, IsWellFormedLevel, IsWellFormed, AreWellFormedItems, AreWellFormedFields}
use Rattle.json_tree.proofs.WellFormed.{HoldsWellFormed, held_well, here_well, well_number, well_str, well_items, well_object}
use Rattle.extjson.specs.Numbers.{is_whole, whole_number, is_within, in_range}
use Rattle.extjson.specs.Trees.{wrapped, int_tree, long_tree}
use Rattle.extjson.specs.Plain.{has_plain_parts, number_tree, wrapped_numbers, wrapped_items, wrapped_fields, WrappedAreWellFormed}
use Rattle.extjson.proofs.Wholes.{range_number, kept}
use Rattle.extjson.proofs.Wrapping.{wrapped_null, wrapped_bool, wrapped_number, wrapped_str, wrapped_list, told_object, other_object, wrapped_names, number_int, number_long}
use Rattle.extjson.proofs.Once.{not_whole, too_far}

-- ---- texts of ASCII characters

ascii_bytes : (t : List ℕ) → list_all (λ b. ltb b 128) t ≡ true → IsAscii t
ascii_bytes [] h = IsAscii-nil
ascii_bytes (b ∷ t) h = let p = and_parts (ltb b 128) (list_all (λ c. ltb c 128) t) h in IsAscii-cons b t (ltb-true b 128 p.0) (ascii_bytes t p.1)

pub ascii : (t : List ℕ) → list_all (λ b. ltb b 128) t ≡ true → is_utf8 t ≡ true
ascii t h = is_utf8-from_IsUtf8 t (IsUtf8-from_ascii t (ascii_bytes t h))

-- ---- numbers

within_small : (limit : ℕ) (z : ℤ) → is_within limit z ≡ true → mag z < limit
within_small limit (pos n) h = ltb-true n limit h
within_small limit (negsuc n) h = ltb-true n limit h

text_well : (z : ℤ) → mag z < 2 ^ 63 → IsWellFormed (trees.Str (signed_decimal z))
text_well z h = well_str _ (is_utf8-from_IsUtf8 _ (IsUtf8-from_ascii _ (IsAscii-signed z h)))

wrapper_well : (name : List ℕ) (t : Tree) → is_utf8 name ≡ true → IsWellFormed t → IsWellFormed (wrapped name t)
wrapper_well name t u k = well_object ((name, t) ∷ []) ((tt, tt), (u, tt)) (k, tt)

int_well : (z : ℤ) → mag z < 2 ^ 63 → IsWellFormed (int_tree z)
unfolding int_tree
int_well z h = wrapper_well (codes "$numberInt") _ (ascii (codes "$numberInt") refl) (text_well z h)

long_well : (z : ℤ) → mag z < 2 ^ 63 → IsWellFormed (long_tree z)
unfolding long_tree
long_well z h = wrapper_well (codes "$numberLong") _ (ascii (codes "$numberLong") refl) (text_well z h)

by_range : (t : List ℕ) → IsNumber t → is_whole t ≡ true → (a b : Option ℤ) → a ≡ in_range 2147483648 (whole_number t) → b ≡ in_range 9223372036854775808 (whole_number t) → IsWellFormed (number_tree t)
by_range t k h (Some n) b q r =
    let small = within_small 2147483648 (whole_number t) (range_number 2147483648 (whole_number t) n q).1 in
    subst IsWellFormed (sym (number_int t n h q ∙ ap int_tree (kept w32 (whole_number t) n q))) (int_well (whole_number t) (omega (arith, small)))
by_range t k h None (Some n) q r =
    let small = within_small 9223372036854775808 (whole_number t) (range_number 9223372036854775808 (whole_number t) n r).1 in
    subst IsWellFormed (sym (number_long t n h q r ∙ ap long_tree (kept w64 (whole_number t) n r))) (long_well (whole_number t) (omega (arith, small)))
by_range t k h None None q r = subst IsWellFormed (sym (too_far t h q r)) (well_number t k)

number_well : (t : List ℕ) → IsNumber t → IsWellFormed (number_tree t)
number_well t k =
    elim (cases_Bool (is_whole t)) [
      | inl h ↦ by_range t k h _ _ refl refl
      | inr h ↦ subst IsWellFormed (sym (not_whole t h)) (well_number t k)
    ]

-- ---- the induction

abbrev Stays : Tree → Type 0
Stays t = IsWellFormed t → IsWellFormed (wrapped_numbers t)

same_stays : (t : Tree) → wrapped_numbers t ≡ t → Stays t
same_stays t e k = subst IsWellFormed (sym e) k

abbrev Proved : Type 0
Proved = (t : Tree) × Stays t

abbrev tree_in : Proved → Tree
tree_in p = p.0

abbrev on_tree : List ℕ × Proved → List ℕ × Tree
on_tree e = (e.0, e.1.0)

items_well : (ys : List Proved) → AreWellFormedItems (map tree_in ys) → AreWellFormedItems (wrapped_items (map tree_in ys))
items_well [] k = tt
items_well (y ∷ ys) k = (y.1 k.0, items_well ys k.1)

fields_well : (ys : List (List ℕ × Proved)) → AreWellFormedFields (map on_tree ys) → AreWellFormedFields (wrapped_fields (map on_tree ys))
fields_well [] k = tt
fields_well (y ∷ ys) k = (y.1.1 k.0, fields_well ys k.1)

texts_well : (es : List (List ℕ × Tree)) → AllByRecursion (λ e. is_utf8 e.0 ≡ true) es → AllByRecursion (λ e. is_utf8 e.0 ≡ true) (wrapped_fields es)
texts_well [] k = tt
texts_well (e ∷ es) k = (k.0, texts_well es k.1)

names_well : (es : List (List ℕ × Tree)) → AreNames es → AreNames (wrapped_fields es)
names_well es k = (subst AreDistinct (sym (wrapped_names es)) k.0, texts_well es k.1)

object_well : (es : List (List ℕ × Tree)) → (AreWellFormedFields es → AreWellFormedFields (wrapped_fields es)) → Stays (trees.Object es)
object_well es r k =
    let names = subst IsWellFormedLevel (trees.outs-Object es) (here_well (trees.Object es) k) in
    let fields = subst HoldsWellFormed (trees.outs-Object es) (held_well (trees.Object es) k) in
    elim (cases_Bool (has_plain_parts es)) [
      | inl h ↦ same_stays (trees.Object es) (told_object es h) k
      | inr h ↦ subst IsWellFormed (sym (other_object es h)) (well_object (wrapped_fields es) (names_well es names) (r fields))
    ]

one_level : (y : Tree-F Proved) → Stays (roll-Tree (map-Tree Proved Tree tree_in y))
one_level Tree-F.Null = subst Stays (sym trees.rolls-Null) (same_stays trees.Null wrapped_null)
one_level (Tree-F.Bool b) = subst Stays (sym (trees.rolls-Bool b)) (same_stays (trees.Bool b) (wrapped_bool b))
one_level (Tree-F.Str t) = subst Stays (sym (trees.rolls-Str t)) (same_stays (trees.Str t) (wrapped_str t))
one_level (Tree-F.Number t) = subst Stays (sym (trees.rolls-Number t)) (λ k. subst IsWellFormed (sym (wrapped_number t)) (number_well t (subst IsWellFormedLevel (trees.outs-Number t) (here_well (trees.Number t) k))))
one_level (Tree-F.Items ys) =
    subst Stays (sym (trees.rolls-Items _)) (λ k. subst IsWellFormed (sym (wrapped_list _)) (well_items _ (items_well ys (subst HoldsWellFormed (trees.outs-Items _) (held_well (trees.Items _) k)))))
one_level (Tree-F.Object ys) = subst Stays (sym (trees.rolls-Object _)) (object_well _ (fields_well ys))

well_step : (x : Tree-F Tree) (y : Tree-F Proved) → map-Tree Proved Tree (λ (p : Proved). p.0) y ≡ x → Stays (roll-Tree x)
well_step x y is = subst (λ (z : Tree-F Tree). Stays (roll-Tree z)) is (one_level y)

pub wrapped_well : WrappedAreWellFormed
wrapped_well t = ind-Tree Stays well_step t
