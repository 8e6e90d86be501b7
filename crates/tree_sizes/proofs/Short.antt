-- A value by the print of its tree.
use Rattle.std.proofs.Common.{◌≡◌, ℕ, ◌+◌, ◌*◌, ◌≤◌, Bool as Truth, true, false, List, [], ◌∷◌, ◌++◌, length, map, reverse, refl, ap, subst, arith}
use Rattle.std.specs.Prelude.{ℤ, codes, replicate, if◌then◌else◌}
use Rattle.std.specs.Str.{bytes_eq}
use Rattle.std.specs.Fmt.{decimal, signed_decimal}
use Rattle.std.proofs.lemmas.List.{length-append, length-reverse}
use Rattle.std.proofs.lemmas.Slice.Eq.{bytes_eq-Decides}
use Rattle.base64.specs.Engines.{standard}
use Rattle.base64.specs.GeneralPurpose.{encode_of}
use Rattle.base64.specs.Rfc4648.{padding_len, encode_symbols}
use Rattle.hex.specs.Hex.{encode_lower, lower_digits}
use Rattle.hex.proofs.HexLemmas.{length-encode_with}
use Rattle.bson_value.specs.declared.value.Value.{Value, Value-F, roll-Value, map-Value, fold-roll-Value, ind-Value}
use Rattle.bson_value.specs.Spelling.{Typed, spelling_step, spelling, spelled, numbered, element, elements_of, items_of, text_bytes, framed}
use Rattle.json_tree.specs.declared.tree.Tree.{Tree}
use Rattle.json_tree.specs.declared.tree.Tree.TheVariants as trees
use Rattle.json_text.specs.Print.{text_of, entry_text}
use Rattle.extjson.specs.Trees.{paired, hex_text, one, minus_one, double_tree, decimal_tree, binary_tree, undefined_tree, oid_tree, int_tree, long_tree, date_tree, regex_tree, pointer_tree, code_tree, scoped_tree, symbol_tree, stamp_tree, min_tree, max_tree, tree_step, tree_of, items_of as trees_of, fields_of}
use Rattle.tree_sizes.specs.Laws.{ValuesAreShort}
use Rattle.tree_sizes.proofs.Prints.{print, of_str, of_null, of_bool, of_object, of_items, total, commas_total, total_next, entry_size, of_wrapped, of_paired, symbols_size, decimal_size}

-- with room for a name of digits
abbrev IsShort : ℕ → Tree → Type 0
IsShort n t = n + 11 ≤ 8 * print t

text_size : (t : List ℕ) → length (text_bytes t) ≡ length t + 5
text_size t = omega (arith, length-append t (0 ∷ []))

hex_size : (b : List ℕ) → 2 * length b + 2 ≤ print (hex_text b)
hex_size b = omega (arith, of_str (encode_lower b), length-encode_with lower_digits b)

-- ---- the wrappers

double_short : (d : List ℕ) (p q : Truth) → bytes_eq d one ≡ p → bytes_eq d minus_one ≡ q → IsShort (length d) (double_tree d)
unfolding double_tree
double_short d true q e f =
    let is : length d ≡ 8 = ap length ((bytes_eq-Decides d one).0 e) in
    rw e (omega (arith, is, of_wrapped (codes "$numberDouble") (trees.Str (codes "1.0")), of_str (codes "1.0")))
double_short d false true e f =
    let is : length d ≡ 8 = ap length ((bytes_eq-Decides d minus_one).0 f) in
    rw (e, f) (omega (arith, is, of_wrapped (codes "$numberDouble") (trees.Str (codes "-1.0")), of_str (codes "-1.0")))
double_short d false false e f = rw (e, f) (omega (arith, of_wrapped (codes "$numberDoubleBits") (hex_text (reverse d)), hex_size (reverse d), length-reverse d))

decimal_short : (d : List ℕ) → IsShort (length d) (decimal_tree d)
unfolding decimal_tree
decimal_short d = omega (arith, of_wrapped (codes "$numberDecimalBits") (hex_text (reverse d)), hex_size (reverse d), length-reverse d)

base64_size : (b : List ℕ) → length b ≤ length (encode_of standard b)
base64_size b = omega (arith, symbols_size standard.encode_table b, length-append (encode_symbols standard.encode_table b) (if standard.config.encode_padding then replicate (padding_len (length b)) standard.padding.value else []))

binary_short : (s : ℕ) (b : List ℕ) → IsShort (length b + 5) (binary_tree s b)
unfolding binary_tree
binary_short s b =
    omega (
      arith,
      of_wrapped (codes "$binary") (paired (codes "base64") (trees.Str (encode_of standard b)) (codes "subType") (hex_text (s ∷ []))),
      of_paired (codes "base64") (trees.Str (encode_of standard b)) (codes "subType") (hex_text (s ∷ [])),
      of_str (encode_of standard b),
      base64_size b,
    )

undefined_short : IsShort 0 undefined_tree
unfolding undefined_tree
undefined_short = omega (arith, of_wrapped (codes "$undefined") (trees.Bool true), of_bool true)

oid_size : (d : List ℕ) → 2 * length d + 7 ≤ print (oid_tree d)
unfolding oid_tree
oid_size d = omega (arith, of_wrapped (codes "$oid") (hex_text d), hex_size d)

int_short : (z : ℤ) → IsShort 4 (int_tree z)
unfolding int_tree
int_short z = omega (arith, of_wrapped (codes "$numberInt") (trees.Str (signed_decimal z)))

long_size : (z : ℤ) → 16 ≤ print (long_tree z)
unfolding long_tree
long_size z = omega (arith, of_wrapped (codes "$numberLong") (trees.Str (signed_decimal z)))

date_short : (z : ℤ) → IsShort 8 (date_tree z)
unfolding date_tree
date_short z = omega (arith, of_wrapped (codes "$date") (long_tree z), long_size z)

regex_short : (p o : List ℕ) → IsShort (length p + length o + 2) (regex_tree p o)
unfolding regex_tree
regex_short p o =
    omega (
      arith,
      of_wrapped (codes "$regularExpression") (paired (codes "pattern") (trees.Str p) (codes "options") (trees.Str o)),
      of_paired (codes "pattern") (trees.Str p) (codes "options") (trees.Str o),
      of_str p,
      of_str o,
    )

pointer_short : (t d : List ℕ) → IsShort (length t + 5 + length d) (pointer_tree t d)
unfolding pointer_tree
pointer_short t d =
    omega (
      arith,
      of_wrapped (codes "$dbPointer") (paired (codes "$ref") (trees.Str t) (codes "$id") (oid_tree d)),
      of_paired (codes "$ref") (trees.Str t) (codes "$id") (oid_tree d),
      of_str t,
      oid_size d,
    )

code_short : (t : List ℕ) → IsShort (length t + 5) (code_tree t)
unfolding code_tree
code_short t = omega (arith, of_wrapped (codes "$code") (trees.Str t), of_str t)

symbol_short : (t : List ℕ) → IsShort (length t + 5) (symbol_tree t)
unfolding symbol_tree
symbol_short t = omega (arith, of_wrapped (codes "$symbol") (trees.Str t), of_str t)

stamp_short : (secs inc : ℕ) → IsShort 8 (stamp_tree secs inc)
unfolding stamp_tree
stamp_short secs inc =
    omega (arith, of_wrapped (codes "$timestamp") (paired (codes "t") (trees.Number (decimal secs)) (codes "i") (trees.Number (decimal inc))))

min_short : IsShort 0 min_tree
unfolding min_tree
min_short = omega (arith, of_wrapped (codes "$minKey") (trees.Number (codes "1")))

max_short : IsShort 0 max_tree
unfolding max_tree
max_short = omega (arith, of_wrapped (codes "$maxKey") (trees.Number (codes "1")))

scoped_size : (t : List ℕ) (es : List (List ℕ × Tree)) → length t + print (trees.Object es) + 21 ≤ print (scoped_tree t es)
unfolding scoped_tree
scoped_size t es = omega (arith, of_paired (codes "$code") (trees.Str t) (codes "$scope") (trees.Object es), of_str t)

-- ---- the induction

abbrev Shorter : Value → Type 0
Shorter v = print (tree_of v) ≤ 8192 → IsShort (length (spelled v)) (tree_of v)

abbrev Proved : Type 0
Proved = (v : Value) × Shorter v

abbrev value_in : Proved → Value
value_in p = p.0

abbrev on_value : List ℕ × Proved → List ℕ × Value
on_value e = (e.0, e.1.0)

abbrev entries : List (List ℕ × Value) → List (List ℕ)
entries fs = map entry_text (fields_of fs)

abbrev prints : List Value → List (List ℕ)
prints vs = map text_of (trees_of vs)

fields_short : (ys : List (List ℕ × Proved)) → total (entries (map on_value ys)) ≤ 8192 → length (elements_of (map on_value ys)) ≤ 8 * total (entries (map on_value ys))
fields_short [] h = omega arith
fields_short (y ∷ ys) h =
    let f : List ℕ × Value = on_value y in
    let fs : List (List ℕ × Value) = map on_value ys in
    let t = total_next (entry_text (f.0, tree_of f.1)) (entries fs) in
    let e = entry_size (f.0, tree_of f.1) in
    let s = y.1.1 (omega (arith, h, t, e)) in
    omega (arith, t, e, s, fields_short ys (omega (arith, h, t)), length-append (element (f.0, spelling f.1)) (elements_of fs), length-append f.0 (0 ∷ spelled f.1))

-- each print has two bytes or more, so that names stay short
items_short : (i : ℕ) (ys : List Proved) → i + total (prints (map value_in ys)) ≤ 8192 → length (numbered i (map spelling (map value_in ys))) ≤ 8 * total (prints (map value_in ys))
items_short i [] h = omega arith
items_short i (y ∷ ys) h =
    let v : Value = y.0 in
    let vs : List Value = map value_in ys in
    let t = total_next (text_of (tree_of v)) (prints vs) in
    let s = y.1 (omega (arith, h, t)) in
    let d = decimal_size i (omega (arith, h)) in
    let more = items_short (i + 1) ys (omega (arith, h, t, s)) in
    omega (arith, t, s, d, more, length-append (element (decimal i, spelling v)) (numbered (i + 1) (map spelling vs)), length-append (decimal i) (0 ∷ spelled v))

abbrev LevelShort : Value-F Value → Type 0
LevelShort x =
    print (tree_step (map-Value Value Tree tree_of x)) ≤ 8192 → IsShort (length (spelling_step (map-Value Value Typed spelling x)).1) (tree_step (map-Value Value Tree tree_of x))

level_short : (y : Value-F Proved) → LevelShort (map-Value Proved Value value_in y)
level_short (Value-F.Double d) h = double_short d (bytes_eq d one) (bytes_eq d minus_one) refl refl
level_short (Value-F.Str t) h = omega (arith, of_str t, text_size t)
level_short (Value-F.Object ys) h =
    let fs : List (List ℕ × Value) = map on_value ys in
    let t = commas_total (entries fs) in
    let o = of_object (fields_of fs) in
    omega (arith, t, o, fields_short ys (omega (arith, h, t, o)), length-append (elements_of fs) (0 ∷ []))
level_short (Value-F.Array ys) h =
    let vs : List Value = map value_in ys in
    let t = commas_total (prints vs) in
    let o = of_items (trees_of vs) in
    omega (arith, t, o, items_short 0 ys (omega (arith, h, t, o)), length-append (items_of vs) (0 ∷ []))
level_short (Value-F.Binary s b) h = omega (arith, binary_short s b)
level_short Value-F.Undefined h = undefined_short
level_short (Value-F.Oid d) h = omega (arith, oid_size d)
level_short (Value-F.Bool b) h = omega (arith, of_bool b)
level_short (Value-F.Date z) h = omega (arith, date_short z)
level_short Value-F.Null h = omega (arith, of_null)
level_short (Value-F.Regex p o) h =
    omega (arith, regex_short p o, length-append (p ++ 0 ∷ [] ++ o) (0 ∷ []), length-append (p ++ 0 ∷ []) (o ++ 0 ∷ []), length-append ((p ++ 0 ∷ []) ++ o) (0 ∷ []), length-append (p ++ 0 ∷ []) o, length-append p (0 ∷ []), length-append o (0 ∷ []))
level_short (Value-F.DbPointer t d) h = omega (arith, pointer_short t d, text_size t, length-append (text_bytes t) d)
level_short (Value-F.Code t) h = omega (arith, code_short t, text_size t)
level_short (Value-F.Symbol t) h = omega (arith, symbol_short t, text_size t)
level_short (Value-F.ScopedCode t ys) h =
    let fs : List (List ℕ × Value) = map on_value ys in
    let t' = commas_total (entries fs) in
    let o = of_object (fields_of fs) in
    let p = scoped_size t (fields_of fs) in
    omega (arith, t', o, p, fields_short ys (omega (arith, h, t', o, p)), length-append (elements_of fs) (0 ∷ []), text_size t, length-append (text_bytes t) (framed (elements_of fs)))
level_short (Value-F.Int z) h = int_short z
level_short (Value-F.Stamp s) h = stamp_short s.secs s.inc
level_short (Value-F.Long z) h = omega (arith, long_size z)
level_short (Value-F.Decimal d) h = decimal_short d
level_short Value-F.MinKey h = min_short
level_short Value-F.MaxKey h = max_short

step_short : (x : Value-F Value) (y : Value-F Proved) → map-Value Proved Value (λ p. p.0) y ≡ x → Shorter (roll-Value x)
step_short x y e h =
    let tree : tree_of (roll-Value x) ≡ tree_step (map-Value Value Tree tree_of x) = fold-roll-Value Tree tree_step x in
    let bytes : length (spelled (roll-Value x)) ≡ length (spelling_step (map-Value Value Typed spelling x)).1 = ap (λ (p : Typed). length p.1) (fold-roll-Value Typed spelling_step x) in
    let printed : print (tree_of (roll-Value x)) ≡ print (tree_step (map-Value Value Tree tree_of x)) = ap print tree in
    let level : LevelShort x = subst LevelShort e (level_short y) in
    let s = level (omega (arith, h, printed)) in
    omega (arith, s, printed, bytes)

pub values_short : ValuesAreShort
values_short v h = omega (arith, ind-Value Shorter step_short v h)
