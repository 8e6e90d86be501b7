-- The tree of a value: the table of canonical Extended JSON, with doubles and decimals by their bits.
use Rattle.std.specs.Prelude.{ℕ, ℤ, true, List, [], ◌∷◌, map, reverse, codes, if◌then◌else◌}
use Rattle.std.specs.Str.{bytes_eq}
use Rattle.std.specs.Fmt.{decimal, signed_decimal}
use Rattle.base64.specs.Engines.{standard}
use Rattle.base64.specs.GeneralPurpose.{encode_of}
use Rattle.hex.specs.Hex.{encode_lower}
use Rattle.bson_value.specs.declared.value.Value.{Value, fold-Value}
use Rattle.bson_value.specs.declared.value.Value.TheOpen.{Value-F}
use Rattle.json_tree.specs.declared.tree.Tree.{Tree}
use Rattle.json_tree.specs.declared.tree.Tree.TheVariants as trees

-- an object with one member
abbrev pub wrapped : List ℕ → Tree → Tree
wrapped name t = trees.Object ((name, t) ∷ [])

-- an object with two members
abbrev pub paired : List ℕ → Tree → List ℕ → Tree → Tree
paired name t other u = trees.Object ((name, t) ∷ (other, u) ∷ [])

-- bytes in hexadecimal digits
abbrev pub hex_text : List ℕ → Tree
hex_text bytes = trees.Str (encode_lower bytes)

-- the bytes of the doubles 1 and -1, the low byte first
abbrev pub one : List ℕ
one = 0 ∷ 0 ∷ 0 ∷ 0 ∷ 0 ∷ 0 ∷ 240 ∷ 63 ∷ []

abbrev pub minus_one : List ℕ
minus_one = 0 ∷ 0 ∷ 0 ∷ 0 ∷ 0 ∷ 0 ∷ 240 ∷ 191 ∷ []

-- bits print with the high byte first
unfoldable pub double_tree : List ℕ → Tree
double_tree d =
    if bytes_eq d one then wrapped (codes "$numberDouble") (trees.Str (codes "1.0"))
    else (if bytes_eq d minus_one then wrapped (codes "$numberDouble") (trees.Str (codes "-1.0"))
    else wrapped (codes "$numberDoubleBits") (hex_text (reverse d)))

unfoldable pub decimal_tree : List ℕ → Tree
decimal_tree d = wrapped (codes "$numberDecimalBits") (hex_text (reverse d))

unfoldable pub binary_tree : ℕ → List ℕ → Tree
binary_tree s b = wrapped (codes "$binary") (paired (codes "base64") (trees.Str (encode_of standard b)) (codes "subType") (hex_text (s ∷ [])))

unfoldable pub undefined_tree : Tree
undefined_tree = wrapped (codes "$undefined") (trees.Bool true)

unfoldable pub oid_tree : List ℕ → Tree
oid_tree id = wrapped (codes "$oid") (hex_text id)

unfoldable pub int_tree : ℤ → Tree
int_tree z = wrapped (codes "$numberInt") (trees.Str (signed_decimal z))

unfoldable pub long_tree : ℤ → Tree
long_tree z = wrapped (codes "$numberLong") (trees.Str (signed_decimal z))

unfoldable pub date_tree : ℤ → Tree
date_tree z = wrapped (codes "$date") (long_tree z)

unfoldable pub regex_tree : List ℕ → List ℕ → Tree
regex_tree p o = wrapped (codes "$regularExpression") (paired (codes "pattern") (trees.Str p) (codes "options") (trees.Str o))

unfoldable pub pointer_tree : List ℕ → List ℕ → Tree
pointer_tree ns id = wrapped (codes "$dbPointer") (paired (codes "$ref") (trees.Str ns) (codes "$id") (oid_tree id))

unfoldable pub code_tree : List ℕ → Tree
code_tree t = wrapped (codes "$code") (trees.Str t)

unfoldable pub scoped_tree : List ℕ → List (List ℕ × Tree) → Tree
scoped_tree t scope = paired (codes "$code") (trees.Str t) (codes "$scope") (trees.Object scope)

unfoldable pub symbol_tree : List ℕ → Tree
symbol_tree t = wrapped (codes "$symbol") (trees.Str t)

unfoldable pub stamp_tree : ℕ → ℕ → Tree
stamp_tree secs inc = wrapped (codes "$timestamp") (paired (codes "t") (trees.Number (decimal secs)) (codes "i") (trees.Number (decimal inc)))

unfoldable pub min_tree : Tree
min_tree = wrapped (codes "$minKey") (trees.Number (codes "1"))

unfoldable pub max_tree : Tree
max_tree = wrapped (codes "$maxKey") (trees.Number (codes "1"))

-- one level, with each value inside already a tree
abbrev pub tree_step : Value-F Tree → Tree
tree_step (Value-F.Double d) = double_tree d
tree_step (Value-F.Str t) = trees.Str t
tree_step (Value-F.Object fs) = trees.Object fs
tree_step (Value-F.Array vs) = trees.Items vs
tree_step (Value-F.Binary s b) = binary_tree s b
tree_step Value-F.Undefined = undefined_tree
tree_step (Value-F.Oid d) = oid_tree d
tree_step (Value-F.Bool b) = trees.Bool b
tree_step (Value-F.Date z) = date_tree z
tree_step Value-F.Null = trees.Null
tree_step (Value-F.Regex p o) = regex_tree p o
tree_step (Value-F.DbPointer t d) = pointer_tree t d
tree_step (Value-F.Code t) = code_tree t
tree_step (Value-F.Symbol t) = symbol_tree t
tree_step (Value-F.ScopedCode t fs) = scoped_tree t fs
tree_step (Value-F.Int z) = int_tree z
tree_step (Value-F.Stamp s) = stamp_tree s.secs s.inc
tree_step (Value-F.Long z) = long_tree z
tree_step (Value-F.Decimal d) = decimal_tree d
tree_step Value-F.MinKey = min_tree
tree_step Value-F.MaxKey = max_tree

-- the tree of a value
abbrev pub tree_of : Value → Tree
tree_of = fold-Value Tree tree_step

abbrev pub items_of : List Value → List Tree
items_of vs = map tree_of vs

abbrev pub fields_of : List (List ℕ × Value) → List (List ℕ × Tree)
fields_of fs = map (λ f. (f.0, tree_of f.1)) fs
