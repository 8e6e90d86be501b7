-- Each leaf's tree reads as the leaf.
use Rattle.std.proofs.Common.{◌≡◌, ◌≢◌, ℕ, zero, suc, ◌-◌, ◌*◌, ◌/◌, ◌%◌, ◌^◌, ◌<◌, ◌≤◌, Bool as Truth, true, false, eqb, List, [], ◌∷◌, length, get_or, Option, Some, Ok, refl, sym, ap, ◌∙◌, inl, inr, arith}
use Rattle.std.specs.Prelude.{ℤ, pos, negsuc, neg_ℤ, FitsSigned, codes, reverse}
use lib.Signed.{mag}
use Rattle.std.specs.Int.{w32, w64}
use Rattle.std.specs.Fmt.{decimal, signed_decimal}
use Rattle.std.specs.Str.{bytes_eq}
use Rattle.std.specs.Str.Parse.{digits_value, signed_digits_value}
use Rattle.std.proofs.lemmas.Fmt.{decimal_is_IsNumeral, decimal_digit, first_decimal, decimal_nonempty}
use Rattle.std.proofs.lemmas.List.{get_or-reverse, length-reverse, reverse-reverse, get_or_past}
use Rattle.std.proofs.lemmas.Bool.{cases_lt, ne_eqb, eq-eqb, lt-ltb}
use Rattle.std.proofs.lemmas.Slice.Eq.{bytes_eq-Decides}
use Rattle.base64.specs.Engines.{standard}
use Rattle.base64.specs.GeneralPurpose.{encode_of}
use Rattle.base64.proofs.EngineFacts.{decode_of-encode_of}
use Rattle.hex.specs.Hex.{IsBytes, encode_lower, encode_with, lower_digits}
use Rattle.hex.proofs.HexLemmas.{length-encode_with, decode_pairs-encode_with, IsDigits-lower_digits}
use Rattle.bson_value.specs.declared.value.Value.{Value}
use Rattle.bson_value.specs.declared.value.Value.TheVariants as values
use Rattle.json_tree.specs.declared.tree.Tree.{Tree}
use Rattle.json_tree.specs.declared.tree.Tree.TheVariants as trees
use Rattle.extjson.specs.declared.wrapper.Wrapper.{Wrapper}
use Rattle.extjson.specs.declared.wrapper.Wrapper.TheVariants as wrappers
use Rattle.extjson.specs.Numbers.{is_natural, is_whole, whole_number, in_range, as_count}
use Rattle.extjson.specs.Trees.{wrapped, hex_text, one, minus_one, double_tree, decimal_tree, binary_tree, undefined_tree, oid_tree, int_tree, long_tree, date_tree, regex_tree, pointer_tree, code_tree, scoped_tree, symbol_tree, stamp_tree, min_tree, max_tree}
use Rattle.extjson.specs.Wrappers.{wrapper_of, outermost_names}
use Rattle.extjson.specs.Values.{Read, ◌>>=◌, string_of, number_of, true_of, members_of, only, both, without_zero, whole, ranged, counted, or_bad, hex_of, base64_of, subtype_of, first_byte, int_value, long_of, long_value, double_value, double_bits_value, decimal_bits_value, binary_value, undefined_value, id_of, oid_value, date_value, regex_value, pointer_value, code_value, symbol_value, stamp_value, key_value, wrapped_value, has_wrapper, value_of}
use Rattle.bson_value.specs.WellFormed.{IsRun}
use Rattle.extjson.specs.RoundTrip.{HasNoZero}
use Rattle.extjson.proofs.TreeParts.{value_object, wrapper_object, wrapper_one, wrapper_two, scoped_is}
use Rattle.extjson.proofs.Wholes.{own, natural_all, range_some, fits_within, zero_free}

-- ---- the parts of trees

string_is : (t : List ℕ) → string_of (trees.Str t) ≡ Ok t
unfolding string_of
string_is t = rw (trees.outs-Str t) refl

number_is : (t : List ℕ) → number_of (trees.Number t) ≡ Ok t
unfolding number_of
number_is t = rw (trees.outs-Number t) refl

members_is : (es : List (List ℕ × Tree)) → members_of (trees.Object es) ≡ Ok es
unfolding members_of
members_is es = rw (trees.outs-Object es) refl

only_is : (name : List ℕ) (t : Tree) → only name ((name, t) ∷ []) ≡ Ok t
unfolding only
only_is name t = rw ((bytes_eq-Decides name name).1 refl) refl

both_is : (m n : List ℕ) (t u : Tree) → both m n ((m, t) ∷ (n, u) ∷ []) ≡ Ok (t, u)
unfolding both
both_is m n t u = rw ((bytes_eq-Decides m m).1 refl, (bytes_eq-Decides n n).1 refl) refl

pub no_zero_is : (t : List ℕ) → HasNoZero t → without_zero t ≡ Ok t
unfolding without_zero
no_zero_is t h = rw (zero_free t h) refl

known : (name : List ℕ) (w : Wrapper) (t : Tree) → wrapper_of name ≡ Some w → has_wrapper ((name, t) ∷ []) ≡ true
unfolding has_wrapper
known name w t e = rw e refl

-- a wrapper with one name
wraps : (name : List ℕ) (w : Wrapper) (t : Tree) → wrapper_of name ≡ Some w → value_of (wrapped name t) ≡ wrapped_value (Some w) t
wraps name w t e =
    let has : has_wrapper ((name, t) ∷ []) ≡ true = known name w t e in
    value_object ((name, t) ∷ []) ∙ wrapper_object ((name, t) ∷ []) has ∙ wrapper_one ((name, t) ∷ []) (name, t) (omega arith) (omega arith) refl ∙ ap (λ (o : Option Wrapper). wrapped_value o t) e

-- ---- the names

int_name : wrapper_of (codes "$numberInt") ≡ Some wrappers.Int
unfolding wrapper_of outermost_names
int_name = refl

long_name : wrapper_of (codes "$numberLong") ≡ Some wrappers.Long
unfolding wrapper_of outermost_names
long_name = refl

date_name : wrapper_of (codes "$date") ≡ Some wrappers.Date
unfolding wrapper_of outermost_names
date_name = refl

stamp_name : wrapper_of (codes "$timestamp") ≡ Some wrappers.Stamp
unfolding wrapper_of outermost_names
stamp_name = refl

double_name : wrapper_of (codes "$numberDouble") ≡ Some wrappers.Double
unfolding wrapper_of outermost_names
double_name = refl

bits_name : wrapper_of (codes "$numberDoubleBits") ≡ Some wrappers.DoubleBits
unfolding wrapper_of outermost_names
bits_name = refl

decimal_name : wrapper_of (codes "$numberDecimalBits") ≡ Some wrappers.DecimalBits
unfolding wrapper_of outermost_names
decimal_name = refl

oid_name : wrapper_of (codes "$oid") ≡ Some wrappers.Oid
unfolding wrapper_of outermost_names
oid_name = refl

pointer_name : wrapper_of (codes "$dbPointer") ≡ Some wrappers.Pointer
unfolding wrapper_of outermost_names
pointer_name = refl

binary_name : wrapper_of (codes "$binary") ≡ Some wrappers.Binary
unfolding wrapper_of outermost_names
binary_name = refl

regex_name : wrapper_of (codes "$regularExpression") ≡ Some wrappers.Regex
unfolding wrapper_of outermost_names
regex_name = refl

code_name : wrapper_of (codes "$code") ≡ Some wrappers.Code
unfolding wrapper_of outermost_names
code_name = refl

symbol_name : wrapper_of (codes "$symbol") ≡ Some wrappers.Symbol
unfolding wrapper_of outermost_names
symbol_name = refl

undefined_name : wrapper_of (codes "$undefined") ≡ Some wrappers.Undefined
unfolding wrapper_of outermost_names
undefined_name = refl

min_name : wrapper_of (codes "$minKey") ≡ Some wrappers.MinKey
unfolding wrapper_of outermost_names
min_name = refl

max_name : wrapper_of (codes "$maxKey") ≡ Some wrappers.MaxKey
unfolding wrapper_of outermost_names
max_name = refl

code_known : (t : Tree) (e : List ℕ × Tree) → has_wrapper ((codes "$code", t) ∷ e ∷ []) ≡ true
unfolding has_wrapper
code_known t e = rw code_name refl

-- ---- numbers

pub natural_decimal : (n : ℕ) → n < 2 ^ 64 → is_natural (decimal n) ≡ true
unfolding is_natural
natural_decimal zero lt = rw (decimal_digit 0 (omega arith)) refl
natural_decimal (suc n) lt =
    let first = first_decimal (suc n) (omega arith) lt in
    natural_all (decimal (suc n)) (decimal_nonempty (suc n) lt) (λ e. omega (arith, first, e)) ∙ own.from (decimal (suc n)) (decimal_is_IsNumeral (suc n) lt).0.1

first_is : (n : ℕ) → n < 2 ^ 64 → 48 ≤ get_or (decimal n) 0 0
first_is zero lt = rw (decimal_digit 0 (omega arith)) (omega arith)
first_is (suc n) lt = omega (arith, first_decimal (suc n) (omega arith) lt)

whole_plain : (ds : List ℕ) → is_natural ds ≡ true → get_or ds 0 0 ≢ 45 → is_whole ds ≡ true
unfolding is_whole is_natural
whole_plain [] h ne = h
whole_plain (c ∷ cs) h ne = rw (ne_eqb c 45 ne) h

pub plain_number : (ds : List ℕ) → get_or ds 0 0 ≢ 45 → get_or ds 0 0 ≢ 43 → signed_digits_value 10 ds ≡ pos (digits_value 10 ds)
plain_number ds minus plus = rw (ne_eqb (get_or ds 0 0) 45 minus, ne_eqb (get_or ds 0 0) 43 plus) refl

record IsText (t : List ℕ) (z : ℤ) : Type 0 where
  text : is_whole t ≡ true
  number : whole_number t ≡ z

digits_are : (n : ℕ) → n < 2 ^ 64 → IsText (decimal n) (pos n)
unfolding whole_number
digits_are n lt =
    let first = first_is n lt in record {
      text = whole_plain (decimal n) (natural_decimal n lt) (λ e. omega (arith, first, e));
      number = plain_number (decimal n) (λ e. omega (arith, first, e)) (λ e. omega (arith, first, e)) ∙ ap (λ (m : ℕ). pos m) (decimal_is_IsNumeral n lt).1;
    }

minus_is : (n : ℕ) → n < 2 ^ 63 → IsText (45 ∷ decimal (suc n)) (negsuc n)
unfolding whole_number is_whole
minus_is n lt = record {
  text = natural_decimal (suc n) (omega arith);
  number = ap (λ (m : ℕ). neg_ℤ (pos m)) (decimal_is_IsNumeral (suc n) (omega arith)).1;
}

signed_is : (z : ℤ) → mag z < 2 ^ 63 → IsText (signed_decimal z) z
signed_is (pos n) lt = digits_are n (omega arith)
signed_is (negsuc n) lt = minus_is n lt

small32 : (z : ℤ) → FitsSigned w32 z → mag z < 2 ^ 63
small32 z fits = omega (arith, fits.sfits)

whole_is : (t : List ℕ) (z : ℤ) → IsText t z → whole t ≡ Ok t
unfolding whole
whole_is t z h = rw h.text refl

ranged_is : (limit : ℕ) (t : List ℕ) (z : ℤ) → IsText t z → in_range limit z ≡ Some z → ranged limit t ≡ Ok z
unfolding ranged
ranged_is limit t z h r = rw (h.number, r) refl

count_is : (n : ℕ) → n < 2 ^ 32 → as_count (pos n) ≡ Some n
unfolding as_count
count_is n lt = rw (lt-ltb n 4294967296 lt) refl

counted_is : (n : ℕ) → n < 2 ^ 32 → counted (decimal n) ≡ Ok n
unfolding counted
counted_is n lt = rw ((digits_are n (omega arith)).number, count_is n lt) refl

pub int_back : (z : ℤ) → FitsSigned w32 z → value_of (int_tree z) ≡ Ok (values.Int z)
unfolding int_tree int_value
int_back z fits =
    let h = signed_is z (small32 z fits) in
    wraps (codes "$numberInt") wrappers.Int (trees.Str (signed_decimal z)) int_name
    ∙ rw (string_is (signed_decimal z), whole_is (signed_decimal z) z h, ranged_is 2147483648 (signed_decimal z) z h (range_some 2147483648 z (fits_within w32 z fits))) refl

long_is : (z : ℤ) → FitsSigned w64 z → long_of (trees.Str (signed_decimal z)) ≡ Ok z
unfolding long_of
long_is z fits =
    let h = signed_is z fits.sfits in
    rw (string_is (signed_decimal z), whole_is (signed_decimal z) z h) (ranged_is 9223372036854775808 (signed_decimal z) z h (range_some 9223372036854775808 z (fits_within w64 z fits)))

pub long_back : (z : ℤ) → FitsSigned w64 z → value_of (long_tree z) ≡ Ok (values.Long z)
unfolding long_tree long_value
long_back z fits = wraps (codes "$numberLong") wrappers.Long (trees.Str (signed_decimal z)) long_name ∙ rw (long_is z fits) refl

pub date_back : (z : ℤ) → FitsSigned w64 z → value_of (date_tree z) ≡ Ok (values.Date z)
unfolding date_tree long_tree date_value
date_back z fits =
    let inner : List (List ℕ × Tree) = (codes "$numberLong", trees.Str (signed_decimal z)) ∷ [] in
    wraps (codes "$date") wrappers.Date (trees.Object inner) date_name
    ∙ rw (members_is inner, only_is (codes "$numberLong") (trees.Str (signed_decimal z)), long_is z fits) refl

-- the object inside a timestamp
abbrev pub stamp_inner : ℕ → ℕ → Tree
stamp_inner secs inc = trees.Object ((codes "t", trees.Number (decimal secs)) ∷ (codes "i", trees.Number (decimal inc)) ∷ [])

pub stamp_told : (secs inc : ℕ) → secs < 2 ^ 32 → inc < 2 ^ 32 → stamp_value (stamp_inner secs inc) ≡ Ok (values.Stamp (record { secs = secs; inc = inc }))
unfolding stamp_value
stamp_told secs inc a b =
    let inner : List (List ℕ × Tree) = (codes "t", trees.Number (decimal secs)) ∷ (codes "i", trees.Number (decimal inc)) ∷ [] in
    rw (
      members_is inner,
      both_is (codes "t") (codes "i") (trees.Number (decimal secs)) (trees.Number (decimal inc)),
      number_is (decimal secs),
      whole_is (decimal secs) (pos secs) (digits_are secs (omega arith)),
      number_is (decimal inc),
      whole_is (decimal inc) (pos inc) (digits_are inc (omega arith)),
      counted_is secs a,
      counted_is inc b,
    ) refl

pub stamp_back : (secs inc : ℕ) → secs < 2 ^ 32 → inc < 2 ^ 32 → value_of (stamp_tree secs inc) ≡ Ok (values.Stamp (record { secs = secs; inc = inc }))
unfolding stamp_tree
stamp_back secs inc a b = wraps (codes "$timestamp") wrappers.Stamp (stamp_inner secs inc) stamp_name ∙ stamp_told secs inc a b

pub key_told : (key : Value) → key_value key (trees.Number (codes "1")) ≡ Ok key
unfolding key_value
key_told key = rw (number_is (codes "1")) refl

-- ---- bytes

hex_back : (n : ℕ) (b : List ℕ) → IsRun n b → hex_of n (encode_lower b) ≡ Ok b
unfolding hex_of
hex_back n b h =
    let len : length (encode_lower b) ≡ 2 * length b = length-encode_with lower_digits b in
    let even : eqb (length (encode_lower b) % 2) 1 ≡ false = ne_eqb (length (encode_lower b) % 2) 1 (λ e. omega (arith, len, e)) in
    let half : eqb (length (encode_lower b) / 2) n ≡ true = eq-eqb (length (encode_lower b) / 2) n (omega (arith, len, h.count_is)) in
    rw (even, half, decode_pairs-encode_with lower_digits IsDigits-lower_digits 0 b h.are_bytes) refl

run_reversed : (n : ℕ) (b : List ℕ) → IsRun n b → IsRun n (reverse b)
run_reversed n b h = record { count_is = length-reverse b ∙ h.count_is; are_bytes = λ i. reversed_at b h.are_bytes i }
  where
    reversed_at : (b : List ℕ) → IsBytes b → (i : ℕ) → get_or (reverse b) i 0 < 256
    reversed_at b h i =
        elim (cases_lt i (length b)) [
          | inl lt ↦ rw (get_or-reverse b i 0 lt) (h (length b - 1 - i))
          | inr ge ↦ rw (get_or_past (reverse b) i 0 (omega (arith, length-reverse b))) (omega arith)
        ]

double_case : (d : List ℕ) (p q : Truth) → bytes_eq d one ≡ p → bytes_eq d minus_one ≡ q → IsRun 8 d → value_of (double_tree d) ≡ Ok (values.Double d)
unfolding double_tree double_value double_bits_value
double_case d true q e f h =
    let is = ap (λ (b : List ℕ). Ok (values.Double b)) (sym ((bytes_eq-Decides d one).0 e)) in
    rw e (wraps (codes "$numberDouble") wrappers.Double (trees.Str (codes "1.0")) double_name ∙ rw (string_is (codes "1.0")) is)
double_case d false true e f h =
    let is = ap (λ (b : List ℕ). Ok (values.Double b)) (sym ((bytes_eq-Decides d minus_one).0 f)) in
    rw (e, f) (wraps (codes "$numberDouble") wrappers.Double (trees.Str (codes "-1.0")) double_name ∙ rw (string_is (codes "-1.0")) is)
double_case d false false e f h =
    rw (e, f) (wraps (codes "$numberDoubleBits") wrappers.DoubleBits (hex_text (reverse d)) bits_name
    ∙ rw (string_is (encode_lower (reverse d)), hex_back 8 (reverse d) (run_reversed 8 d h), reverse-reverse d) refl)

pub double_back : (d : List ℕ) → IsRun 8 d → value_of (double_tree d) ≡ Ok (values.Double d)
double_back d h = double_case d (bytes_eq d one) (bytes_eq d minus_one) refl refl h

pub decimal_back : (d : List ℕ) → IsRun 16 d → value_of (decimal_tree d) ≡ Ok (values.Decimal d)
unfolding decimal_tree decimal_bits_value
decimal_back d h =
    wraps (codes "$numberDecimalBits") wrappers.DecimalBits (hex_text (reverse d)) decimal_name
    ∙ rw (string_is (encode_lower (reverse d)), hex_back 16 (reverse d) (run_reversed 16 d h), reverse-reverse d) refl

id_is : (d : List ℕ) → IsRun 12 d → id_of (hex_text d) ≡ Ok d
unfolding id_of
id_is d h = rw (string_is (encode_lower d)) (hex_back 12 d h)

pub oid_back : (d : List ℕ) → IsRun 12 d → value_of (oid_tree d) ≡ Ok (values.Oid d)
unfolding oid_tree oid_value
oid_back d h = wraps (codes "$oid") wrappers.Oid (hex_text d) oid_name ∙ rw (id_is d h) refl

pub pointer_back : (t d : List ℕ) → IsRun 12 d → value_of (pointer_tree t d) ≡ Ok (values.DbPointer t d)
unfolding pointer_tree oid_tree pointer_value
pointer_back t d h =
    let id : List (List ℕ × Tree) = (codes "$oid", hex_text d) ∷ [] in
    let inner : List (List ℕ × Tree) = (codes "$ref", trees.Str t) ∷ (codes "$id", trees.Object id) ∷ [] in
    wraps (codes "$dbPointer") wrappers.Pointer (trees.Object inner) pointer_name
    ∙ rw (members_is inner, both_is (codes "$ref") (codes "$id") (trees.Str t) (trees.Object id), string_is t, members_is id, only_is (codes "$oid") (hex_text d), id_is d h) refl

one_byte : (s : ℕ) → s < 256 → IsRun 1 (s ∷ [])
one_byte s lt = record { count_is = refl; are_bytes = λ i. at i }
  where
    at : (i : ℕ) → get_or (s ∷ []) i 0 < 256
    at zero = lt
    at (suc i) = omega arith

subtype_is : (s : ℕ) → s < 256 → subtype_of (encode_lower (s ∷ [])) ≡ Ok s
unfolding subtype_of encode_with
subtype_is s lt = ap (λ (r : Read (List ℕ)). r >>= λ b. Ok (first_byte b)) (hex_back 1 (s ∷ []) (one_byte s lt))

base64_is : (b : List ℕ) → IsBytes b → base64_of (encode_of standard b) ≡ Ok b
unfolding base64_of
base64_is b h = ap or_bad (decode_of-encode_of standard b refl h)

pub binary_back : (s : ℕ) (b : List ℕ) → s < 256 → IsBytes b → value_of (binary_tree s b) ≡ Ok (values.Binary s b)
unfolding binary_tree binary_value
binary_back s b lt h =
    let inner : List (List ℕ × Tree) = (codes "base64", trees.Str (encode_of standard b)) ∷ (codes "subType", hex_text (s ∷ [])) ∷ [] in
    wraps (codes "$binary") wrappers.Binary (trees.Object inner) binary_name
    ∙ rw (members_is inner, both_is (codes "base64") (codes "subType") (trees.Str (encode_of standard b)) (hex_text (s ∷ [])), string_is (encode_of standard b), base64_is b h, string_is (encode_lower (s ∷ [])), subtype_is s lt) refl

-- ---- texts

pub regex_back : (p o : List ℕ) → HasNoZero p → HasNoZero o → value_of (regex_tree p o) ≡ Ok (values.Regex p o)
unfolding regex_tree regex_value
regex_back p o a b =
    let inner : List (List ℕ × Tree) = (codes "pattern", trees.Str p) ∷ (codes "options", trees.Str o) ∷ [] in
    wraps (codes "$regularExpression") wrappers.Regex (trees.Object inner) regex_name
    ∙ rw (members_is inner, both_is (codes "pattern") (codes "options") (trees.Str p) (trees.Str o), string_is p, no_zero_is p a, string_is o, no_zero_is o b) refl

pub code_back : (t : List ℕ) → value_of (code_tree t) ≡ Ok (values.Code t)
unfolding code_tree code_value
code_back t = wraps (codes "$code") wrappers.Code (trees.Str t) code_name ∙ rw (string_is t) refl

pub symbol_back : (t : List ℕ) → value_of (symbol_tree t) ≡ Ok (values.Symbol t)
unfolding symbol_tree symbol_value
symbol_back t = wraps (codes "$symbol") wrappers.Symbol (trees.Str t) symbol_name ∙ rw (string_is t) refl

-- ---- the others

pub undefined_back : value_of undefined_tree ≡ Ok values.Undefined
unfolding undefined_tree undefined_value true_of
undefined_back = wraps (codes "$undefined") wrappers.Undefined (trees.Bool true) undefined_name ∙ rw (trees.outs-Bool true) refl

pub min_back : value_of min_tree ≡ Ok values.MinKey
unfolding min_tree key_value
min_back = wraps (codes "$minKey") wrappers.MinKey (trees.Number (codes "1")) min_name ∙ rw (number_is (codes "1")) refl

pub max_back : value_of max_tree ≡ Ok values.MaxKey
unfolding max_tree key_value
max_back = wraps (codes "$maxKey") wrappers.MaxKey (trees.Number (codes "1")) max_name ∙ rw (number_is (codes "1")) refl

-- a code with its scope
pub scoped_back : (t : List ℕ) (es : List (List ℕ × Tree)) (fs : List (List ℕ × Value)) → value_of (trees.Object es) ≡ Ok (values.Object fs) → value_of (scoped_tree t es) ≡ Ok (values.ScopedCode t fs)
unfolding scoped_tree
scoped_back t es fs h =
    let all : List (List ℕ × Tree) = (codes "$code", trees.Str t) ∷ (codes "$scope", trees.Object es) ∷ [] in
    value_object all ∙ wrapper_object all (code_known (trees.Str t) (codes "$scope", trees.Object es)) ∙ wrapper_two all (omega arith) ∙ scoped_is all
    ∙ rw (both_is (codes "$code") (codes "$scope") (trees.Str t) (trees.Object es), string_is t, h, values.outs-Object fs) refl
