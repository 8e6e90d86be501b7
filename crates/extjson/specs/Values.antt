-- The value of a tree: the table of Trees read backwards. Where none is meant, the first fault in the order of the text.
use Rattle.std.specs.Prelude.{◌≡◌, ℕ, ℤ, Bool, true, ◌==◌, List, [], ◌∷◌, map, reverse, Option, Some, None, is_some, Result, Ok, Err, codes, if◌then◌else◌}
use Rattle.std.specs.List.{list_any}
use Rattle.std.specs.Str.{bytes_eq}
use Rattle.base64.specs.Engines.{standard}
use Rattle.base64.specs.GeneralPurpose.{decode_of as base64_decoded}
use Rattle.hex.specs.Hex.{decode_sized}
use Rattle.bson_value.specs.declared.value.Value.{Value, Value-F, out-Value}
use Rattle.bson_value.specs.declared.value.Value.TheVariants as values
use Rattle.json_tree.specs.declared.tree.Tree.{Tree, Tree-F, out-Tree}
use Rattle.extjson.specs.declared.fault.ExtFault.{ExtFault}
use Rattle.extjson.specs.declared.fault.ExtFault.TheVariants as faults
use Rattle.extjson.specs.declared.wrapper.Wrapper.{Wrapper}
use Rattle.extjson.specs.declared.wrapper.Wrapper.TheVariants as wrappers
use Rattle.extjson.specs.Recursion.{by_parts}
use Rattle.extjson.specs.Numbers.{is_whole, whole_number, in_range, as_count}
use Rattle.extjson.specs.Trees.{one, minus_one}
use Rattle.extjson.specs.Wrappers.{wrapper_of}

-- what was read, or the fault
abbrev pub Read : Type 0 → Type 0
Read A = Result A ExtFault

infixl 10 ◌>>=◌
abbrev pub ◌>>=◌ : {A B : Type 0} → Read A → (A → Read B) → Read B
(Ok x) >>= f = f x
(Err e) >>= f = Err e

-- What a function returned, seen by view, is what is read, unless memory ran out.
abbrev pub Fails : {Y : Type 0} → ExtFault → Read Y → Type 0
Fails faults.NoMemory read = Unit {0}
Fails faults.BadWrapper read = read ≡ Err faults.BadWrapper
Fails faults.Double read = read ≡ Err faults.Double
Fails faults.Decimal read = read ≡ Err faults.Decimal
Fails faults.Range read = read ≡ Err faults.Range

abbrev pub Gives : {X Y : Type 0} → (X → Y) → Result X ExtFault → Read Y → Type 0
Gives view (Ok x) read = read ≡ Ok (view x)
Gives view (Err e) read = Fails e read

abbrev pub some_or : {A : Type 0} → ExtFault → Option A → Read A
some_or e None = Err e
some_or e (Some x) = Ok x

-- ---- the parts of wrappers

abbrev pub string_at : Tree-F Tree → Read (List ℕ)
string_at (Tree-F.Str t) = Ok t
string_at _ = Err faults.BadWrapper

abbrev pub number_at : Tree-F Tree → Read (List ℕ)
number_at (Tree-F.Number t) = Ok t
number_at _ = Err faults.BadWrapper

abbrev pub true_at : Tree-F Tree → Read Bool
true_at (Tree-F.Bool true) = Ok true
true_at _ = Err faults.BadWrapper

abbrev pub members_at : Tree-F Tree → Read (List (List ℕ × Tree))
members_at (Tree-F.Object es) = Ok es
members_at _ = Err faults.BadWrapper

-- the text of a string, and of a number; a `true`; the members of an object
unfoldable pub string_of : Tree → Read (List ℕ)
string_of t = string_at (out-Tree t)

unfoldable pub number_of : Tree → Read (List ℕ)
number_of t = number_at (out-Tree t)

unfoldable pub true_of : Tree → Read Bool
true_of t = true_at (out-Tree t)

unfoldable pub members_of : Tree → Read (List (List ℕ × Tree))
members_of t = members_at (out-Tree t)

-- what this name names, where it is the only one
unfoldable pub only : {A : Type 0} → List ℕ → List (List ℕ × A) → Read A
only name [] = Err faults.BadWrapper
only name (e ∷ []) = if bytes_eq e.0 name then Ok e.1 else Err faults.BadWrapper
only name (e ∷ f ∷ es) = Err faults.BadWrapper

-- what these two names name, where they are the only ones, in any order
abbrev pub either_way : {A : Type 0} → List ℕ → List ℕ → List ℕ × A → List ℕ × A → Read (A × A)
either_way m n e f =
    if bytes_eq e.0 m then (if bytes_eq f.0 n then Ok (e.1, f.1) else Err faults.BadWrapper)
    else (if bytes_eq e.0 n then (if bytes_eq f.0 m then Ok (f.1, e.1) else Err faults.BadWrapper) else Err faults.BadWrapper)

unfoldable pub both : {A : Type 0} → List ℕ → List ℕ → List (List ℕ × A) → Read (A × A)
both m n [] = Err faults.BadWrapper
both m n (e ∷ []) = Err faults.BadWrapper
both m n (e ∷ f ∷ []) = either_way m n e f
both m n (e ∷ f ∷ g ∷ es) = Err faults.BadWrapper

-- a text without a zero character
unfoldable pub without_zero : List ℕ → Read (List ℕ)
without_zero t = if list_any (λ c. c == 0) t then Err faults.BadWrapper else Ok t

-- a whole number's text
unfoldable pub whole : List ℕ → Read (List ℕ)
whole t = if is_whole t then Ok t else Err faults.BadWrapper

-- the number of such a text, below this limit
unfoldable pub ranged : ℕ → List ℕ → Read ℤ
ranged limit t = some_or faults.Range (in_range limit (whole_number t))

unfoldable pub counted : List ℕ → Read ℕ
counted t = some_or faults.Range (as_count (whole_number t))

abbrev pub or_bad : {A E : Type 0} → Result A E → Read A
or_bad (Ok x) = Ok x
or_bad (Err e) = Err faults.BadWrapper

-- so many bytes in hexadecimal digits
unfoldable pub hex_of : ℕ → List ℕ → Read (List ℕ)
hex_of n t = or_bad (decode_sized t n)

-- the bytes whose encoding the text is
unfoldable pub base64_of : List ℕ → Read (List ℕ)
base64_of t = or_bad (base64_decoded standard t)

-- a byte in one or two digits
abbrev pub first_byte : List ℕ → ℕ
first_byte [] = 0
first_byte (b ∷ bs) = b

unfoldable pub subtype_of : List ℕ → Read ℕ
subtype_of [] = Err faults.BadWrapper
subtype_of (d ∷ []) = hex_of 1 (48 ∷ d ∷ []) >>= λ b. Ok (first_byte b)
subtype_of (c ∷ d ∷ ds) = hex_of 1 (c ∷ d ∷ ds) >>= λ b. Ok (first_byte b)

-- ---- the wrappers, by what their outermost name names

unfoldable pub int_value : Tree → Read Value
int_value t = string_of t >>= whole >>= ranged 2147483648 >>= λ z. Ok (values.Int z)

unfoldable pub long_of : Tree → Read ℤ
long_of t = string_of t >>= whole >>= ranged 9223372036854775808

unfoldable pub long_value : Tree → Read Value
long_value t = long_of t >>= λ z. Ok (values.Long z)

abbrev pub told_double : List ℕ → Read Value
told_double t =
    if bytes_eq t (codes "1.0") then Ok (values.Double one)
    else (if bytes_eq t (codes "-1.0") then Ok (values.Double minus_one) else Err faults.Double)

unfoldable pub double_value : Tree → Read Value
double_value t = string_of t >>= told_double

unfoldable pub double_bits_value : Tree → Read Value
double_bits_value t = string_of t >>= hex_of 8 >>= λ b. Ok (values.Double (reverse b))

unfoldable pub decimal_value : Tree → Read Value
decimal_value t = string_of t >>= λ s. Err faults.Decimal

unfoldable pub decimal_bits_value : Tree → Read Value
decimal_bits_value t = string_of t >>= hex_of 16 >>= λ b. Ok (values.Decimal (reverse b))

unfoldable pub binary_value : Tree → Read Value
binary_value t =
    members_of t >>= both (codes "base64") (codes "subType") >>= λ p.
    string_of p.0 >>= base64_of >>= λ b.
    string_of p.1 >>= subtype_of >>= λ s. Ok (values.Binary s b)

unfoldable pub undefined_value : Tree → Read Value
undefined_value t = true_of t >>= λ b. Ok values.Undefined

unfoldable pub id_of : Tree → Read (List ℕ)
id_of t = string_of t >>= hex_of 12

unfoldable pub oid_value : Tree → Read Value
oid_value t = id_of t >>= λ b. Ok (values.Oid b)

unfoldable pub date_value : Tree → Read Value
date_value t = members_of t >>= only (codes "$numberLong") >>= long_of >>= λ z. Ok (values.Date z)

unfoldable pub regex_value : Tree → Read Value
regex_value t =
    members_of t >>= both (codes "pattern") (codes "options") >>= λ p.
    string_of p.0 >>= without_zero >>= λ a.
    string_of p.1 >>= without_zero >>= λ b. Ok (values.Regex a b)

unfoldable pub pointer_value : Tree → Read Value
pointer_value t =
    members_of t >>= both (codes "$ref") (codes "$id") >>= λ p.
    string_of p.0 >>= λ ns.
    members_of p.1 >>= only (codes "$oid") >>= id_of >>= λ id. Ok (values.DbPointer ns id)

unfoldable pub code_value : Tree → Read Value
code_value t = string_of t >>= λ s. Ok (values.Code s)

unfoldable pub symbol_value : Tree → Read Value
symbol_value t = string_of t >>= λ s. Ok (values.Symbol s)

-- the form of both numbers goes before the range of either
unfoldable pub stamp_value : Tree → Read Value
stamp_value t =
    members_of t >>= both (codes "t") (codes "i") >>= λ p.
    number_of p.0 >>= whole >>= λ a.
    number_of p.1 >>= whole >>= λ b.
    counted a >>= λ secs.
    counted b >>= λ inc. Ok (values.Stamp (record { secs = secs; inc = inc }))

unfoldable pub key_value : Value → Tree → Read Value
key_value key t = number_of t >>= λ n. if bytes_eq n (codes "1") then Ok key else Err faults.BadWrapper

-- the wrapper of an outermost name that stands alone
abbrev pub wrapped_value : Option Wrapper → Tree → Read Value
wrapped_value None t = Err faults.BadWrapper
wrapped_value (Some wrappers.Int) t = int_value t
wrapped_value (Some wrappers.Long) t = long_value t
wrapped_value (Some wrappers.Double) t = double_value t
wrapped_value (Some wrappers.DoubleBits) t = double_bits_value t
wrapped_value (Some wrappers.Decimal) t = decimal_value t
wrapped_value (Some wrappers.DecimalBits) t = decimal_bits_value t
wrapped_value (Some wrappers.Binary) t = binary_value t
wrapped_value (Some wrappers.Undefined) t = undefined_value t
wrapped_value (Some wrappers.Oid) t = oid_value t
wrapped_value (Some wrappers.Date) t = date_value t
wrapped_value (Some wrappers.Regex) t = regex_value t
wrapped_value (Some wrappers.Pointer) t = pointer_value t
wrapped_value (Some wrappers.Code) t = code_value t
wrapped_value (Some wrappers.Symbol) t = symbol_value t
wrapped_value (Some wrappers.Stamp) t = stamp_value t
wrapped_value (Some wrappers.MinKey) t = key_value values.MinKey t
wrapped_value (Some wrappers.MaxKey) t = key_value values.MaxKey t

-- ---- trees

-- a part of a tree, and what it reads as
abbrev pub Part : Type 0
Part = Tree × Read Value

-- a scope reads as a document
abbrev pub fields_at : Value-F Value → Read (List (List ℕ × Value))
fields_at (Value-F.Object fs) = Ok fs
fields_at _ = Err faults.BadWrapper

abbrev pub scope_of : Read Value → Read (List (List ℕ × Value))
scope_of (Ok v) = fields_at (out-Value v)
scope_of (Err e) = Err faults.BadWrapper

unfoldable pub scoped_value : List (List ℕ × Part) → Read Value
scoped_value es =
    both (codes "$code") (codes "$scope") es >>= λ p.
    string_of p.0.0 >>= λ code.
    scope_of p.1.1 >>= λ scope. Ok (values.ScopedCode code scope)

-- the wrapper that an object with an outermost name is
unfoldable pub wrapper_value : List (List ℕ × Part) → Read Value
wrapper_value [] = Err faults.BadWrapper
wrapper_value (e ∷ []) = wrapped_value (wrapper_of e.0) e.1.0
wrapper_value (e ∷ f ∷ es) = scoped_value (e ∷ f ∷ es)

unfoldable pub items_value : List (Read Value) → Read (List Value)
items_value [] = Ok []
items_value (r ∷ rs) = r >>= λ v. items_value rs >>= λ vs. Ok (v ∷ vs)

unfoldable pub fields_value : List (List ℕ × Part) → Read (List (List ℕ × Value))
fields_value [] = Ok []
fields_value (e ∷ es) = without_zero e.0 >>= λ name. e.1.1 >>= λ v. fields_value es >>= λ fs. Ok ((name, v) ∷ fs)

unfoldable pub has_wrapper : {A : Type 0} → List (List ℕ × A) → Bool
has_wrapper es = list_any (λ e. is_some (wrapper_of e.0)) es

unfoldable pub object_value : List (List ℕ × Part) → Read Value
object_value es = if has_wrapper es then wrapper_value es else (fields_value es >>= λ fs. Ok (values.Object fs))

-- a number that stands by itself: an int32 where it fits, else an int64
abbrev pub long_or : Option ℤ → Read Value
long_or None = Err faults.Range
long_or (Some z) = Ok (values.Long z)

abbrev pub int_or : Option ℤ → Read Value → Read Value
int_or None long = long
int_or (Some z) long = Ok (values.Int z)

unfoldable pub whole_value : ℤ → Read Value
whole_value z = int_or (in_range 2147483648 z) (long_or (in_range 9223372036854775808 z))

unfoldable pub plain_value : List ℕ → Read Value
plain_value t = if is_whole t then whole_value (whole_number t) else Err faults.Double

-- one level, with each part already read
abbrev pub value_step : Tree-F Part → Read Value
value_step Tree-F.Null = Ok values.Null
value_step (Tree-F.Bool b) = Ok (values.Bool b)
value_step (Tree-F.Number t) = plain_value t
value_step (Tree-F.Str t) = Ok (values.Str t)
value_step (Tree-F.Items ps) = items_value (map (λ p. p.1) ps) >>= λ vs. Ok (values.Array vs)
value_step (Tree-F.Object es) = object_value es

-- the value of a tree
unfoldable pub value_of : Tree → Read Value
value_of t = by_parts value_step t

abbrev pub read_part : Tree → Part
read_part t = (t, value_of t)

abbrev pub parts_of : List (List ℕ × Tree) → List (List ℕ × Part)
parts_of es = map (λ e. (e.0, read_part e.1)) es
