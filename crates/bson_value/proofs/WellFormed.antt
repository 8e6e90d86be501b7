-- Well-formed values, by one level and what it holds.
use Rattle.std.proofs.Common.{◌≡◌, ℕ, ◌+◌, ◌<◌, ◌^◌, Bool as Truth, true, List, [], ◌∷◌, ◌++◌, length, map, take, get_or, refl, sym, ap, ◌∙◌, subst}
use Rattle.std.proofs.lemmas.List.{take_more}
use Rattle.std.specs.Prelude.{ℤ, FitsSigned}
use Rattle.std.specs.Int.{w32, w64}
use Rattle.std.specs.Str.{is_utf8}
use Rattle.std.specs.List.{AllByRecursion}
use Rattle.bson_value.specs.declared.value.Value.{Value, Value-F, out-Value, roll-Value, map-Value, every_here-Value, every_held-Value, every_made-Value}
use Rattle.bson_value.specs.declared.value.Ts.{Ts}
use Rattle.bson_value.specs.declared.value.Value.TheVariants.{Double, Str, Object, Array, Binary, Undefined, Oid, Bool, Date, Null, Regex, DbPointer, Code, Symbol, ScopedCode, Int, Stamp, Long, Decimal, MinKey, MaxKey, rolls-Null, rolls-Int, rolls-Bool, rolls-Str, rolls-Object, rolls-Array, rolls-Undefined, rolls-Code, rolls-Symbol, rolls-MinKey, rolls-MaxKey, rolls-Double, rolls-Oid, rolls-Decimal, rolls-Date, rolls-Long, rolls-Binary, rolls-Regex, rolls-DbPointer, rolls-Stamp, rolls-ScopedCode}
use Rattle.bson_value.specs.WellFormed.{IsName, AreBytes, IsRun, IsWellFormedLevel, IsWellFormed, AreWellFormedItems, AreWellFormedFields, IsWellFormedDocument}

-- what one level holds is well-formed
abbrev pub IsHeldWellFormed : Value-F Value → Type 0
IsHeldWellFormed (Value-F.Object fs) = AreWellFormedFields fs
IsHeldWellFormed (Value-F.Array vs) = AreWellFormedItems vs
IsHeldWellFormed (Value-F.ScopedCode t fs) = AreWellFormedFields fs
IsHeldWellFormed _ = Unit {0}

abbrev Held : Type 0
Held = (v : Value) × IsWellFormed v

abbrev value_of : Held → Value
value_of h = h.0

abbrev on_value : List ℕ × Held → List ℕ × Value
on_value e = (e.0, e.1.0)

fields_held : (ys : List (List ℕ × Held)) → AreWellFormedFields (map on_value ys)
fields_held [] = tt
fields_held (y ∷ ys) = (y.1.1, fields_held ys)

items_held : (ys : List Held) → AreWellFormedItems (map value_of ys)
items_held [] = tt
items_held (y ∷ ys) = (y.1, items_held ys)

all_inside : (y : Value-F Held) → IsHeldWellFormed (map-Value Held Value value_of y)
all_inside (Value-F.Object ys) = fields_held ys
all_inside (Value-F.Array ys) = items_held ys
all_inside (Value-F.ScopedCode t ys) = fields_held ys
all_inside _ = tt

pub held_formed : (v : Value) → IsWellFormed v → IsHeldWellFormed (out-Value v)
held_formed v k =
    let y = every_held-Value IsWellFormedLevel v k in
    subst IsHeldWellFormed y.1 (all_inside y.0)

pub here_formed : (v : Value) → IsWellFormed v → IsWellFormedLevel (out-Value v)
here_formed v k = every_here-Value IsWellFormedLevel v k

-- ---- the other way round

with_items : (vs : List Value) → AreWellFormedItems vs → (ys : List Held) × (map value_of ys ≡ vs)
with_items [] k = ([], refl)
with_items (v ∷ vs) k = let r = with_items vs k.1 in ((v, k.0) ∷ r.0, ap (λ (l : List Value). v ∷ l) r.1)

with_fields : (es : List (List ℕ × Value)) → AreWellFormedFields es → (ys : List (List ℕ × Held)) × (map on_value ys ≡ es)
with_fields [] k = ([], refl)
with_fields (e ∷ es) k = let r = with_fields es k.1 in ((e.0, (e.1, k.0)) ∷ r.0, ap (λ (l : List (List ℕ × Value)). e ∷ l) r.1)

with_held : (x : Value-F Value) → IsHeldWellFormed x → (y : Value-F Held) × (map-Value Held Value value_of y ≡ x)
with_held (Value-F.Object fs) h = let r = with_fields fs h in (Value-F.Object r.0, ap (λ (l : List (List ℕ × Value)). Value-F.Object l) r.1)
with_held (Value-F.Array vs) h = let r = with_items vs h in (Value-F.Array r.0, ap (λ (l : List Value). Value-F.Array l) r.1)
with_held (Value-F.ScopedCode t fs) h = let r = with_fields fs h in (Value-F.ScopedCode t r.0, ap (λ (l : List (List ℕ × Value)). Value-F.ScopedCode t l) r.1)
with_held (Value-F.Double d) h = (Value-F.Double d, refl)
with_held (Value-F.Str t) h = (Value-F.Str t, refl)
with_held (Value-F.Binary s d) h = (Value-F.Binary s d, refl)
with_held Value-F.Undefined h = (Value-F.Undefined, refl)
with_held (Value-F.Oid d) h = (Value-F.Oid d, refl)
with_held (Value-F.Bool b) h = (Value-F.Bool b, refl)
with_held (Value-F.Date z) h = (Value-F.Date z, refl)
with_held Value-F.Null h = (Value-F.Null, refl)
with_held (Value-F.Regex p o) h = (Value-F.Regex p o, refl)
with_held (Value-F.DbPointer t d) h = (Value-F.DbPointer t d, refl)
with_held (Value-F.Code t) h = (Value-F.Code t, refl)
with_held (Value-F.Symbol t) h = (Value-F.Symbol t, refl)
with_held (Value-F.Int z) h = (Value-F.Int z, refl)
with_held (Value-F.Stamp s) h = (Value-F.Stamp s, refl)
with_held (Value-F.Long z) h = (Value-F.Long z, refl)
with_held (Value-F.Decimal d) h = (Value-F.Decimal d, refl)
with_held Value-F.MinKey h = (Value-F.MinKey, refl)
with_held Value-F.MaxKey h = (Value-F.MaxKey, refl)

pub formed_one : (x : Value-F Value) → IsWellFormedLevel x → IsHeldWellFormed x → IsWellFormed (roll-Value x)
formed_one x k h = let y = with_held x h in every_made-Value IsWellFormedLevel x y.0 y.1 k

run : (n : ℕ) (d : List ℕ) → length d ≡ n → AreBytes d → IsRun n d
run n d k b = record { count_is = k; are_bytes = b }

pub formed_double : (d : List ℕ) → length d ≡ 8 → AreBytes d → IsWellFormed (Double d)
formed_double d k b = subst IsWellFormed (rolls-Double d) (formed_one (Value-F.Double d) (run 8 d k b) tt)

pub formed_str : (t : List ℕ) → is_utf8 t ≡ true → IsWellFormed (Str t)
formed_str t k = subst IsWellFormed (rolls-Str t) (formed_one (Value-F.Str t) k tt)

pub formed_object : (fs : List (List ℕ × Value)) → IsWellFormedDocument fs → IsWellFormed (Object fs)
formed_object fs k = subst IsWellFormed (rolls-Object fs) (formed_one (Value-F.Object fs) k.0 k.1)

pub formed_array : (vs : List Value) → AreWellFormedItems vs → IsWellFormed (Array vs)
formed_array vs k = subst IsWellFormed (rolls-Array vs) (formed_one (Value-F.Array vs) tt k)

pub formed_binary : (s : ℕ) (d : List ℕ) → s < 256 → AreBytes d → IsWellFormed (Binary s d)
formed_binary s d k b = subst IsWellFormed (rolls-Binary s d) (formed_one (Value-F.Binary s d) (k, b) tt)

pub formed_undefined : IsWellFormed Undefined
formed_undefined = subst IsWellFormed rolls-Undefined (formed_one Value-F.Undefined tt tt)

pub formed_oid : (d : List ℕ) → length d ≡ 12 → AreBytes d → IsWellFormed (Oid d)
formed_oid d k b = subst IsWellFormed (rolls-Oid d) (formed_one (Value-F.Oid d) (run 12 d k b) tt)

pub formed_bool : (b : Truth) → IsWellFormed (Bool b)
formed_bool b = subst IsWellFormed (rolls-Bool b) (formed_one (Value-F.Bool b) tt tt)

pub formed_date : (z : ℤ) → FitsSigned w64 z → IsWellFormed (Date z)
formed_date z k = subst IsWellFormed (rolls-Date z) (formed_one (Value-F.Date z) k tt)

pub formed_null : IsWellFormed Null
formed_null = subst IsWellFormed rolls-Null (formed_one Value-F.Null tt tt)

pub formed_regex : (p o : List ℕ) → IsName p → IsName o → IsWellFormed (Regex p o)
formed_regex p o k l = subst IsWellFormed (rolls-Regex p o) (formed_one (Value-F.Regex p o) (k, l) tt)

pub formed_pointer : (t d : List ℕ) → is_utf8 t ≡ true → length d ≡ 12 → AreBytes d → IsWellFormed (DbPointer t d)
formed_pointer t d k l b = subst IsWellFormed (rolls-DbPointer t d) (formed_one (Value-F.DbPointer t d) (k, run 12 d l b) tt)

pub formed_code : (t : List ℕ) → is_utf8 t ≡ true → IsWellFormed (Code t)
formed_code t k = subst IsWellFormed (rolls-Code t) (formed_one (Value-F.Code t) k tt)

pub formed_symbol : (t : List ℕ) → is_utf8 t ≡ true → IsWellFormed (Symbol t)
formed_symbol t k = subst IsWellFormed (rolls-Symbol t) (formed_one (Value-F.Symbol t) k tt)

pub formed_scoped : (t : List ℕ) (fs : List (List ℕ × Value)) → is_utf8 t ≡ true → IsWellFormedDocument fs → IsWellFormed (ScopedCode t fs)
formed_scoped t fs k l = subst IsWellFormed (rolls-ScopedCode t fs) (formed_one (Value-F.ScopedCode t fs) (k, l.0) l.1)

pub formed_int : (z : ℤ) → FitsSigned w32 z → IsWellFormed (Int z)
formed_int z k = subst IsWellFormed (rolls-Int z) (formed_one (Value-F.Int z) k tt)

pub formed_stamp : (s : Ts) → s.secs < 2 ^ 32 → s.inc < 2 ^ 32 → IsWellFormed (Stamp s)
formed_stamp s k l = subst IsWellFormed (rolls-Stamp s) (formed_one (Value-F.Stamp s) (k, l) tt)

pub formed_long : (z : ℤ) → FitsSigned w64 z → IsWellFormed (Long z)
formed_long z k = subst IsWellFormed (rolls-Long z) (formed_one (Value-F.Long z) k tt)

pub formed_decimal : (d : List ℕ) → length d ≡ 16 → AreBytes d → IsWellFormed (Decimal d)
formed_decimal d k b = subst IsWellFormed (rolls-Decimal d) (formed_one (Value-F.Decimal d) (run 16 d k b) tt)

pub formed_min : IsWellFormed MinKey
formed_min = subst IsWellFormed rolls-MinKey (formed_one Value-F.MinKey tt tt)

pub formed_max : IsWellFormed MaxKey
formed_max = subst IsWellFormed rolls-MaxKey (formed_one Value-F.MaxKey tt tt)

pub ruleset well_formed = (formed_double, formed_str, formed_object, formed_array, formed_binary, formed_undefined, formed_oid, formed_bool, formed_date, formed_null, formed_regex, formed_pointer, formed_code, formed_symbol, formed_scoped, formed_int, formed_stamp, formed_long, formed_decimal, formed_min, formed_max)

-- ---- one more, as a loop goes on

all_push : {A : Type 0} (P : A → Type 0) (xs : List A) (x : A) → AllByRecursion P xs → P x → AllByRecursion P (xs ++ x ∷ [])
all_push P [] x all here = (here, tt)
all_push P (y ∷ xs) x all here = (all.0, all_push P xs x all.1 here)

pub all_more : {A : Type 0} (P : A → Type 0) (xs : List A) (i : ℕ) (x : A) → i < length xs → x ≡ get_or xs i x → AllByRecursion P (take i xs) → P x → AllByRecursion P (take (i + 1) xs)
all_more P xs i x lt at all here =
    let e : take (i + 1) xs ≡ take i xs ++ x ∷ [] = take_more xs i x lt ∙ rw (← at) refl in
    subst (AllByRecursion P) (sym e) (all_push P (take i xs) x all here)
