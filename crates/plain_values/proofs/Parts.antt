-- What the parts of wrappers are read as.
use Rattle.std.proofs.Common.{◌≡◌, ℕ, zero, suc, ◌^◌, ◌<◌, Bool as Truth, true, false, cond, List, [], ◌∷◌, length, get_or, refl, arith, Some, None, Result, Ok, Err, eqb, ltb}
use Rattle.std.specs.Prelude.{ℤ, pos, negsuc, IfOk, ◌||◌}
use Rattle.std.specs.List.{AllByRecursion, list_any}
use Rattle.std.specs.Str.{is_utf8, bytes_eq}
use Rattle.std.proofs.lemmas.Bool.{eqb-false, ltb-true}
use Rattle.base64.specs.Engines.{standard}
use Rattle.base64.specs.GeneralPurpose.{decode_of as base64_decoded}
use Rattle.hex.specs.Hex.{decode_sized}
use Rattle.bson_value.specs.WellFormed.{AreBytes, IsName, IsRun}
use Rattle.json_tree.specs.declared.tree.Tree.{Tree, Tree-F, out-Tree}
use Rattle.json_tree.specs.WellFormed.{IsWellFormedLevel, IsWellFormed}
use Rattle.json_tree.proofs.WellFormed.{HoldsWellFormed, here_well, held_well}
use Rattle.extjson.specs.declared.fault.ExtFault.TheVariants as faults
use Rattle.extjson.specs.Numbers.{is_within, in_range, whole_number, as_count}
use Rattle.extjson.specs.Values.{Read, ◌>>=◌, some_or, string_at, members_at, string_of, members_of, only, both, without_zero, ranged, counted, or_bad, hex_of, base64_of, first_byte, subtype_of}
use Rattle.plain_values.proofs.Decoded.{sized_run, symbols_bytes}

-- what is read after something else
pub next : {A B : Type 0} (P : A → Type 0) (Q : B → Type 0) (r : Read A) (f : A → Read B) → IfOk r P → ((a : A) → P a → IfOk (f a) Q) → IfOk (r >>= f) Q
next P Q (Ok a) f h g = g a h
next P Q (Err e) f h g = tt

-- where nothing is known of it
pub after_any : {A B : Type 0} (Q : B → Type 0) (r : Read A) (f : A → Read B) → ((a : A) → IfOk (f a) Q) → IfOk (r >>= f) Q
after_any Q (Ok a) f g = g a
after_any Q (Err e) f g = tt

pub weaker : {A : Type 0} (P Q : A → Type 0) (r : Read A) → ((a : A) → P a → Q a) → IfOk r P → IfOk r Q
weaker P Q (Ok a) f h = f a h
weaker P Q (Err e) f h = tt

-- ---- trees

abbrev pub IsText : List ℕ → Type 0
IsText t = is_utf8 t ≡ true

string_level : (x : Tree-F Tree) → IsWellFormedLevel x → IfOk (string_at x) IsText
string_level (Tree-F.Str t) h = h
string_level Tree-F.Null h = tt
string_level (Tree-F.Bool b) h = tt
string_level (Tree-F.Number t) h = tt
string_level (Tree-F.Items ts) h = tt
string_level (Tree-F.Object es) h = tt

pub string_text : (t : Tree) → IsWellFormed t → IfOk (string_of t) IsText
unfolding string_of
string_text t k = string_level (out-Tree t) (here_well t k)

abbrev pub AreMembers : List (List ℕ × Tree) → Type 0
AreMembers es = AllByRecursion (λ e. IsWellFormed e.1) es

members_level : (x : Tree-F Tree) → HoldsWellFormed x → IfOk (members_at x) AreMembers
members_level (Tree-F.Object es) h = h
members_level Tree-F.Null h = tt
members_level (Tree-F.Bool b) h = tt
members_level (Tree-F.Number t) h = tt
members_level (Tree-F.Str t) h = tt
members_level (Tree-F.Items ts) h = tt

pub members_well : (t : Tree) → IsWellFormed t → IfOk (members_of t) AreMembers
unfolding members_of
members_well t k = members_level (out-Tree t) (held_well t k)

-- ---- members

pub only_one : {A : Type 0} (P : A → Type 0) (name : List ℕ) (es : List (List ℕ × A)) → AllByRecursion (λ e. P e.1) es → IfOk (only name es) P
unfolding only
only_one P name [] h = tt
only_one {A} P name (e ∷ []) h = by (bytes_eq e.0 name)
  where
    by : (b : Truth) → IfOk (cond b (Ok e.1) (Err faults.BadWrapper)) P
    by true = h.0
    by false = tt
only_one P name (e ∷ f ∷ es) h = tt

abbrev pub BothAre : {A : Type 0} → (A → Type 0) → A × A → Type 0
BothAre P p = P p.0 × P p.1

chosen : {A : Type 0} (P : A → Type 0) (x y : A) (a b c d : Truth) → P x → P y
    → IfOk (cond a (cond b (Ok (x, y)) (Err faults.BadWrapper)) (cond c (cond d (Ok (y, x)) (Err faults.BadWrapper)) (Err faults.BadWrapper))) (BothAre P)
chosen P x y true true c d h g = (h, g)
chosen P x y true false c d h g = tt
chosen P x y false b true true h g = (g, h)
chosen P x y false b true false h g = tt
chosen P x y false b false d h g = tt

pub both_of : {A : Type 0} (P : A → Type 0) (m n : List ℕ) (es : List (List ℕ × A)) → AllByRecursion (λ e. P e.1) es → IfOk (both m n es) (BothAre P)
unfolding both
both_of P m n [] h = tt
both_of P m n (e ∷ []) h = tt
both_of P m n (e ∷ f ∷ []) h = chosen P e.1 f.1 (bytes_eq e.0 m) (bytes_eq f.0 n) (bytes_eq e.0 n) (bytes_eq f.0 m) h.0 h.1.0
both_of P m n (e ∷ f ∷ g ∷ es) h = tt

-- ---- texts

zero_at : (t : List ℕ) (i : ℕ) → list_any (λ c. eqb c 0) t ≡ false → i < length t → get_or t i 0 ≡ 0 → ⊥
zero_at [] i h l e = absurd (omega arith)
zero_at (c ∷ t) zero h l e = eqb-false c 0 (front (eqb c 0) (list_any (λ c. eqb c 0) t) h) e
  where
    front : (a b : Truth) → (a || b) ≡ false → a ≡ false
    front true b h = cc
    front false b h = refl
zero_at (c ∷ t) (suc i) h l e = zero_at t i (back (eqb c 0) (list_any (λ c. eqb c 0) t) h) (omega arith) e
  where
    back : (a b : Truth) → (a || b) ≡ false → b ≡ false
    back true b h = absurd cc
    back false b h = h

-- a name that is this text
abbrev pub IsSame : List ℕ → List ℕ → Type 0
IsSame t m = IsName m × (m ≡ t)

pub zero_free : (t : List ℕ) → IsText t → IfOk (without_zero t) (IsSame t)
unfolding without_zero
zero_free t u = by (list_any (λ c. eqb c 0) t) refl
  where
    by : (b : Truth) → list_any (λ c. eqb c 0) t ≡ b → IfOk (cond b (Err faults.BadWrapper) (Ok t)) (IsSame t)
    by true e = tt
    by false e = (record { utf8 = u; no_zero = λ z. zero_at t z.0 e z.1 z.2 }, refl)

-- ---- numbers

abbrev pub IsWithin : ℕ → ℤ → Type 0
IsWithin limit z = is_within limit z ≡ true

in_limit : (limit : ℕ) (z : ℤ) → IfOk (some_or faults.Range (in_range limit z)) (IsWithin limit)
unfolding in_range
in_limit limit z = by (is_within limit z) refl
  where
    by : (b : Truth) → is_within limit z ≡ b → IfOk (some_or faults.Range (cond b (Some z) None)) (IsWithin limit)
    by true e = e
    by false e = tt

pub ranged_within : (limit : ℕ) (t : List ℕ) → IfOk (ranged limit t) (IsWithin limit)
unfolding ranged
ranged_within limit t = in_limit limit (whole_number t)

below : (z : ℤ) → IfOk (some_or faults.Range (as_count z)) (λ n. n < 2 ^ 32)
unfolding as_count
below (pos n) = by (ltb n 4294967296) refl
  where
    by : (b : Truth) → ltb n 4294967296 ≡ b → IfOk (some_or faults.Range (cond b (Some n) None)) (λ n. n < 2 ^ 32)
    by true e = ltb-true n 4294967296 e
    by false e = tt
below (negsuc n) = tt

pub counted_below : (t : List ℕ) → IfOk (counted t) (λ n. n < 2 ^ 32)
unfolding counted
counted_below t = below (whole_number t)

-- ---- bytes

or_bad_is : {A E : Type 0} (P : A → Type 0) (r : Result A E) → IfOk r P → IfOk (or_bad r) P
or_bad_is P (Ok a) h = h
or_bad_is P (Err e) h = tt

pub hex_run : (n : ℕ) (t : List ℕ) → IfOk (hex_of n t) (IsRun n)
unfolding hex_of
hex_run n t = or_bad_is (IsRun n) (decode_sized t n) (sized_run t n)

pub base64_bytes : (t : List ℕ) → IfOk (base64_of t) AreBytes
unfolding base64_of
base64_bytes t = or_bad_is AreBytes (base64_decoded standard t) (symbols_bytes t)

first_small : (b : List ℕ) → AreBytes b → first_byte b < 256
first_small [] h = omega arith
first_small (x ∷ b) h = h 0

one_small : (t : List ℕ) → IfOk (hex_of 1 t >>= λ b. Ok (first_byte b)) (λ s. s < 256)
one_small t = next (IsRun 1) (λ s. s < 256) (hex_of 1 t) (λ b. Ok (first_byte b)) (hex_run 1 t) (λ b h. first_small b h.are_bytes)

pub subtype_small : (t : List ℕ) → IfOk (subtype_of t) (λ s. s < 256)
unfolding subtype_of
subtype_small [] = tt
subtype_small (d ∷ []) = one_small (48 ∷ d ∷ [])
subtype_small (c ∷ d ∷ ds) = one_small (c ∷ d ∷ ds)
