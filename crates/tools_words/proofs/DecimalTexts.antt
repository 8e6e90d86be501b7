-- Texts that are numbers.
use Rattle.std.proofs.Common.{◌≡◌, ℕ, ◌^◌, ◌<◌, Bool, true, false, List, [], ◌∷◌, eqb, refl, sym, ap, subst, ◌∙◌, arith}
use Rattle.std.specs.Prelude.{◌&&◌, nat_lt, Some, None, slice_index}
use Rattle.std.specs.Str.{bytes_eq}
use Rattle.std.specs.Str.Parse.{digits_value, IsNumeral, without_leading_plus}
use Rattle.std.specs.Fmt.{decimal}
use Rattle.std.specs.Char.{digit_value}
use Rattle.std.proofs.lemmas.Fmt.{decimal_is_IsNumeral}
use Rattle.std.proofs.lemmas.Slice.Eq.{bytes_eq-Decides}
use Rattle.std.proofs.lemmas.Bool.{and_parts, lt-ltb, ltb-true, ne_eqb}
use Rattle.tools_words.specs.Values.{number_of}

small : (n : ℕ) → n < 2 ^ 32 → n < 2 ^ 64
small n lt = omega (arith, lt)

pub is_number : (n : ℕ) (t : List ℕ) → n < 2 ^ 32 → t ≡ decimal n → number_of t ≡ Some n
is_number n t lt e =
    let v : digits_value 10 t ≡ n = ap (digits_value 10) e ∙ (decimal_is_IsNumeral n (small n lt)).1 in
    let same : bytes_eq t (decimal (digits_value 10 t)) ≡ true = (bytes_eq-Decides t (decimal (digits_value 10 t))).1 (e ∙ ap decimal (sym v)) in
    let less : nat_lt (digits_value 10 t) (2 ^ 32) ≡ true = lt-ltb (digits_value 10 t) (2 ^ 32) (omega (arith, lt, v)) in
    rw (same, less) (ap Some v)

-- a text of which `number_of` says yes
record IsNumber (t : List ℕ) (n : ℕ) : Type 0 where
  less : n < 2 ^ 32
  digits : t ≡ decimal n

by_test : (t : List ℕ) → (bytes_eq t (decimal (digits_value 10 t)) && nat_lt (digits_value 10 t) (2 ^ 32)) ≡ true → IsNumber t (digits_value 10 t)
by_test t e =
    let k = and_parts _ _ e in
    record { less = ltb-true (digits_value 10 t) (2 ^ 32) k.1; digits = (bytes_eq-Decides t (decimal (digits_value 10 t))).0 k.0 }

-- a plus is no digit
no_plus : (ds : List ℕ) → IsNumeral 10 ds → slice_index ds 0 ≡ 43 → ⊥
no_plus [] k e = omega (arith, k.0)
no_plus (d ∷ ds) k e = let digit : digit_value 43 < 10 = subst (λ (z : ℕ). digit_value z < 10) e k.1.0 in omega (arith, digit)

unsigned : (t : List ℕ) (n : ℕ) → IsNumber t n → without_leading_plus t ≡ t
unsigned t n is =
    let numeral : IsNumeral 10 t = subst (λ (z : List ℕ). IsNumeral 10 z) (sym is.digits) (decimal_is_IsNumeral n (small n is.less)).0 in
    let other : eqb (slice_index t 0) 43 ≡ false = ne_eqb (slice_index t 0) 43 (no_plus t numeral) in
    rw other refl

parsed : (t : List ℕ) (n : ℕ) → IsNumber t n → IsNumeral 10 (without_leading_plus t) × (digits_value 10 (without_leading_plus t) < 2 ^ 32)
parsed t n is =
    let k = decimal_is_IsNumeral n (small n is.less) in
    let whole : without_leading_plus t ≡ decimal n = unsigned t n is ∙ is.digits in
    (subst (λ (z : List ℕ). IsNumeral 10 z) (sym whole) k.0, omega (arith, ap (digits_value 10) whole, k.1, is.less))

none_by : (t : List ℕ) (b : Bool) → (bytes_eq t (decimal (digits_value 10 t)) && nat_lt (digits_value 10 t) (2 ^ 32)) ≡ b → ((bytes_eq t (decimal (digits_value 10 t)) && nat_lt (digits_value 10 t) (2 ^ 32)) ≡ true → ⊥) → number_of t ≡ None
none_by t true e never = absurd (never e)
none_by t false e never = rw e refl

-- what isn't parsed is no number
pub no_number : (t : List ℕ) → (IsNumeral 10 (without_leading_plus t) × (digits_value 10 (without_leading_plus t) < 2 ^ 32) → ⊥) → number_of t ≡ None
no_number t p = none_by t _ refl (λ test. p (parsed t (digits_value 10 t) (by_test t test)))

-- and neither is a text that differs from the digits of its number
pub other_digits : (t : List ℕ) (n : ℕ) → n ≡ digits_value 10 (without_leading_plus t) → bytes_eq (decimal n) t ≡ false → number_of t ≡ None
other_digits t n p differ = none_by t _ refl (λ test.
    let is = by_test t test in
    let whole : without_leading_plus t ≡ t = unsigned t (digits_value 10 t) is in
    let same : n ≡ digits_value 10 t = p ∙ ap (digits_value 10) whole in
    let equal : bytes_eq (decimal n) t ≡ true = (bytes_eq-Decides (decimal n) t).1 (ap decimal same ∙ sym is.digits) in
    let clash : false ≡ true = sym differ ∙ equal in cc)
