-- Texts of whole numbers, and what parsing them gives.
use Rattle.std.proofs.Common.{◌≡◌, ◌≢◌, ℕ, suc, ◌^◌, ◌<◌, ◌≤◌, Bool, true, false, cond, eqb, ltb, List, [], ◌∷◌, length, get_or, Some, None, refl, sym, ap, ◌∙◌, subst, inl, inr, arith, rules}
use Rattle.std.specs.Prelude.{ℤ, pos, negsuc, Contains, FitsSigned}
use Rattle.std.specs.Int.{Width, w64, FitsUnsignedBits}
use Rattle.std.specs.List.{list_all, list_any}
use Rattle.std.specs.Char.{is_ascii_digit}
use Rattle.std.specs.Str.Parse.{AllDigits, IsNumeral, digits_value, signed_digits_value, without_leading_sign}
use Rattle.std.proofs.lemmas.Bool.{cases_Bool, eqb-true, ne_eqb, ltb-true, ltb-false, lt-ltb}
use Rattle.std.proofs.lemmas.Int.{to_z-of_z}
use Rattle.std.proofs.lemmas.Str.Parse.{IsNumeralModel, numerals_by_value, digit_from_value}
use mir.Val.{hbits, to_z, of_z}
use lib.IntN.{nat_abs}
use Rattle.extjson.specs.Numbers.{is_natural, is_whole, whole_number, is_within, in_range, as_count}

pub own : IsNumeralModel (λ ds. list_all is_ascii_digit ds ≡ true) (digits_value 10)
own = numerals_by_value _ (search rules)

-- ---- the texts

pub natural_all : (ds : List ℕ) → 1 ≤ length ds → get_or ds 0 0 ≢ 48 → is_natural ds ≡ list_all is_ascii_digit ds
unfolding is_natural
natural_all [] le ne = absurd (omega arith)
natural_all (c ∷ cs) le ne = rw (ne_eqb c 48 ne) refl

pub natural_digits : (ds : List ℕ) → is_natural ds ≡ true → list_all is_ascii_digit ds ≡ true
unfolding is_natural
natural_digits [] h = refl
natural_digits (c ∷ cs) h =
    elim (cases_Bool (eqb c 48)) [
      | inl e ↦
          let none : length cs ≡ 0 = eqb-true (length cs) 0 (rw e at h) in
          let is : c ≡ 48 = eqb-true c 48 e in
          alone c cs is none
      | inr e ↦ rw e at h
    ]
  where
    alone : (c : ℕ) (cs : List ℕ) → c ≡ 48 → length cs ≡ 0 → list_all is_ascii_digit (c ∷ cs) ≡ true
    alone c [] is none = rw is refl
    alone c (d ∷ ds) is none = absurd (omega arith)

natural_some : (ds : List ℕ) → is_natural ds ≡ true → 0 < length ds
unfolding is_natural
natural_some [] h = absurd cc
natural_some (c ∷ cs) h = omega arith

numeral : (ds : List ℕ) → is_natural ds ≡ true → IsNumeral 10 ds
numeral ds h = (natural_some ds h, own.to ds (natural_digits ds h))

digit_not_plus : (c : ℕ) (cs : List ℕ) → AllDigits 10 (c ∷ cs) → eqb c 43 ≡ false
digit_not_plus c cs h = let d = digit_from_value c h.0 in ne_eqb c 43 (λ e. omega (arith, d.0, e))

plain_sign : (c : ℕ) (cs : List ℕ) → eqb c 45 ≡ false → eqb c 43 ≡ false → without_leading_sign (c ∷ cs) ≡ c ∷ cs
plain_sign c cs minus plus = rw (minus, plus) refl

minus_sign : (c : ℕ) (cs : List ℕ) → eqb c 45 ≡ true → without_leading_sign (c ∷ cs) ≡ cs
minus_sign c cs minus = rw minus refl

pub whole_numeral : (t : List ℕ) → is_whole t ≡ true → IsNumeral 10 (without_leading_sign t)
unfolding is_whole
whole_numeral [] h = absurd cc
whole_numeral (c ∷ cs) h =
    elim (cases_Bool (eqb c 45)) [
      | inl e ↦ subst (λ (ds : List ℕ). IsNumeral 10 ds) (sym (minus_sign c cs e)) (numeral cs (rw e at h))
      | inr e ↦
          let n : is_natural (c ∷ cs) ≡ true = rw e at h in
          subst (λ (ds : List ℕ). IsNumeral 10 ds) (sym (plain_sign c cs e (digit_not_plus c cs (numeral (c ∷ cs) n).1))) (numeral (c ∷ cs) n)
    ]

-- ---- the numbers

pub fits_within : (w : Width) (z : ℤ) → FitsSigned w z → is_within (2 ^ hbits w) z ≡ true
fits_within w (pos n) h = lt-ltb n (2 ^ hbits w) h.sfits
fits_within w (negsuc n) h = lt-ltb n (2 ^ hbits w) h.sfits

pub within_fits : (w : Width) (z : ℤ) → is_within (2 ^ hbits w) z ≡ true → FitsSigned w z
within_fits w (pos n) h = record { sfits = ltb-true n (2 ^ hbits w) h }
within_fits w (negsuc n) h = record { sfits = ltb-true n (2 ^ hbits w) h }

pub range_some : (limit : ℕ) (z : ℤ) → is_within limit z ≡ true → in_range limit z ≡ Some z
unfolding in_range
range_some limit z h = rw h refl

range_none : (limit : ℕ) (z : ℤ) → is_within limit z ≡ false → in_range limit z ≡ None
unfolding in_range
range_none limit z h = rw h refl

-- what parsing answers where it succeeds, and where it fails
pub parsed : (w : Width) (t : List ℕ) (n : ℤ) → FitsSigned w (signed_digits_value 10 t) → n ≡ signed_digits_value 10 t → Some (to_z w (of_z w n)) ≡ in_range (2 ^ hbits w) (whole_number t)
unfolding whole_number
parsed w t n fits is = rw is (ap (λ (z : ℤ). Some z) (to_z-of_z w (signed_digits_value 10 t) fits) ∙ sym (range_some (2 ^ hbits w) (signed_digits_value 10 t) (fits_within w (signed_digits_value 10 t) fits)))

pub not_parsed : (w : Width) (t : List ℕ) → is_whole t ≡ true → (IsNumeral 10 (without_leading_sign t) × FitsSigned w (signed_digits_value 10 t) → ⊥) → None ≡ in_range (2 ^ hbits w) (whole_number t)
unfolding whole_number
not_parsed w t h fails =
    elim (cases_Bool (is_within (2 ^ hbits w) (signed_digits_value 10 t))) [
      | inl e ↦ absurd (fails (whole_numeral t h, within_fits w (signed_digits_value 10 t) e))
      | inr e ↦ sym (range_none (2 ^ hbits w) (signed_digits_value 10 t) e)
    ]

range_is : (limit : ℕ) (z n : ℤ) (b : Bool) → is_within limit z ≡ b → Some n ≡ cond b (Some z) None → (n ≡ z) × (is_within limit z ≡ true)
range_is limit z n true e h = (cc, e)
range_is limit z n false e h = absurd cc

-- a number that is in range keeps its value as bits
pub range_number : (limit : ℕ) (z n : ℤ) → Some n ≡ in_range limit z → (n ≡ z) × (is_within limit z ≡ true)
unfolding in_range
range_number limit z n h = range_is limit z n (is_within limit z) refl h

pub kept : (w : Width) (z n : ℤ) → Some n ≡ in_range (2 ^ hbits w) z → to_z w (of_z w n) ≡ z
kept w z n h =
    let r = range_number (2 ^ hbits w) z n h in
    ap (λ (y : ℤ). to_z w (of_z w y)) r.0 ∙ to_z-of_z w z (within_fits w z r.1)

counted_is : (z : ℤ) (n : ℕ) → FitsUnsignedBits 32 z → n ≡ nat_abs z → Some n ≡ as_count z
unfolding as_count
counted_is (pos m) n fits e = rw (lt-ltb m 4294967296 fits) (ap (λ (k : ℕ). Some k) e)
counted_is (negsuc m) n fits e = absurd fits

count_none : (m : ℕ) (b : Bool) → ltb m 4294967296 ≡ b → (m < 4294967296 → ⊥) → None ≡ cond b (Some m) None
count_none m true e fails = absurd (fails (ltb-true m 4294967296 e))
count_none m false e fails = refl

not_counted : (z : ℤ) → (FitsUnsignedBits 32 z → ⊥) → None ≡ as_count z
unfolding as_count
not_counted (pos m) fails = count_none m (ltb m 4294967296) refl fails
not_counted (negsuc m) fails = refl

too_large : (limit : ℕ) (z : ℤ) (b : Bool) → is_within limit z ≡ b → None ≡ cond b (Some z) None → is_within limit z ≡ false
too_large limit z true e h = absurd cc
too_large limit z false e h = e

-- what doesn't fit a signed number of 64 bits is no count below 2 ^ 32 either
large : (z : ℤ) → is_within 9223372036854775808 z ≡ false → FitsUnsignedBits 32 z → ⊥
large (pos m) h fits = omega (arith, ltb-false m 9223372036854775808 h, fits)
large (negsuc m) h fits = fits

pub none_counted : (z : ℤ) → None ≡ in_range 9223372036854775808 z → None ≡ as_count z
unfolding in_range
none_counted z h = not_counted z (large z (too_large 9223372036854775808 z (is_within 9223372036854775808 z) refl h))

pub counted_through : (t : List ℕ) (n : ℤ) (m : ℕ) → Some n ≡ in_range 9223372036854775808 (whole_number t) → FitsUnsignedBits 32 (to_z w64 (of_z w64 n)) → m ≡ nat_abs (to_z w64 (of_z w64 n)) → Some m ≡ as_count (whole_number t)
counted_through t n m h fits is = let e = kept w64 (whole_number t) n h in counted_is (whole_number t) m (rw e at fits) (rw e at is)

pub not_through : (t : List ℕ) (n : ℤ) → Some n ≡ in_range 9223372036854775808 (whole_number t) → (FitsUnsignedBits 32 (to_z w64 (of_z w64 n)) → ⊥) → None ≡ as_count (whole_number t)
not_through t n h fails = let e = kept w64 (whole_number t) n h in not_counted (whole_number t) (rw e at fails)

-- ---- texts without a zero

pub zero_free : (t : List ℕ) → (Contains t 0 → ⊥) → list_any (λ c. eqb c 0) t ≡ false
zero_free [] fails = refl
zero_free (c ∷ cs) fails =
    let first : eqb c 0 ≡ false = ne_eqb c 0 (λ e. fails (0, omega arith, e)) in
    rw first (zero_free cs (λ z. fails (suc z.0, omega (arith, z.1), z.2)))
