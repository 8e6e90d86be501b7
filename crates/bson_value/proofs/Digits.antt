-- An index and its name are one.
use Rattle.std.proofs.Common.{◌≡◌, ℕ, zero, suc, ◌+◌, ◌-◌, ◌*◌, ◌/◌, ◌%◌, ◌<◌, ◌≤◌, List, [], ◌∷◌, ◌++◌, true, false, refl, sym, ap, ◌∙◌, arith, Some, None, inl, inr}
use Rattle.std.specs.Prelude.{nat_lt}
use Rattle.std.specs.Str.{bytes_eq}
use Rattle.std.proofs.lemmas.Slice.Eq.{bytes_eq-Decides}
use Rattle.std.proofs.lemmas.Bool.{cases_Bool}
use Rattle.std.proofs.lemmas.Grind.{common_steps}
use Rattle.std.proofs.Common.{◌^◌, length, length-append}
use Rattle.std.specs.Fmt.{decimal}
use Rattle.std.proofs.lemmas.Fmt.{AppendsLastDigit, decimal_from_appends, length-decimal-le_succ}
use Rattle.bson_value.specs.Digits.{digits_in, digits, read_on, index_of}

read_on-append : (n : ℕ) (ds : List ℕ) (c : ℕ) → read_on n (ds ++ (c ∷ [])) ≡ read_on n ds * 10 + (c - 48)
read_on-append n [] c = refl
read_on-append n (d ∷ ds) c = read_on-append (n * 10 + (d - 48)) ds c

reads_back : (k n : ℕ) → n < k → read_on 0 (digits_in k n) ≡ n
unfolding digits_in
reads_back zero n l = absurd (omega arith)
reads_back (suc k) n l =
    elim (cases_Bool (nat_lt n 10)) [
      | inl e ↦ rw e (omega arith)
      | inr e ↦ let h : 10 ≤ n = grind (arith, common_steps) in
          rw (e, read_on-append 0 (digits_in k (n / 10)) (48 + n % 10), reads_back k (n / 10) (omega arith)) (omega arith)
    ]

pub digits-read : (n : ℕ) → read_on 0 (digits n) ≡ n
unfolding digits
digits-read n = reads_back (suc n) n (omega arith)

pub index_of-digits : (n : ℕ) → index_of (digits n) ≡ Some n
unfolding index_of
index_of-digits n =
    let e : bytes_eq (digits n) (digits n) ≡ true = (bytes_eq-Decides (digits n) (digits n)).1 refl in
    rw (digits-read n, e) refl

pub index_of-is : (t : List ℕ) (n : ℕ) → index_of t ≡ Some n → t ≡ digits n
unfolding index_of
index_of-is t n e =
    elim (cases_Bool (bytes_eq (digits (read_on 0 t)) t)) [
      | inl h ↦ let s : digits (read_on 0 t) ≡ t = (bytes_eq-Decides _ _).0 h in
          let f : Some (read_on 0 t) ≡ Some n = rw h at e in
          let g : read_on 0 t ≡ n = cc in
          sym s ∙ ap digits g
      | inr h ↦ let f : None ≡ Some n = rw h at e in cc
    ]

-- two names of one index are one
pub index_of-one : (s t : List ℕ) (n : ℕ) → index_of s ≡ Some n → index_of t ≡ Some n → s ≡ t
index_of-one s t n a b = index_of-is s n a ∙ sym (index_of-is t n b)

-- ---- the digits from behind

-- it is enough to allow as many digits as the number
enough : (k l n : ℕ) → n < k → n < l → digits_in k n ≡ digits_in l n
unfolding digits_in
enough zero l n a b = absurd (omega arith)
enough (suc k) zero n a b = absurd (omega arith)
enough (suc k) (suc l) n a b =
    elim (cases_Bool (nat_lt n 10)) [
      | inl e ↦ rw e refl
      | inr e ↦ let h : 10 ≤ n = grind (arith, common_steps) in
          rw e (ap (λ (ds : List ℕ). ds ++ ((48 + n % 10) ∷ [])) (enough k l (n / 10) (omega arith) (omega arith)))
    ]

unrolled : (k n : ℕ) → 10 ≤ n → digits_in (suc k) n ≡ digits_in k (n / 10) ++ ((48 + n % 10) ∷ [])
unfolding digits_in
unrolled k n l = let e : nat_lt n 10 ≡ false = grind (arith, common_steps) in rw e refl

pub digits-step : (n : ℕ) → 10 ≤ n → digits n ≡ digits (n / 10) ++ ((48 + n % 10) ∷ [])
unfolding digits
digits-step n l = unrolled n n l ∙ ap (λ (ds : List ℕ). ds ++ ((48 + n % 10) ∷ [])) (enough n (suc (n / 10)) (n / 10) (omega arith) (omega arith))

pub digits-one : (n : ℕ) → n < 10 → digits n ≡ (48 + n) ∷ []
unfolding digits digits_in
digits-one n l = let e : nat_lt n 10 ≡ true = grind (arith, common_steps) in rw e refl

-- ---- the digits as std writes them

appends_last_digit : AppendsLastDigit digits_in
unfolding digits_in
appends_last_digit = record {
  one = λ k n l. let e : nat_lt n 10 ≡ true = grind (arith, common_steps) in rw e refl;
  more = λ k n l. unrolled k n l;
}

pub digits-is_decimal : (n : ℕ) → n < 2 ^ 64 → digits n ≡ decimal n
unfolding digits
digits-is_decimal n l = decimal_from_appends digits_in appends_last_digit (suc n) n l (omega (arith, length-decimal-le_succ n l))

pub length-decimal_one : (n : ℕ) → n < 10 → 1 ≡ length (decimal n)
length-decimal_one n l = sym (ap length (digits-one n l)) ∙ ap length (digits-is_decimal n (omega arith))

pub length-decimal_step : (n : ℕ) → 10 ≤ n → n < 2 ^ 64 → length (decimal (n / 10)) + 1 ≡ length (decimal n)
length-decimal_step n low l =
    let front = ap length (digits-is_decimal (n / 10) (omega arith)) in
    let whole = ap length (digits-step n low) ∙ length-append (digits (n / 10)) ((48 + n % 10) ∷ []) in
    omega (arith, front, whole, ap length (digits-is_decimal n l))
