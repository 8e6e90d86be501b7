-- Names that are put together.
use Rattle.std.proofs.Common.{◌≡◌, ℕ, zero, suc, ◌+◌, ◌/◌, ◌%◌, ◌<◌, Bool, true, false, List, [], ◌∷◌, ◌++◌, length, get_or, refl, arith}
use Rattle.std.specs.Prelude.{Contains, nat_lt, if◌then◌else◌}
use Rattle.std.specs.Str.{IsAscii}
use Rattle.std.proofs.lemmas.Grind.{common_steps}
use Rattle.std.proofs.lemmas.Str.{is_utf8-from_IsUtf8, IsUtf8-from_is_utf8, IsUtf8-from_ascii, IsUtf8-append}
use Rattle.std.proofs.lemmas.Str.Ascii.{IsAscii-cons, IsAscii-nil}
use Rattle.bson_value.specs.WellFormed.{IsName}
use Rattle.bson_value.specs.Digits.{digits_in, digits}

in_front : (b : ℕ) (bs : List ℕ) → (b ≡ 0 → ⊥) → (Contains bs 0 → ⊥) → (k : ℕ) → k < length (b ∷ bs) → get_or (b ∷ bs) k 0 ≡ 0 → ⊥
in_front b bs p h zero l e = p e
in_front b bs p h (suc k) l e = h (k, omega (arith, l), e)

in_either : (xs ys : List ℕ) → (Contains xs 0 → ⊥) → (Contains ys 0 → ⊥) → (k : ℕ) → k < length (xs ++ ys) → get_or (xs ++ ys) k 0 ≡ 0 → ⊥
in_either [] ys h g k l e = g (k, l, e)
in_either (x ∷ xs) ys h g zero l e = h (zero, omega arith, e)
in_either (x ∷ xs) ys h g (suc k) l e = in_either xs ys (λ c. h (suc c.0, omega (arith, c.1), c.2)) g k (omega (arith, l)) e

pub name_append : (xs ys : List ℕ) → IsName xs → IsName ys → IsName (xs ++ ys)
name_append xs ys a b = record {
  utf8 = is_utf8-from_IsUtf8 (xs ++ ys) (IsUtf8-append xs ys (IsUtf8-from_is_utf8 xs a.utf8) (IsUtf8-from_is_utf8 ys b.utf8));
  no_zero = λ c. in_either xs ys a.no_zero b.no_zero c.0 c.1 c.2;
}

-- ---- bytes of ASCII but zero

abbrev pub AreLetters : List ℕ → Type 0
AreLetters [] = Unit {0}
AreLetters (b ∷ bs) = ((0 < b) × (b < 128)) × AreLetters bs

letters_ascii : (bs : List ℕ) → AreLetters bs → IsAscii bs
letters_ascii [] h = IsAscii-nil
letters_ascii (b ∷ bs) h = IsAscii-cons b bs h.0.1 (letters_ascii bs h.1)

letters_full : (bs : List ℕ) → AreLetters bs → Contains bs 0 → ⊥
letters_full [] h c = omega (arith, c.1)
letters_full (b ∷ bs) h c = in_front b bs (λ e. omega (arith, e, h.0.0)) (letters_full bs h.1) c.0 c.1 c.2

pub name_letters : (bs : List ℕ) → AreLetters bs → IsName bs
name_letters bs h = record {
  utf8 = is_utf8-from_IsUtf8 bs (IsUtf8-from_ascii bs (letters_ascii bs h));
  no_zero = letters_full bs h;
}

pub name_letter : (b : ℕ) → 0 < b → b < 128 → IsName (b ∷ [])
name_letter b l h = name_letters (b ∷ []) ((l, h), tt)

-- a letter in front of a name
pub name_led : (b : ℕ) (k : List ℕ) → 0 < b → b < 128 → IsName k → IsName (b ∷ k)
name_led b k l h n = name_append (b ∷ []) k (name_letter b l h) n

letters_append : (xs ys : List ℕ) → AreLetters xs → AreLetters ys → AreLetters (xs ++ ys)
letters_append [] ys h g = g
letters_append (x ∷ xs) ys h g = (h.0, letters_append xs ys h.1 g)

digits_letters : (k n : ℕ) → AreLetters (digits_in k n)
unfolding digits_in
digits_letters zero n = tt
digits_letters (suc k) n = by (nat_lt n 10) refl (digits_letters k (n / 10))
  where
    by : (b : Bool) → nat_lt n 10 ≡ b → AreLetters (digits_in k (n / 10)) → AreLetters (if b then (48 + n) ∷ [] else digits_in k (n / 10) ++ ((48 + n % 10) ∷ []))
    by true e h = let l : n < 10 = grind (arith, common_steps) in ((omega arith, omega (arith, l)), tt)
    by false e h = letters_append (digits_in k (n / 10)) ((48 + n % 10) ∷ []) h ((omega arith, omega arith), tt)

pub name_digits : (n : ℕ) → IsName (digits n)
unfolding digits
name_digits n = name_letters (digits_in (suc n) n) (digits_letters (suc n) n)
