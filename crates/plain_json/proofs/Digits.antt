-- Digits at the front of bytes.
use Rattle.std.proofs.Common.{◌≡◌, ◌≢◌, ℕ, zero, suc, ◌+◌, ◌*◌, ◌-◌, ◌<◌, ◌≤◌, true, false, eqb, ltb, List, [], ◌∷◌, ◌++◌, length, take, drop, get_or, refl, sym, ap, ◌∙◌, inl, inr, arith}
use Rattle.std.specs.List.{list_all}
use Rattle.std.specs.Char.{is_ascii_digit}
use Rattle.std.specs.Str.Parse.{digits_value}
use Rattle.std.proofs.lemmas.Bool.{cases_Bool, and_parts, eqb-true, ltb-true, le-leb}
use Rattle.std.proofs.lemmas.Int.Digits.{digits_value_more}
use Rattle.std.proofs.lemmas.List.{take_more, take-append-drop}
use Rattle.std.proofs.lemmas.List.Folds.{list_all-append}
use Rattle.std.proofs.lemmas.Str.{digit_value_digit}
use Rattle.json_tree.specs.Numbers.{is_digit, IsWhole}
use Rattle.json_text.proofs.FoundStrings.{differs}
use Rattle.plain_json.specs.Numbers.{goes_on, starts_with_digit, IsNaturalRead}

pub digit_bounds : (d : ℕ) → is_digit d ≡ true → (48 ≤ d) × (d ≤ 57)
digit_bounds d h = let p = and_parts (ltb 47 d) (ltb d 58) h in (omega (arith, ltb-true 47 d p.0), omega (arith, ltb-true d 58 p.1))

-- one digit more
pub value_more : (bytes : List ℕ) (i n : ℕ) → i < length bytes → is_digit (get_or bytes i 0) ≡ true → digits_value 10 (take i bytes) ≡ n → digits_value 10 (take (i + 1) bytes) ≡ n * 10 + (get_or bytes i 0 - 48)
value_more bytes i n lt d e =
    let p = digit_bounds (get_or bytes i 0) d in
    digits_value_more 10 bytes i lt ∙ omega (arith, e, digit_value_digit (get_or bytes i 0) p)

pub digits_more : (bytes : List ℕ) (i : ℕ) → i < length bytes → is_digit (get_or bytes i 0) ≡ true → list_all is_digit (take i bytes) ≡ true → list_all is_digit (take (i + 1) bytes) ≡ true
digits_more bytes i lt d h = rw (take_more bytes i 0 lt, list_all-append, h, d) refl

-- the digits are a whole number where they are one, or don't begin with a zero
pub whole_taken : (bytes : List ℕ) (count : ℕ) → 1 ≤ count → count ≤ length bytes → list_all is_digit (take count bytes) ≡ true → (1 < count → get_or bytes 0 0 ≡ 48 → ⊥) → IsWhole (take count bytes)
whole_taken bytes zero some le h first = absurd (omega arith)
whole_taken [] (suc k) some le h first = absurd (omega arith)
whole_taken (b ∷ bs) (suc zero) some le h first =
    elim (cases_Bool (eqb b 48)) [
      | inl e ↦ inl (eqb-true b 48 e, refl)
      | inr e ↦ inr (differs b 48 e, record { some = omega arith; digits = h })
    ]
whole_taken (b ∷ bs) (suc (suc k)) some le h first = inr (first (omega arith), record { some = omega arith; digits = h })

starts_drop : (bytes : List ℕ) (i : ℕ) → (i < length bytes → is_digit (get_or bytes i 0) ≡ false) → starts_with_digit (drop i bytes) ≡ false
starts_drop [] zero h = refl
starts_drop [] (suc i) h = refl
starts_drop (b ∷ bs) zero h = h (omega arith)
starts_drop (b ∷ bs) (suc i) h = starts_drop bs i (λ lt. h (omega arith))

pub natural_read : (bytes : List ℕ) (n count : ℕ) (rest : List ℕ) → count ≢ 0 → count ≤ length bytes → list_all is_digit (take count bytes) ≡ true → digits_value 10 (take count bytes) ≡ n
    → (count < length bytes → is_digit (get_or bytes count 0) ≡ false) → (1 < count → get_or bytes 0 0 ≡ 48 → ⊥) → rest ≡ drop count bytes → goes_on rest ≡ false → IsNaturalRead bytes n rest
unfolding IsNaturalRead
natural_read bytes n count rest some le digits value ends first behind stops = (
  take count bytes,
  sym (take-append-drop count bytes) ∙ ap (λ (l : List ℕ). take count bytes ++ l) (sym behind),
  whole_taken bytes count (omega (arith, some)) le digits first,
  value,
  ap starts_with_digit behind ∙ starts_drop bytes count ends,
  stops,
)

pub ascii_digits : (ds : List ℕ) → list_all is_digit ds ≡ true → list_all is_ascii_digit ds ≡ true
ascii_digits [] h = refl
ascii_digits (d ∷ ds) h =
    let p = and_parts (is_digit d) (list_all is_digit ds) h in
    let q = digit_bounds d p.0 in
    rw (le-leb 48 d q.0, le-leb d 57 q.1) (ascii_digits ds p.1)
