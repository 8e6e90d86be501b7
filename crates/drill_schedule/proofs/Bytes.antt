-- Bytes that stand in the lines of a drill, and the digits of its numbers.
use Rattle.std.proofs.Common.{◌≡◌, ◌≢◌, ℕ, zero, suc, ◌+◌, ◌<◌, ◌≤◌, Bool, true, false, ◌&&◌, eqb, ltb, leb, List, [], ◌∷◌, ◌++◌, length, get_or, refl, ap, ◌∙◌, arith}
use Rattle.std.specs.Prelude.{pos, not, Some, Ok}
use Rattle.std.specs.Char.{is_ascii_digit}
use Rattle.std.specs.Fmt.{decimal}
use Rattle.std.specs.List.{list_all, list_any}
use Rattle.std.specs.Str.{is_utf8}
use Rattle.std.proofs.lemmas.Bool.{and_parts, ltb-true, lt-ltb, leb-true, ne_eqb}
use Rattle.std.proofs.lemmas.Fmt.{decimal_is_IsNumeral, decimal_digit, first_decimal, length-decimal-le}
use Rattle.std.proofs.lemmas.List.{length-append}
use Rattle.std.proofs.lemmas.List.Folds.{list_all-append}
use Rattle.bson_value.specs.declared.value.Value.TheVariants as values
use Rattle.json_tree.specs.declared.tree.Tree.TheVariants as trees
use Rattle.extjson.specs.Numbers.{is_natural, is_whole, whole_number, in_range}
use Rattle.extjson.specs.Values.{without_zero, plain_value, whole_value, value_of}
use Rattle.extjson.proofs.Formed.{ascii}
use Rattle.extjson.proofs.ReadBack.{natural_decimal, plain_number}
use Rattle.extjson.proofs.TreeParts.{value_number}
use Rattle.extjson.proofs.Wholes.{natural_digits, range_some}
use Rattle.schedule_text.specs.Words.{lacks}
use Rattle.schedule_text.proofs.Cuts.{both_true}

-- from the space to the tilde
abbrev pub is_plain : ℕ → Bool
is_plain b = ltb 31 b && ltb b 127

abbrev pub ArePlain : List ℕ → Type 0
ArePlain t = list_all is_plain t ≡ true

all_from : (p q : ℕ → Bool) → ((b : ℕ) → p b ≡ true → q b ≡ true) → (t : List ℕ) → list_all p t ≡ true → list_all q t ≡ true
all_from p q h [] e = refl
all_from p q h (b ∷ t) e = let k = and_parts (p b) (list_all p t) e in both_true (q b) (list_all q t) (h b k.0) (all_from p q h t k.1)

low : (b : ℕ) → is_plain b ≡ true → 31 < b
low b e = ltb-true 31 b (and_parts (ltb 31 b) (ltb b 127) e).0

high : (b : ℕ) → is_plain b ≡ true → b < 127
high b e = ltb-true b 127 (and_parts (ltb 31 b) (ltb b 127) e).1

pub plain_text : (t : List ℕ) → ArePlain t → is_utf8 t ≡ true
plain_text t h = ascii t (all_from is_plain (λ b. ltb b 128) (λ b e. lt-ltb b 128 (omega (arith, high b e))) t h)

other : (b c : ℕ) → b ≢ c → not (eqb b c) ≡ true
other b c n = rw (ne_eqb b c n) refl

pub plain_lacks : (c : ℕ) → c < 32 → (t : List ℕ) → ArePlain t → lacks c t ≡ true
plain_lacks c l t h = all_from is_plain (λ b. not (eqb b c)) (λ b e. other b c (λ p. omega (arith, low b e, p, l))) t h

none_zero : (t : List ℕ) → ArePlain t → list_any (λ c. eqb c 0) t ≡ false
none_zero [] h = refl
none_zero (b ∷ t) h =
    let k = and_parts (is_plain b) (list_all is_plain t) h in
    let first : eqb b 0 ≡ false = ne_eqb b 0 (λ p. omega (arith, low b k.0, p)) in
    rw (first, none_zero t k.1) refl

pub plain_zero : (t : List ℕ) → ArePlain t → without_zero t ≡ Ok t
unfolding without_zero
plain_zero t h = rw (none_zero t h) refl

-- ---- how long they are

-- bytes of lines, so many at most
pub record IsShort (most : ℕ) (t : List ℕ) : Type 0 where
  pub plain : ArePlain t
  pub few : length t ≤ most

pub short_none : IsShort 0 []
short_none = record { plain = refl; few = omega arith }

pub short_text : (t : List ℕ) → ArePlain t → IsShort (length t) t
short_text t h = record { plain = h; few = omega arith }

pub short_within : {m n : ℕ} {t : List ℕ} → m ≤ n → IsShort m t → IsShort n t
short_within le h = record { plain = h.plain; few = omega (arith, h.few, le) }

pub short_both : {m n : ℕ} {s t : List ℕ} → IsShort m s → IsShort n t → IsShort (m + n) (s ++ t)
short_both {m} {n} {s} {t} h g = record {
  plain = list_all-append is_plain s t ∙ both_true (list_all is_plain s) (list_all is_plain t) h.plain g.plain;
  few = omega (arith, h.few, g.few, length-append s t);
}

-- ---- numbers

digit_from : (b : ℕ) → is_ascii_digit b ≡ true → 48 ≤ b
digit_from b e = leb-true 48 b (and_parts (leb 48 b) (leb b 57) e).0

digit_to : (b : ℕ) → is_ascii_digit b ≡ true → b ≤ 57
digit_to b e = leb-true b 57 (and_parts (leb 48 b) (leb b 57) e).1

digit_plain : (b : ℕ) → is_ascii_digit b ≡ true → is_plain b ≡ true
digit_plain b e = both_true (ltb 31 b) (ltb b 127) (lt-ltb 31 b (omega (arith, digit_from b e))) (lt-ltb b 127 (omega (arith, digit_to b e)))

all_digits : (n : ℕ) → n ≤ 100000 → list_all is_ascii_digit (decimal n) ≡ true
all_digits n le = natural_digits (decimal n) (natural_decimal n (omega arith))

pub digits_lack : (c n : ℕ) → c < 48 → n ≤ 100000 → lacks c (decimal n) ≡ true
digits_lack c n l le = all_from is_ascii_digit (λ b. not (eqb b c)) (λ b e. other b c (λ p. omega (arith, digit_from b e, p, l))) (decimal n) (all_digits n le)

pub short_number : (n : ℕ) → n ≤ 100000 → IsShort 6 (decimal n)
short_number n le = record {
  plain = all_from is_ascii_digit is_plain digit_plain (decimal n) (all_digits n le);
  few = length-decimal-le 6 n (omega arith) (omega arith) (omega arith);
}

-- ---- what a number is read as

first_digit : (n : ℕ) → n ≤ 100000 → 48 ≤ get_or (decimal n) 0 0
first_digit zero le = rw (decimal_digit 0 (omega arith)) (omega arith)
first_digit (suc n) le = omega (arith, first_decimal (suc n) (omega arith) (omega arith))

whole_plain : (ds : List ℕ) → is_natural ds ≡ true → get_or ds 0 0 ≢ 45 → is_whole ds ≡ true
unfolding is_whole is_natural
whole_plain [] h ne = h
whole_plain (c ∷ cs) h ne = rw (ne_eqb c 45 ne) h

number_is : (n : ℕ) → n ≤ 100000 → whole_number (decimal n) ≡ pos n
unfolding whole_number
number_is n le =
    let first = first_digit n le in
    plain_number (decimal n) (λ e. omega (arith, first, e)) (λ e. omega (arith, first, e)) ∙ ap (λ (m : ℕ). pos m) (decimal_is_IsNumeral n (omega arith)).1

pub number_value : (n : ℕ) → n ≤ 100000 → value_of (trees.Number (decimal n)) ≡ Ok (values.Int (pos n))
unfolding plain_value whole_value
number_value n le =
    let first = first_digit n le in
    let whole : is_whole (decimal n) ≡ true = whole_plain (decimal n) (natural_decimal n (omega arith)) (λ e. omega (arith, first, e)) in
    let within : in_range 2147483648 (pos n) ≡ Some (pos n) = range_some 2147483648 (pos n) (lt-ltb n 2147483648 (omega arith)) in
    value_number (decimal n) ∙ rw (whole, number_is n le, within) refl
