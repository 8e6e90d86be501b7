-- Texts are of bytes: those of characters in UTF-8, and those of digits.
use Rattle.std.proofs.Common.{◌≡◌, ℕ, zero, suc, ◌+◌, ◌/◌, ◌%◌, ◌<◌, ◌==◌, Bool, true, false, cond, ltb, List, [], ◌∷◌, refl, subst, arith, inl, inr}
use Rattle.std.specs.Prelude.{if◌then◌else◌}
use Rattle.std.specs.Fmt.{digit_glyph, digits_onto, digits, decimal}
use Rattle.std.specs.Str.{is_utf8, encode_utf8_all, all_scalars}
use Rattle.std.proofs.lemmas.Bool.{and_parts, ltb-true}
use Rattle.std.proofs.lemmas.Str.{IsUtf8-from_is_utf8}
use lib.Utf8.{scalar, scalar_cases, encode}
use Rattle.spelled_bytes.specs.Laws.{TextsAreBytes}
use Rattle.spelled_bytes.proofs.Runs.{Bytes, by_index, join}

-- ---- characters

by_width : (c : ℕ) (p q r : Bool) → c < 1114112 → ltb c 128 ≡ p → ltb c 2048 ≡ q → ltb c 65536 ≡ r
    → Bytes (cond p (c ∷ []) (cond q ((192 + c / 64) ∷ (128 + c % 64) ∷ []) (cond r ((224 + c / 4096) ∷ (128 + c / 64 % 64) ∷ (128 + c % 64) ∷ []) ((240 + c / 262144) ∷ (128 + c / 4096 % 64) ∷ (128 + c / 64 % 64) ∷ (128 + c % 64) ∷ []))))
by_width c true q r l a b d = (omega (arith, ltb-true c 128 a), tt)
by_width c false true r l a b d = (omega (arith, ltb-true c 2048 b), (omega arith, tt))
by_width c false false true l a b d = (omega (arith, ltb-true c 65536 d), (omega arith, (omega arith, tt)))
by_width c false false false l a b d = (omega arith, (omega arith, (omega arith, (omega arith, tt))))

character_bytes : (c : ℕ) → scalar c ≡ true → Bytes (encode c)
unfolding encode
character_bytes c h =
    let small : c < 1114112 = elim (scalar_cases c h) [ inl l ↦ omega arith | inr g ↦ g.1 ] in
    by_width c (ltb c 128) (ltb c 2048) (ltb c 65536) small refl refl refl

characters_bytes : (cs : List ℕ) → all_scalars cs ≡ true → Bytes (encode_utf8_all cs)
characters_bytes [] h = tt
characters_bytes (c ∷ cs) h =
    let k = and_parts (scalar c) (all_scalars cs) h in
    join (encode c) (encode_utf8_all cs) (character_bytes c k.0) (characters_bytes cs k.1)

pub text_bytes : (t : List ℕ) → is_utf8 t ≡ true → Bytes t
text_bytes t h = let u = IsUtf8-from_is_utf8 t h in subst Bytes u.1.1 (characters_bytes u.0 u.1.0)

pub texts_bytes : TextsAreBytes
texts_bytes t h = by_index t (text_bytes t h)

-- ---- digits

glyph_small : (n : ℕ) → digit_glyph false (n % 10) < 256
glyph_small n = by (ltb (n % 10) 10)
  where
    by : (b : Bool) → (if b then 48 + n % 10 else 87 + n % 10) < 256
    by true = omega arith
    by false = omega arith

onto_bytes : (k n : ℕ) (t : List ℕ) → Bytes t → Bytes (digits_onto k 10 false n t)
onto_bytes zero n t h = h
onto_bytes (suc k) n t h = by (n / 10 == 0) (onto_bytes k (n / 10) (digit_glyph false (n % 10) ∷ t) (glyph_small n, h))
  where
    by : (b : Bool) → Bytes (digits_onto k 10 false (n / 10) (digit_glyph false (n % 10) ∷ t)) → Bytes (if b then digit_glyph false (n % 10) ∷ t else digits_onto k 10 false (n / 10) (digit_glyph false (n % 10) ∷ t))
    by true g = (glyph_small n, h)
    by false g = g

pub digits_bytes : (n : ℕ) → Bytes (decimal n)
unfolding digits
digits_bytes n = onto_bytes 64 n [] tt
