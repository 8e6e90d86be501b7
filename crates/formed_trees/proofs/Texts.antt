-- Texts of digits and symbols.
use Rattle.std.proofs.Common.{◌≡◌, ℕ, zero, suc, ◌<◌, Bool, true, false, ◌+◌, ◌*◌, ◌/◌, ◌%◌, List, [], ◌∷◌, ◌++◌, length, refl, arith, ltb}
use Rattle.std.specs.Prelude.{⊤, slice_index, replicate, codes, if◌then◌else◌}
use Rattle.std.specs.List.{list_all}
use Rattle.std.specs.Str.{is_utf8, IsAscii, bytes_eq}
use Rattle.std.proofs.lemmas.Slice.Eq.{bytes_eq-Decides}
use Rattle.std.proofs.lemmas.Bool.{and_parts, ltb-true}
use Rattle.std.proofs.lemmas.Str.{is_utf8-from_IsUtf8, IsUtf8-from_ascii, IsAscii-append}
use Rattle.std.proofs.lemmas.Str.Ascii.{IsAscii-cons, IsAscii-nil}
use Rattle.hex.specs.Hex.{encode_lower, encode_with, lower_digits}
use Rattle.base64.specs.Rfc4648.{encode_symbols, padding_len}
use Rattle.base64.specs.Engines.{standard}
use Rattle.base64.specs.GeneralPurpose.{encode_of}

pub of_ascii : (t : List ℕ) → IsAscii t → is_utf8 t ≡ true
of_ascii t h = is_utf8-from_IsUtf8 t (IsUtf8-from_ascii t h)

pub differ : (a b : List ℕ) → bytes_eq a b ≡ false → a ≡ b → ⊥
differ a b h e = (let g : bytes_eq a b ≡ true = (bytes_eq-Decides a b).1 e in cc)

AreLow : List ℕ → Type 0
AreLow t = list_all (λ b. ltb b 128) t ≡ true

low_at : (t : List ℕ) (i : ℕ) → AreLow t → slice_index t i < 128
unfolding AreLow
low_at [] i h = omega arith
low_at (x ∷ t) zero h = ltb-true x 128 (and_parts (ltb x 128) (list_all (λ b. ltb b 128) t) h).0
low_at (x ∷ t) (suc i) h = low_at t i (and_parts (ltb x 128) (list_all (λ b. ltb b 128) t) h).1

abbrev Lows : List ℕ → Type 0
Lows [] = ⊤
Lows (b ∷ bs) = (b < 128) × Lows bs

of_lows : (t : List ℕ) → Lows t → IsAscii t
of_lows [] h = IsAscii-nil
of_lows (b ∷ t) h = IsAscii-cons b t h.0 (of_lows t h.1)

lows_join : (a b : List ℕ) → Lows a → Lows b → Lows (a ++ b)
lows_join [] b h g = g
lows_join (x ∷ a) b h g = (h.0, lows_join a b h.1 g)

digits_low : (t bs : List ℕ) → AreLow t → Lows (encode_with t bs)
unfolding encode_with
digits_low t [] h = tt
digits_low t (b ∷ bs) h = (low_at t (b / 16) h, (low_at t (b % 16) h, digits_low t bs h))

pub hex_text_formed : (bs : List ℕ) → is_utf8 (encode_lower bs) ≡ true
unfolding AreLow
hex_text_formed bs = of_ascii (encode_lower bs) (of_lows (encode_lower bs) (digits_low lower_digits bs refl))

symbols_low : (t m : List ℕ) → AreLow t → Lows (encode_symbols t m)
unfolding encode_symbols
symbols_low t [] h = tt
symbols_low t (a ∷ []) h = (low_at t (a / 4) h, (low_at t (a % 4 * 16) h, tt))
symbols_low t (a ∷ b ∷ []) h = (low_at t (a / 4) h, (low_at t (a % 4 * 16 + b / 16) h, (low_at t (b % 16 * 4) h, tt)))
symbols_low t (a ∷ b ∷ c ∷ m) h = (low_at t (a / 4) h, (low_at t (a % 4 * 16 + b / 16) h, (low_at t (b % 16 * 4 + c / 64) h, (low_at t (c % 64) h, symbols_low t m h))))

same_low : (n : ℕ) → Lows (replicate n 61)
same_low zero = tt
same_low (suc n) = (omega arith, same_low n)

padding_low : (b : Bool) (n : ℕ) → Lows (if b then replicate n 61 else [])
padding_low true n = same_low n
padding_low false n = tt

pub base64_formed : (b : List ℕ) → is_utf8 (encode_of standard b) ≡ true
unfolding AreLow
base64_formed b = of_ascii (encode_of standard b) (of_lows (encode_of standard b) (lows_join (encode_symbols standard.encode_table b) (if standard.config.encode_padding then replicate (padding_len (length b)) standard.padding.value else [])
    (symbols_low standard.encode_table b refl) (padding_low standard.config.encode_padding (padding_len (length b)))))
