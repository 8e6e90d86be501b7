-- The print of a string: what each character is written as.
use Rattle.std.proofs.Common.{◌≡◌, ℕ, ◌+◌, ◌*◌, ◌/◌, ◌%◌, ◌≤◌, ◌<◌, Bool as Truth, true, false, List, [], ◌∷◌, ◌++◌, length, refl, sym, ap, ◌∙◌, subst, arith, ltb, eqb}
use Rattle.std.specs.Prelude.{⊤, if◌then◌else◌}
use Rattle.std.specs.Char.{encode_utf8}
use Rattle.std.specs.List.{flat_map}
use Rattle.std.specs.Str.{IsUtf8, IsAscii, is_utf8, encode_utf8_all, all_scalars}
use Rattle.std.proofs.lemmas.Bool.{and_parts, ltb-true}
use Rattle.std.proofs.lemmas.Grind.{flat_map-append}
use Rattle.std.proofs.lemmas.List.{length-append, append-nil}
use Rattle.std.proofs.lemmas.Str.{IsUtf8-append, IsUtf8-from_ascii, IsUtf8-from_is_utf8, IsUtf8-encode, IsUtf8-nil}
use Rattle.std.proofs.lemmas.Str.Ascii.{IsAscii-cons, IsAscii-nil}
use lib.Utf8.{scalar}
use Rattle.json_tree.specs.declared.tree.Tree.{Tree, Tree-F, fold-roll-Tree}
use Rattle.json_tree.specs.declared.tree.Tree.TheVariants as trees
use Rattle.json_text.specs.Print.{hex_digit_of, escaped_or, escaped, quoted, print_step, text_of}
use Rattle.json_text.proofs.Printed.{escapes}
use Rattle.printed_texts.specs.Laws.{StringsAreShort}

-- below 128
abbrev pub Lows : List ℕ → Type 0
Lows [] = ⊤
Lows (b ∷ bs) = (b < 128) × Lows bs

of_lows : (t : List ℕ) → Lows t → IsAscii t
of_lows [] h = IsAscii-nil
of_lows (b ∷ t) h = IsAscii-cons b t h.0 (of_lows t h.1)

pub low_text : (t : List ℕ) → Lows t → IsUtf8 t
low_text t h = IsUtf8-from_ascii t (of_lows t h)

digit_low : (n : ℕ) → n < 16 → hex_digit_of n < 128
digit_low n l = by (ltb n 10)
  where
    by : (b : Truth) → (if b then n + 48 else n + 87) < 128
    by true = omega arith
    by false = omega arith

-- ---- what a character is written as

escape_text : (c : ℕ) (plain : List ℕ) → IsUtf8 plain → IsUtf8 (escaped_or plain c)
escape_text c plain h = by (eqb c 34) (eqb c 92) (eqb c 8) (eqb c 12) (eqb c 10) (eqb c 13) (eqb c 9) (ltb c 32) refl
  where
    by : (p q r s t u v w : Truth) → ltb c 32 ≡ w
        → IsUtf8 (if p then 92 ∷ 34 ∷ [] else (if q then 92 ∷ 92 ∷ [] else (if r then 92 ∷ 98 ∷ [] else (if s then 92 ∷ 102 ∷ [] else (if t then 92 ∷ 110 ∷ [] else (if u then 92 ∷ 114 ∷ [] else (if v then 92 ∷ 116 ∷ []
        else (if w then 92 ∷ 117 ∷ 48 ∷ 48 ∷ hex_digit_of (c / 16) ∷ hex_digit_of (c % 16) ∷ [] else plain))))))))
    by true q r s t u v w e = low_text _ (omega arith, (omega arith, tt))
    by false true r s t u v w e = low_text _ (omega arith, (omega arith, tt))
    by false false true s t u v w e = low_text _ (omega arith, (omega arith, tt))
    by false false false true t u v w e = low_text _ (omega arith, (omega arith, tt))
    by false false false false true u v w e = low_text _ (omega arith, (omega arith, tt))
    by false false false false false true v w e = low_text _ (omega arith, (omega arith, tt))
    by false false false false false false true w e = low_text _ (omega arith, (omega arith, tt))
    by false false false false false false false true e =
        (let l : c < 32 = ltb-true c 32 e in
        low_text _ (omega arith, (omega arith, (omega arith, (omega arith, (digit_low (c / 16) (omega (arith, l)), (digit_low (c % 16) (omega arith), tt)))))))
    by false false false false false false false false e = h

escape_short : (c : ℕ) → length (escaped c) ≤ 6
unfolding escaped
escape_short c = by (eqb c 34) (eqb c 92) (eqb c 8) (eqb c 12) (eqb c 10) (eqb c 13) (eqb c 9) (ltb c 32)
  where
    by : (p q r s t u v w : Truth)
        → length (if p then 92 ∷ 34 ∷ [] else (if q then 92 ∷ 92 ∷ [] else (if r then 92 ∷ 98 ∷ [] else (if s then 92 ∷ 102 ∷ [] else (if t then 92 ∷ 110 ∷ [] else (if u then 92 ∷ 114 ∷ [] else (if v then 92 ∷ 116 ∷ []
        else (if w then 92 ∷ 117 ∷ 48 ∷ 48 ∷ hex_digit_of (c / 16) ∷ hex_digit_of (c % 16) ∷ [] else c ∷ [])))))))) ≤ 6
    by true q r s t u v w = omega arith
    by false true r s t u v w = omega arith
    by false false true s t u v w = omega arith
    by false false false true t u v w = omega arith
    by false false false false true u v w = omega arith
    by false false false false false true v w = omega arith
    by false false false false false false true w = omega arith
    by false false false false false false false true = omega arith
    by false false false false false false false false = omega arith

-- ---- strings

one_character : (c : ℕ) → flat_map escaped (encode_utf8 c) ≡ escaped_or (encode_utf8 c) c
one_character c = sym (escapes c (encode_utf8 c) [] [] (escaped_or (encode_utf8 c) c) (flat_map escaped (encode_utf8 c)) (sym (append-nil (encode_utf8 c))) refl refl) ∙ append-nil (escaped_or (encode_utf8 c) c)

characters_text : (cs : List ℕ) → all_scalars cs ≡ true → IsUtf8 (flat_map escaped (encode_utf8_all cs))
characters_text [] h = IsUtf8-nil
characters_text (c ∷ cs) h =
    let k = and_parts (scalar c) (all_scalars cs) h in
    let first : IsUtf8 (flat_map escaped (encode_utf8 c)) = subst IsUtf8 (sym (one_character c)) (escape_text c (encode_utf8 c) (IsUtf8-encode c k.0)) in
    subst IsUtf8 (sym (flat_map-append escaped (encode_utf8 c) (encode_utf8_all cs))) (IsUtf8-append (flat_map escaped (encode_utf8 c)) (flat_map escaped (encode_utf8_all cs)) first (characters_text cs k.1))

pub quoted_text : (t : List ℕ) → is_utf8 t ≡ true → IsUtf8 (quoted t)
quoted_text t h =
    let u = IsUtf8-from_is_utf8 t h in
    let inside : IsUtf8 (flat_map escaped t) = subst (λ (x : List ℕ). IsUtf8 (flat_map escaped x)) u.1.1 (characters_text u.0 u.1.0) in
    IsUtf8-append (34 ∷ []) (flat_map escaped t ++ 34 ∷ []) (low_text _ (omega arith, tt)) (IsUtf8-append (flat_map escaped t) (34 ∷ []) inside (low_text _ (omega arith, tt)))

all_short : (t : List ℕ) → length (flat_map escaped t) ≤ 6 * length t
all_short [] = omega arith
all_short (c ∷ t) = omega (arith, escape_short c, all_short t, length-append (escaped c) (flat_map escaped t))

pub strings_short : StringsAreShort
strings_short t =
    let e : length (text_of (trees.Str t)) ≡ length (quoted t) = ap (λ (x : Tree). length (text_of x)) (sym (trees.rolls-Str t)) ∙ ap length (fold-roll-Tree (List ℕ) print_step (Tree-F.Str t)) in
    omega (arith, e, all_short t, length-append (flat_map escaped t) (34 ∷ []))
