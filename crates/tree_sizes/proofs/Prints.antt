-- How long prints are at least.
use Rattle.std.proofs.Common.{◌≡◌, ℕ, suc, ◌+◌, ◌≤◌, ◌<◌, ◌^◌, ◌/◌, ◌%◌, Bool as Truth, true, false, List, [], ◌∷◌, length, refl, sym, ap, ◌∙◌, arith}
use Rattle.std.specs.Prelude.{nat_lt, ◌==◌, if◌then◌else◌}
use Rattle.std.specs.List.{flat_map}
use Rattle.std.specs.Fmt.{decimal}
use Rattle.std.proofs.lemmas.List.{length-append}
use Rattle.std.proofs.lemmas.Grind.{common_steps}
use Rattle.bson_value.proofs.Digits.{length-decimal_one, length-decimal_step}
use Rattle.json_tree.specs.declared.tree.Tree.{Tree, Tree-F, fold-roll-Tree}
use Rattle.json_tree.specs.declared.tree.Tree.TheVariants as trees
use Rattle.json_text.specs.Print.{hex_digit_of, escaped, quoted, behind_commas, with_commas, print_step, text_of, entry_text, items_text, entries_text}
use Rattle.json_text.proofs.Printed.{object_text}
use Rattle.extjson.specs.Trees.{wrapped, paired}
use Rattle.base64.specs.Rfc4648.{encode_symbols}

-- the bytes of a print
abbrev pub print : Tree → ℕ
print t = length (text_of t)

one_escaped : (c : ℕ) → 1 ≤ length (escaped c)
unfolding escaped
one_escaped c = by (c == 34) (c == 92) (c == 8) (c == 12) (c == 10) (c == 13) (c == 9) (nat_lt c 32)
  where
    by : (p q r s t u v w : Truth) → 1 ≤ length (if p then 92 ∷ 34 ∷ [] else (if q then 92 ∷ 92 ∷ [] else (if r then 92 ∷ 98 ∷ [] else (if s then 92 ∷ 102 ∷ [] else (if t then 92 ∷ 110 ∷ [] else (if u then 92 ∷ 114 ∷ [] else (if v then 92 ∷ 116 ∷ []
        else (if w then 92 ∷ 117 ∷ 48 ∷ 48 ∷ hex_digit_of (c / 16) ∷ hex_digit_of (c % 16) ∷ [] else c ∷ []))))))))
    by true q r s t u v w = omega arith
    by false true r s t u v w = omega arith
    by false false true s t u v w = omega arith
    by false false false true t u v w = omega arith
    by false false false false true u v w = omega arith
    by false false false false false true v w = omega arith
    by false false false false false false true w = omega arith
    by false false false false false false false true = omega arith
    by false false false false false false false false = omega arith

all_escaped : (t : List ℕ) → length t ≤ length (flat_map escaped t)
all_escaped [] = omega arith
all_escaped (c ∷ t) = omega (arith, one_escaped c, all_escaped t, length-append (escaped c) (flat_map escaped t))

pub quoted_size : (t : List ℕ) → length t + 2 ≤ length (quoted t)
quoted_size t = omega (arith, all_escaped t, length-append (flat_map escaped t) (34 ∷ []))

pub of_str : (t : List ℕ) → length t + 2 ≤ print (trees.Str t)
of_str t = let e : print (trees.Str t) ≡ length (quoted t) = ap print (sym (trees.rolls-Str t)) ∙ ap length (fold-roll-Tree (List ℕ) print_step (Tree-F.Str t)) in omega (arith, e, quoted_size t)

pub of_null : print trees.Null ≡ 4
of_null = ap print (sym trees.rolls-Null) ∙ ap length (fold-roll-Tree (List ℕ) print_step Tree-F.Null)

pub of_bool : (b : Truth) → 4 ≤ print (trees.Bool b)
of_bool b = let e : print (trees.Bool b) ≡ length (print_step (Tree-F.Bool b)) = ap print (sym (trees.rolls-Bool b)) ∙ ap length (fold-roll-Tree (List ℕ) print_step (Tree-F.Bool b)) in omega (arith, e, by b)
  where
    by : (c : Truth) → 4 ≤ length (print_step (Tree-F.Bool c))
    by true = omega arith
    by false = omega arith

pub of_object : (es : List (List ℕ × Tree)) → print (trees.Object es) ≡ length (entries_text es) + 2
of_object es = ap length (object_text es) ∙ omega (arith, length-append (entries_text es) (125 ∷ []))

pub of_items : (ts : List Tree) → print (trees.Items ts) ≡ length (items_text ts) + 2
of_items ts = ap print (sym (trees.rolls-Items ts)) ∙ (ap length (fold-roll-Tree (List ℕ) print_step (Tree-F.Items ts)) ∙ omega (arith, length-append (items_text ts) (93 ∷ [])))

-- ---- lists of prints

pub total : List (List ℕ) → ℕ
total [] = 0
total (t ∷ ts) = length t + total ts

behind_total : (ts : List (List ℕ)) → total ts ≤ length (behind_commas ts)
unfolding total
behind_total [] = omega arith
behind_total (t ∷ ts) = omega (arith, behind_total ts, length-append (44 ∷ t) (behind_commas ts))

pub commas_total : (ts : List (List ℕ)) → total ts ≤ length (with_commas ts)
unfolding total
commas_total [] = omega arith
commas_total (t ∷ ts) = omega (arith, behind_total ts, length-append t (behind_commas ts))

pub total_nil : total [] ≡ 0
unfolding total
total_nil = refl

pub total_next : (t : List ℕ) (ts : List (List ℕ)) → total (t ∷ ts) ≡ length t + total ts
unfolding total
total_next t ts = refl

pub entry_size : (e : List ℕ × Tree) → length e.0 + print e.1 + 3 ≤ length (entry_text e)
entry_size e = omega (arith, quoted_size e.0, length-append (quoted e.0) (58 ∷ text_of e.1))

-- ---- objects of one member, and of two

pub of_wrapped : (name : List ℕ) (t : Tree) → length name + print t + 5 ≤ print (wrapped name t)
of_wrapped name t = omega (arith, of_object ((name, t) ∷ []), entry_size (name, t), commas_total (entry_text (name, t) ∷ []), total_next (entry_text (name, t)) [], total_nil)

pub of_paired : (m : List ℕ) (t : Tree) (k : List ℕ) (u : Tree) → length m + print t + length k + print u + 8 ≤ print (paired m t k u)
of_paired m t k u =
    omega (
      arith,
      of_object ((m, t) ∷ (k, u) ∷ []),
      entry_size (m, t),
      entry_size (k, u),
      commas_total (entry_text (m, t) ∷ entry_text (k, u) ∷ []),
      total_next (entry_text (m, t)) (entry_text (k, u) ∷ []),
      total_next (entry_text (k, u)) [],
      total_nil,
    )

-- ---- base64, and decimals

pub symbols_size : (t m : List ℕ) → length m ≤ length (encode_symbols t m)
unfolding encode_symbols
symbols_size t [] = omega arith
symbols_size t (a ∷ []) = omega arith
symbols_size t (a ∷ b ∷ []) = omega arith
symbols_size t (a ∷ b ∷ c ∷ m) = omega (arith, symbols_size t m)

decimal_ten : (n k : ℕ) → n < 2 ^ 64 → (10 ≤ n → length (decimal (n / 10)) ≤ k) → length (decimal n) ≤ suc k
decimal_ten n k l h = by (nat_lt n 10) refl
  where
    by : (b : Truth) → nat_lt n 10 ≡ b → length (decimal n) ≤ suc k
    by true e = (let m : n < 10 = grind (arith, common_steps) in omega (arith, length-decimal_one n m))
    by false e = (let m : 10 ≤ n = grind (arith, common_steps) in omega (arith, length-decimal_step n m l, h m))

one_digit : (n : ℕ) → n < 10 → length (decimal n) ≤ 1
one_digit n l = omega (arith, length-decimal_one n l)

pub decimal_size : (n : ℕ) → n < 10000 → length (decimal n) ≤ 4
decimal_size n l =
    decimal_ten n 3 (omega (arith, l)) (λ a. decimal_ten (n / 10) 2 (omega (arith, l)) (λ b. decimal_ten (n / 10 / 10) 1 (omega (arith, l)) (λ c. one_digit (n / 10 / 10 / 10) (omega (arith, l)))))
