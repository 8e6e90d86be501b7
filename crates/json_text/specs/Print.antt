-- The text of a value: no spaces, and in strings as few escapes as may be.
use Rattle.std.specs.Prelude.{ℕ, ◌+◌, ◌/◌, ◌%◌, List, [], ◌∷◌, ◌++◌, map, nat_lt, ◌==◌, if◌then◌else◌}
use Rattle.std.specs.List.{flat_map}
use Rattle.json_tree.specs.declared.tree.Tree.{Tree, fold-Tree}
use Rattle.json_tree.specs.declared.tree.Tree.TheOpen.{Tree-F}

-- a hexadecimal digit in lower case
abbrev pub hex_digit_of : ℕ → ℕ
hex_digit_of n = if nat_lt n 10 then n + 48 else n + 87

-- a quote, a backslash and a control character with their escapes, and others as they are written plainly
abbrev pub escaped_or : List ℕ → ℕ → List ℕ
escaped_or plain b =
    if b == 34 then 92 ∷ 34 ∷ []
    else (if b == 92 then 92 ∷ 92 ∷ []
    else (if b == 8 then 92 ∷ 98 ∷ []
    else (if b == 12 then 92 ∷ 102 ∷ []
    else (if b == 10 then 92 ∷ 110 ∷ []
    else (if b == 13 then 92 ∷ 114 ∷ []
    else (if b == 9 then 92 ∷ 116 ∷ []
    else (if nat_lt b 32 then 92 ∷ 117 ∷ 48 ∷ 48 ∷ hex_digit_of (b / 16) ∷ hex_digit_of (b % 16) ∷ []
    else plain)))))))

unfoldable pub escaped : ℕ → List ℕ
escaped b = escaped_or (b ∷ []) b

abbrev pub quoted : List ℕ → List ℕ
quoted t = 34 ∷ (flat_map escaped t ++ 34 ∷ [])

-- what follows the first: each behind a comma
abbrev pub behind_commas : List (List ℕ) → List ℕ
behind_commas ts = flat_map (λ t. 44 ∷ t) ts

-- texts with commas between them
abbrev pub with_commas : List (List ℕ) → List ℕ
with_commas [] = []
with_commas (t ∷ ts) = t ++ behind_commas ts

-- a name and what it names
abbrev pub member_text : List ℕ × List ℕ → List ℕ
member_text e = quoted e.0 ++ 58 ∷ e.1

-- one level, with each value inside already printed
abbrev pub print_step : Tree-F (List ℕ) → List ℕ
print_step Tree-F.Null = 110 ∷ 117 ∷ 108 ∷ 108 ∷ []
print_step (Tree-F.Bool b) = if b then 116 ∷ 114 ∷ 117 ∷ 101 ∷ [] else 102 ∷ 97 ∷ 108 ∷ 115 ∷ 101 ∷ []
print_step (Tree-F.Number t) = t
print_step (Tree-F.Str t) = quoted t
print_step (Tree-F.Items ts) = 91 ∷ (with_commas ts ++ 93 ∷ [])
print_step (Tree-F.Object es) = 123 ∷ (with_commas (map member_text es) ++ 125 ∷ [])

-- the text of a value
abbrev pub text_of : Tree → List ℕ
text_of = fold-Tree (List ℕ) print_step

abbrev pub entry_text : List ℕ × Tree → List ℕ
entry_text e = member_text (e.0, text_of e.1)

abbrev pub items_text : List Tree → List ℕ
items_text ts = with_commas (map text_of ts)

abbrev pub entries_text : List (List ℕ × Tree) → List ℕ
entries_text es = with_commas (map entry_text es)
