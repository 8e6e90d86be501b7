-- The print of a well-formed value is a text.
use Rattle.std.proofs.Common.{◌≡◌, ℕ, ◌-◌, take, true, false, List, [], ◌∷◌, ◌++◌, length, map, sym, subst, arith, Result, Ok, Err}
use Rattle.std.specs.List.{AllByRecursion}
use Rattle.std.specs.Str.{IsUtf8, is_utf8}
use Rattle.std.proofs.lemmas.Str.{IsUtf8-append, IsUtf8-from_is_utf8, is_utf8-from_IsUtf8, IsUtf8-nil}
use Rattle.json_tree.specs.declared.tree.Tree.{Tree, Tree-F, roll-Tree, out-roll-Tree, map-Tree, fold-roll-Tree, ind-Tree}
use Rattle.json_tree.specs.Numbers.{IsNumber}
use Rattle.json_tree.specs.WellFormed.{IsWellFormedLevel, IsWellFormed, AreWellFormedItems, AreWellFormedFields}
use Rattle.json_tree.proofs.WellFormed.{HoldsWellFormed, here_well, held_well}
use Rattle.json_text.specs.Print.{quoted, behind_commas, with_commas, member_text, print_step, text_of}
use Rattle.json_text.specs.Reading.{◌>>=◌, as_text, after_number, number_at}
use Rattle.json_text.proofs.Found.{text_found}
use Rattle.json_text.proofs.Numerals.{number_read}
use Rattle.printed_texts.specs.Laws.{PrintsAreTexts}
use Rattle.printed_texts.proofs.Strings.{low_text, quoted_text}

one_text : (b : ℕ) → IsUtf8 (b ∷ []) → (t : List ℕ) → IsUtf8 t → IsUtf8 (b ∷ t)
one_text b h t k = IsUtf8-append (b ∷ []) t h k

-- a number is read as a text
number_text : (t : List ℕ) → IsNumber t → IsUtf8 t
unfolding number_at
number_text t k = by (after_number 0 0 (t ++ [])) (number_read 0 0 t [] k tt)
  where
    by : (r : Result (List ℕ) ℕ) → (r >>= λ rest. as_text 0 (take (length (t ++ []) - length rest) (t ++ [])) rest) ≡ Ok (t, []) → IsUtf8 t
    by (Ok rest) e = (let p = text_found 0 (take (length (t ++ []) - length rest) (t ++ [])) rest t [] e in subst IsUtf8 p.0 (IsUtf8-from_is_utf8 _ p.2))
    by (Err at) e = absurd cc

-- ---- lists

abbrev AreTexts : List (List ℕ) → Type 0
AreTexts ts = AllByRecursion IsUtf8 ts

behind_texts : (ts : List (List ℕ)) → AreTexts ts → IsUtf8 (behind_commas ts)
behind_texts [] h = IsUtf8-nil
behind_texts (t ∷ ts) h = IsUtf8-append (44 ∷ t) (behind_commas ts) (IsUtf8-append (44 ∷ []) t (low_text _ (omega arith, tt)) h.0) (behind_texts ts h.1)

commas_texts : (ts : List (List ℕ)) → AreTexts ts → IsUtf8 (with_commas ts)
commas_texts [] h = IsUtf8-nil
commas_texts (t ∷ ts) h = IsUtf8-append t (behind_commas ts) h.0 (behind_texts ts h.1)

between : (a b : ℕ) (t : List ℕ) → IsUtf8 (a ∷ []) → IsUtf8 (b ∷ []) → IsUtf8 t → IsUtf8 (a ∷ (t ++ b ∷ []))
between a b t h g k = IsUtf8-append (a ∷ []) (t ++ b ∷ []) h (IsUtf8-append t (b ∷ []) k g)

-- ---- the induction

abbrev IsPrinted : Tree → Type 0
IsPrinted t = IsWellFormed t → IsUtf8 (text_of t)

abbrev Proved : Type 0
Proved = (t : Tree) × IsPrinted t

abbrev tree_in : Proved → Tree
tree_in p = p.0

abbrev on_tree : List ℕ × Proved → List ℕ × Tree
on_tree e = (e.0, e.1.0)

items_printed : (ys : List Proved) → AreWellFormedItems (map tree_in ys) → AreTexts (map text_of (map tree_in ys))
items_printed [] k = tt
items_printed (y ∷ ys) k = (y.1 k.0, items_printed ys k.1)

fields_printed : (ys : List (List ℕ × Proved)) → AllByRecursion (λ e. is_utf8 e.0 ≡ true) (map on_tree ys) → AreWellFormedFields (map on_tree ys) → AreTexts (map member_text (map (λ (e : List ℕ × Tree). (e.0, text_of e.1)) (map on_tree ys)))
fields_printed [] n k = tt
fields_printed (y ∷ ys) n k =
    (IsUtf8-append (quoted y.0) (58 ∷ text_of y.1.0) (quoted_text y.0 n.0) (IsUtf8-append (58 ∷ []) (text_of y.1.0) (low_text _ (omega arith, tt)) (y.1.1 k.0)), fields_printed ys n.1 k.1)

level : (y : Tree-F Proved) → IsWellFormedLevel (map-Tree Proved Tree tree_in y) → HoldsWellFormed (map-Tree Proved Tree tree_in y) → IsUtf8 (print_step (map-Tree Tree (List ℕ) text_of (map-Tree Proved Tree tree_in y)))
level Tree-F.Null k h = low_text _ (omega arith, (omega arith, (omega arith, (omega arith, tt))))
level (Tree-F.Bool true) k h = low_text _ (omega arith, (omega arith, (omega arith, (omega arith, tt))))
level (Tree-F.Bool false) k h = low_text _ (omega arith, (omega arith, (omega arith, (omega arith, (omega arith, tt)))))
level (Tree-F.Number t) k h = number_text t k
level (Tree-F.Str t) k h = quoted_text t k
level (Tree-F.Items ys) k h = between 91 93 _ (low_text _ (omega arith, tt)) (low_text _ (omega arith, tt)) (commas_texts _ (items_printed ys h))
level (Tree-F.Object ys) k h = between 123 125 _ (low_text _ (omega arith, tt)) (low_text _ (omega arith, tt)) (commas_texts _ (fields_printed ys k.1 h))

step : (x : Tree-F Tree) (y : Tree-F Proved) → map-Tree Proved Tree (λ (p : Proved). p.0) y ≡ x → IsPrinted (roll-Tree x)
step x y e k =
    subst IsUtf8 (sym (fold-roll-Tree (List ℕ) print_step x))
    (subst (λ (z : Tree-F Tree). IsWellFormedLevel z → HoldsWellFormed z → IsUtf8 (print_step (map-Tree Tree (List ℕ) text_of z))) e (level y)
    (subst IsWellFormedLevel (out-roll-Tree x) (here_well (roll-Tree x) k)) (subst HoldsWellFormed (out-roll-Tree x) (held_well (roll-Tree x) k)))

pub printed_text : (t : Tree) → IsPrinted t
printed_text t = ind-Tree IsPrinted step t

pub prints_texts : PrintsAreTexts
prints_texts t k = is_utf8-from_IsUtf8 (text_of t) (printed_text t k)
