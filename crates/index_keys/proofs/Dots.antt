-- Names with dots between them.
use Rattle.std.proofs.Common.{◌≡◌, ℕ, ◌+◌, ◌<◌, List, [], ◌∷◌, ◌++◌, length, take, get_or, refl, sym, ap, ◌∙◌, append_assoc, append-nil}
use Rattle.std.proofs.lemmas.List.{take_more}
use Rattle.std.proofs.lemmas.List.Splits.{join_with_byte-slice_split}
use Rattle.doc_path.specs.Paths.{dot}
use Rattle.index_keys.specs.Faults.{DottedParts, dotted, behind_dots}

behind-append : (xs ys : List (List ℕ)) → behind_dots (xs ++ ys) ≡ behind_dots xs ++ behind_dots ys
behind-append [] ys = refl
behind-append (x ∷ xs) ys = ap (λ (l : List ℕ). (dot ∷ x) ++ l) (behind-append xs ys) ∙ sym (append_assoc (dot ∷ x) (behind_dots xs) (behind_dots ys))

pub next_name : (xs : List (List ℕ)) (i : ℕ) (y old done : List ℕ) → i < length xs → y ≡ get_or xs i y → done ≡ old ++ behind_dots (take i xs) → (done ++ 46 ∷ []) ++ y ≡ old ++ behind_dots (take (i + 1) xs)
next_name xs i y old done lt at is =
    let more : take (i + 1) xs ≡ take i xs ++ y ∷ [] = take_more xs i y lt ∙ rw (← at) refl in
    let one : behind_dots (take (i + 1) xs) ≡ behind_dots (take i xs) ++ dot ∷ y = ap behind_dots more ∙ (behind-append (take i xs) (y ∷ []) ∙ ap (λ (l : List ℕ). behind_dots (take i xs) ++ dot ∷ l) (append-nil y)) in
    append_assoc done (46 ∷ []) y ∙ (ap (λ (l : List ℕ). l ++ 46 ∷ y) is ∙ (append_assoc old _ _ ∙ ap (λ (l : List ℕ). old ++ l) (sym one)))

pub dotted_is : (x : List ℕ) (xs : List (List ℕ)) → x ++ behind_dots xs ≡ dotted (x ∷ xs)
dotted_is x [] = append-nil x
dotted_is x (y ∷ xs) = ap (λ (l : List ℕ). x ++ (dot ∷ l)) (dotted_is y xs)

pub dotted_parts : DottedParts
dotted_parts text = join_with_byte-slice_split dot text
