-- The table of half bytes has what the shifts make of them.
use Rattle.std.proofs.Common.{◌≡◌, ℕ, zero, suc, ◌+◌, ◌*◌, ◌<◌, Bool, true, List, [], ◌∷◌, length, get_or, refl, sym, ap, ◌∙◌, arith, eqb-true}
use Rattle.std.specs.Prelude.{◌==◌, ◌&&◌}
use Rattle.std.proofs.lemmas.Bool.{and_parts}
use Rattle.archive_blocks.specs.declared.crc.TheConstants.{HALVES}
use Rattle.archive_format.specs.Crc.{shift}
use Rattle.archive_blocks.specs.Shifts.{shifts}

row_ok : ℕ → ℕ → List ℕ → Bool
row_ok k n [] = true
row_ok k n (x ∷ xs) = (x == shifts (4 * (k + 1)) n) && row_ok k (n + 1) xs

rows_ok : ℕ → List (List ℕ) → Bool
rows_ok k [] = true
rows_ok k (r ∷ rs) = row_ok k 0 r && rows_ok (k + 1) rs

all_ok : rows_ok 0 HALVES ≡ true
unfolding row_ok rows_ok shifts shift
all_ok = refl

abbrev AllSixteen : List (List ℕ) → Type 0
AllSixteen [] = Unit {0}
AllSixteen (r ∷ rs) = (length r ≡ 16) × AllSixteen rs

all_sixteen : AllSixteen HALVES
all_sixteen = (refl, (refl, (refl, (refl, (refl, (refl, (refl, (refl, (refl, (refl, (refl, (refl, (refl, (refl, (refl, (refl, tt))))))))))))))))

row_at : (k m : ℕ) (xs : List ℕ) (n : ℕ) → row_ok k m xs ≡ true → n < length xs → get_or xs n 0 ≡ shifts (4 * (k + 1)) (m + n)
unfolding row_ok
row_at k m [] n e l = absurd (omega arith)
row_at k m (x ∷ xs) zero e l = let z : m + 0 ≡ m = omega arith in eqb-true _ _ (and_parts _ _ e).0 ∙ ap (λ (i : ℕ). shifts (4 * (k + 1)) i) (sym z)
row_at k m (x ∷ xs) (suc n) e l = let z : m + 1 + n ≡ m + suc n = omega arith in row_at k (m + 1) xs n (and_parts _ _ e).1 (omega arith) ∙ ap (λ (i : ℕ). shifts (4 * (k + 1)) i) z

rows_at : (k : ℕ) (rs : List (List ℕ)) (i : ℕ) → rows_ok k rs ≡ true → i < length rs → row_ok (k + i) 0 (get_or rs i []) ≡ true
unfolding rows_ok
rows_at k [] i e l = absurd (omega arith)
rows_at k (r ∷ rs) zero e l = let z : k + 0 ≡ k = omega arith in ap (λ (j : ℕ). row_ok j 0 r) z ∙ (and_parts _ _ e).0
rows_at k (r ∷ rs) (suc i) e l = let z : k + suc i ≡ k + 1 + i = omega arith in ap (λ (j : ℕ). row_ok j 0 (get_or rs i [])) z ∙ rows_at (k + 1) rs i (and_parts _ _ e).1 (omega arith)

length_at : (rs : List (List ℕ)) (i : ℕ) → AllSixteen rs → i < length rs → length (get_or rs i []) ≡ 16
length_at [] i a l = absurd (omega arith)
length_at (r ∷ rs) zero a l = a.0
length_at (r ∷ rs) (suc i) a l = length_at rs i a.1 (omega arith)

-- what the table has for half a byte
pub half_is : (i n : ℕ) → i < 16 → n < 16 → get_or (get_or HALVES i []) n 0 ≡ shifts (4 * (i + 1)) n
half_is i n k l =
    let z : 0 + i ≡ i = omega arith in
    let y : 0 + n ≡ n = omega arith in
    row_at (0 + i) 0 (get_or HALVES i []) n (rows_at 0 HALVES i all_ok k) (omega (arith, length_at HALVES i all_sixteen k)) ∙ (ap (λ (j : ℕ). shifts (4 * (j + 1)) (0 + n)) z ∙ ap (shifts (4 * (i + 1))) y)
