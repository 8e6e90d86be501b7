-- The rows of a drill, one after the other.
use Rattle.std.proofs.Common.{◌≡◌, ℕ, suc, ◌+◌, ◌-◌, ◌<◌, ◌≤◌, List, [], ◌∷◌, ◌++◌, refl, sym, ap, ◌∙◌, arith, append_assoc}
use Rattle.schedule_text.specs.DrillText.{next, lines_at, rows, creations, drill_text}

pub one_row : (n i g : ℕ) → i < n → rows n (n - i) (i + 1) g ≡ lines_at n (i + 1) g ++ rows n (n - (i + 1)) (i + 1 + 1) (next (next (next g)))
unfolding rows
one_row n i g l = let e : n - i ≡ suc (n - (i + 1)) = omega arith in rw e refl

-- with one line more
pub row_put : (n i g h : ℕ) (text more whole : List ℕ) → i < n → more ≡ text ++ lines_at n (i + 1) g → h ≡ next (next (next g)) → text ++ rows n (n - i) (i + 1) g ≡ whole → more ++ rows n (n - (i + 1)) (i + 1 + 1) h ≡ whole
row_put n i g h text more whole l m e k = rw (m, e) (append_assoc text (lines_at n (i + 1) g) (rows n (n - (i + 1)) (i + 1 + 1) (next (next (next g)))) ∙ (ap (λ (x : List ℕ). text ++ x) (sym (one_row n i g l)) ∙ k))

no_rows : (n i j g : ℕ) → n - i ≡ 0 → rows n (n - i) j g ≡ []
unfolding rows
no_rows n i j g e = rw e refl

append_none : (xs : List ℕ) → xs ≡ xs ++ []
append_none [] = refl
append_none (x ∷ xs) = ap (λ (l : List ℕ). x ∷ l) (append_none xs)

pub rows_done : (n i : ℕ) (text : List ℕ) (g : ℕ) → n ≤ i → text ++ rows n (n - i) (i + 1) g ≡ drill_text n → text ≡ drill_text n
rows_done n i text g l k = append_none text ∙ (ap (λ (x : List ℕ). text ++ x) (sym (no_rows n i (i + 1) g (omega arith))) ∙ k)

pub all_rows : (n : ℕ) (text : List ℕ) → text ≡ creations → text ++ rows n (n - 0) (0 + 1) n ≡ drill_text n
unfolding drill_text
all_rows n text e = let z : n - 0 ≡ n = omega arith in rw (e, z) refl

-- what is put behind what was put
pub put_both : (old start mid row new : List ℕ) → mid ≡ old ++ start → new ≡ mid ++ row → new ≡ old ++ (start ++ row)
put_both old start mid row new a b = b ∙ (ap (λ (x : List ℕ). x ++ row) a ∙ append_assoc old start row)
