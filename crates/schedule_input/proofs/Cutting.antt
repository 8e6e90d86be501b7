-- The lines of the first bytes of a text, and what is read of them.
use Rattle.std.proofs.Common.{◌≡◌, ℕ, zero, suc, ◌+◌, ◌-◌, ◌<◌, ◌≤◌, List, [], ◌∷◌, length, take, Bool, true, false, arith, refl, sym, ap, ◌∙◌, subst, Result, Ok, Err, inl, inr}
use Rattle.std.specs.Prelude.{◌⊎◌, ◌==◌, ◌||◌, nat_lt, nat_le, if◌then◌else◌}
use Rattle.std.proofs.lemmas.Bool.{cases_Bool, eqb-true, lt-ltb, leb-true, leb-false, le-leb, lt-leb}
use Rattle.schedule_text.specs.declared.fault.LineKind.TheVariants as kinds
use Rattle.std.proofs.lemmas.List.{length-take-le}
use Rattle.schedule_text.specs.Lines.{whole_lines, begun, onto_first, content}
use Rattle.schedule_text.specs.Reading.{Bad, is_past_limit, is_passed, says, said, context_of, after_line, after_lines, and_then, at_start, read_schedule, schedule_of}

-- the first so many bytes of lines
abbrev cut_if : Bool → ℕ → List ℕ → List (List ℕ) → List (List ℕ)
cut_if true n line rest = take n line ∷ []
cut_if false n line rest = line ∷ rest

abbrev cut : ℕ → List (List ℕ) → List (List ℕ)
cut zero ls = []
cut (suc n) [] = []
cut (suc n) (l ∷ ls) = cut_if (nat_le (suc n) (length l)) (suc n) l (cut (suc n - length l) ls)

-- ---- the lines of the first bytes

-- a line that isn't longer than what is taken is taken whole
whole_line : (n : ℕ) (l : List ℕ) (ls : List (List ℕ)) → length l < suc n → cut (suc n) (l ∷ ls) ≡ l ∷ cut (suc n - length l) ls
whole_line n l ls h = ap (λ (x : Bool). cut_if x (suc n) l (cut (suc n - length l) ls)) (lt-leb (suc n) (length l) h)

part_line : (n : ℕ) (l : List ℕ) (ls : List (List ℕ)) → suc n ≤ length l → cut (suc n) (l ∷ ls) ≡ take (suc n) l ∷ []
part_line n l ls h = ap (λ (x : Bool). cut_if x (suc n) l (cut (suc n - length l) ls)) (le-leb (suc n) (length l) h)

one_byte : (b m : ℕ) (ls : List (List ℕ)) → (b ∷ []) ∷ cut m ls ≡ cut (suc m) ((b ∷ []) ∷ ls)
one_byte b zero ls = refl
one_byte b (suc m) ls = (let e : suc m ≡ suc (suc m) - 1 = omega arith in ap (λ (z : ℕ). (b ∷ []) ∷ cut z ls) e ∙ sym (whole_line (suc m) (b ∷ []) ls (omega arith)))

nothing_cut : (n : ℕ) → cut n [] ≡ []
nothing_cut zero = refl
nothing_cut (suc n) = refl

onto : (b m : ℕ) (ls : List (List ℕ)) → onto_first b (cut m ls) ≡ cut (suc m) (onto_first b ls)
onto b m [] = ap (onto_first b) (nothing_cut m) ∙ (ap (λ (z : List (List ℕ)). (b ∷ []) ∷ z) (sym (nothing_cut m)) ∙ one_byte b m [])
onto b zero (l ∷ ls) = sym (part_line 0 (b ∷ l) ls (omega arith))
onto b (suc m) (l ∷ ls) = by (cases_Bool (nat_le (suc m) (length l)))
  where
    by : (nat_le (suc m) (length l) ≡ true) ⊎ (nat_le (suc m) (length l) ≡ false) → onto_first b (cut (suc m) (l ∷ ls)) ≡ cut (suc (suc m)) ((b ∷ l) ∷ ls)
    by (inl e) = (let w = leb-true (suc m) (length l) e in ap (onto_first b) (part_line m l ls w) ∙ sym (part_line (suc m) (b ∷ l) ls (omega (arith, w))))
    by (inr e) =
        (let w = leb-false (suc m) (length l) e in
        let d : suc m - length l ≡ suc (suc m) - suc (length l) = omega arith in
        ap (onto_first b) (whole_line m l ls w) ∙ (ap (λ (z : ℕ). (b ∷ l) ∷ cut z ls) d ∙ sym (whole_line (suc m) (b ∷ l) ls (omega (arith, w)))))

begun_cut : (b m : ℕ) (ls : List (List ℕ)) → begun b (cut m ls) ≡ cut (suc m) (begun b ls)
begun_cut b m ls = by (cases_Bool (b == 10))
  where
    by : ((b == 10) ≡ true) ⊎ ((b == 10) ≡ false) → begun b (cut m ls) ≡ cut (suc m) (begun b ls)
    by (inl e) =
        (let ten : b ≡ 10 = eqb-true b 10 e in
        subst (λ (z : ℕ). begun z (cut m ls) ≡ cut (suc m) (begun z ls)) (sym ten) (one_byte 10 m ls))
    by (inr e) =
        ap (λ (x : Bool). if x then (b ∷ []) ∷ cut m ls else onto_first b (cut m ls)) e
        ∙ (onto b m ls ∙ ap (cut (suc m)) (sym (ap (λ (x : Bool). if x then (b ∷ []) ∷ ls else onto_first b ls) e)))

lines_cut : (n : ℕ) (text : List ℕ) → whole_lines (take n text) ≡ cut n (whole_lines text)
unfolding whole_lines
lines_cut zero text = refl
lines_cut (suc n) [] = refl
lines_cut (suc n) (b ∷ text) = ap (begun b) (lines_cut n text) ∙ begun_cut b n (whole_lines text)

-- ---- what is read of them

past : (number end : ℕ) → 67108864 < end → is_past_limit number end ≡ true
past number end l = ap (λ (x : Bool). x || nat_lt 1048576 number) (lt-ltb 67108864 end l)

pub past_line : (r : _) (number end : ℕ) (line : List ℕ) → 67108864 < end → after_line r number end line ≡ Err (number, kinds.Limit)
unfolding after_line
past_line r number end line l =
    ap (λ (x : Bool). if x then Err (number, kinds.Limit) else (if is_passed (content line) then Ok r else says r number (said (context_of r) (content line)))) (past number end l)

first_past : (r : _) (number end : ℕ) (line : List ℕ) (lines : List (List ℕ)) → 67108864 < end + length line → after_lines (line ∷ lines) r number end ≡ Err (number, kinds.Limit)
unfolding after_lines
first_past r number end line lines l = ap (λ (z : Result _ Bad). and_then z (λ s. after_lines lines s (number + 1) (end + length line))) (past_line r number (end + length line) line l)

same_rest : (x : Result _ Bad) (f g : _ → Result _ Bad) → ((s : _) → f s ≡ g s) → and_then x f ≡ and_then x g
same_rest (Ok r) f g h = h r
same_rest (Err bad) f g h = refl

lines_step : (r : _) (number end : ℕ) (line : List ℕ) (lines : List (List ℕ)) → after_lines (line ∷ lines) r number end ≡ and_then (after_line r number (end + length line) line) (λ s. after_lines lines s (number + 1) (end + length line))
unfolding after_lines
lines_step r number end line lines = refl

no_lines : (r : _) (number end n : ℕ) → after_lines (cut n []) r number end ≡ after_lines [] r number end
no_lines r number end n = ap (λ (ls : List (List ℕ)). after_lines ls r number end) (nothing_cut n)

cut_length : (n : ℕ) (l : List ℕ) → n ≤ length l → length (take n l) ≡ n
cut_length n l h = length-take-le n l h

after_cut : (ls : List (List ℕ)) (r : _) (number end n : ℕ) → 67108864 < end + n → 0 < n → after_lines (cut n ls) r number end ≡ after_lines ls r number end
after_cut [] r number end n h p = no_lines r number end n
after_cut (l ∷ ls) r number end zero h p = absurd (omega (arith, p))
after_cut (l ∷ ls) r number end (suc n) h p = by (cases_Bool (nat_le (suc n) (length l))) (λ s w. after_cut ls s (number + 1) (end + length l) (suc n - length l) (omega (arith, h, w)) (omega (arith, w)))
  where
    by : (nat_le (suc n) (length l) ≡ true) ⊎ (nat_le (suc n) (length l) ≡ false) → ((s : _) → length l < suc n → after_lines (cut (suc n - length l) ls) s (number + 1) (end + length l) ≡ after_lines ls s (number + 1) (end + length l)) → after_lines (cut (suc n) (l ∷ ls)) r number end ≡ after_lines (l ∷ ls) r number end
    by (inl e) rest =
        (let w = leb-true (suc n) (length l) e in
        let c = cut_length (suc n) l w in
        ap (λ (x : Bool). after_lines (cut_if x (suc n) l (cut (suc n - length l) ls)) r number end) e
        ∙ (first_past r number end (take (suc n) l) [] (omega (arith, h, c)) ∙ sym (first_past r number end l ls (omega (arith, h, w)))))
    by (inr e) rest =
        (let w = leb-false (suc n) (length l) e in
        ap (λ (x : Bool). after_lines (cut_if x (suc n) l (cut (suc n - length l) ls)) r number end) e
        ∙ (lines_step r number end l (cut (suc n - length l) ls)
        ∙ (same_rest (after_line r number (end + length l) l) (λ s. after_lines (cut (suc n - length l) ls) s (number + 1) (end + length l)) (λ s. after_lines ls s (number + 1) (end + length l))
        (λ s. rest s w)
        ∙ sym (lines_step r number end l ls))))

pub long_texts_are_cut : (text : List ℕ) → schedule_of (take 67108865 text) ≡ schedule_of text
unfolding schedule_of
long_texts_are_cut text =
    ap (λ (ls : List (List ℕ)). read_schedule (after_lines ls at_start 1 0)) (lines_cut 67108865 text)
    ∙ ap read_schedule (after_cut (whole_lines text) at_start 1 0 67108865 (omega arith) (omega arith))
