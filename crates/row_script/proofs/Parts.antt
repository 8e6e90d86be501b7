-- The parts of a row, by std's search.
use Rattle.std.proofs.Common.{◌≡◌, ◌↔◌, Contains, eqb-true, true≢false, ℕ, ◌<◌, ◌≤◌, List, [], ◌++◌, ◌⊎◌, inl, inr, length, take, drop, refl, sym, ap, ◌∙◌, arith, length-append}
use Rattle.std.specs.Prelude.{None}
use Rattle.std.specs.Str.Pattern.{FindsText, SplitsAroundMatch}
use Rattle.std.proofs.lemmas.Bool.{cases_lt}
use Rattle.std.proofs.lemmas.List.Sums.{passes_at_first, fails_before_first}
use Rattle.std.specs.List.{position_or_len}
use Rattle.std.proofs.lemmas.List.{drop_at, take-append-drop}
use Rattle.row_script.specs.Rows.{IsRow, mark, is_blank}

-- the mark stands behind these bytes, and nowhere before
pub first_mark : (line asked wanted : List ℕ) → SplitsAroundMatch (FindsText mark) line asked wanted → IsRow line (record { asked = asked; wanted = wanted })
first_mark line asked wanted h =
    let i = h.0 in
    let has = h.2.1 in
    inl (
      sym (take-append-drop i line) ∙ (ap (λ (x : List ℕ). take i line ++ x) (has.split ∙ ap (λ (x : List ℕ). mark ++ x) (sym h.4)) ∙ ap (λ (x : List ℕ). x ++ (mark ++ wanted)) (sym h.3)),
      λ xs ys e. go xs ys e (cases_lt (length xs) i),
    )
  where
    go : (xs ys : List ℕ) → line ≡ xs ++ (mark ++ ys) → (length xs < h.0) ⊎ (h.0 ≤ length xs) → length asked ≤ length xs
    go xs ys e (inl lt) = absurd (h.2.0 (length xs) lt ys (ap (drop (length xs)) e ∙ drop_at xs (mark ++ ys) (length xs) refl))
    go xs ys e (inr le) = omega (arith, le, h.6)

pub no_mark : (line : List ℕ) → FindsText mark line None → IsRow line (record { asked = line; wanted = [] })
no_mark line none = inr (
  refl,
  λ xs ys e.
      none (length xs) (omega (arith, ap length e, length-append xs (mark ++ ys))) ys (ap (drop (length xs)) e ∙ drop_at xs (mark ++ ys) (length xs) refl),
)

-- a blank stands somewhere exactly where the first one stands somewhere
pub first_blank : (text : List ℕ) → (position_or_len is_blank text < length text) ↔ Contains text 32
first_blank text = (there, back) where
  there : position_or_len is_blank text < length text → Contains text 32
  there lt = (position_or_len is_blank text, lt, eqb-true _ _ (passes_at_first is_blank text 32 lt))

  back : Contains text 32 → position_or_len is_blank text < length text
  back (k, lt, is) = go (cases_lt (position_or_len is_blank text) (length text)) where
    go : (position_or_len is_blank text < length text) ⊎ (length text ≤ position_or_len is_blank text) → position_or_len is_blank text < length text
    go (inl here) = here
    go (inr none) = absurd (true≢false (sym (ap is_blank is) ∙ fails_before_first is_blank text k 32 (omega (arith, lt, none))))
