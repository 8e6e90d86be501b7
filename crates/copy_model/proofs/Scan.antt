-- A cursor's step on a list of rows.
use Rattle.std.proofs.Common.{◌≡◌, ℕ, zero, suc, ◌<◌, List, [], ◌∷◌, length, true, false, refl, sym, ◌∙◌, subst, arith, Some, None, inl, inr}
use Rattle.std.specs.Prelude.{◌⊎◌, nat_lt}
use Rattle.std.proofs.lemmas.Bool.{cases_Bool}
use Rattle.std.proofs.lemmas.Grind.{common_steps}
use Rattle.state_model.specs.Keys.{Key, same_key}
use Rattle.coll_state.specs.Rows.{Row, row_of, Rising, last_no, scan}
use Rattle.coll_state.proofs.RowLists.{row_here, row_later, same_id, rising_above}

pub scan_takes : (pos k : ℕ) (h : Row) (rs : List Row) → nat_lt pos h.no ≡ true → scan pos (suc k) (h ∷ rs) ≡ h ∷ scan pos k rs
scan_takes pos k h rs e = rw e refl

pub scan_skips : (pos k : ℕ) (h : Row) (rs : List Row) → nat_lt pos h.no ≡ false → scan pos (suc k) (h ∷ rs) ≡ scan pos (suc k) rs
scan_skips pos k h rs e = rw e refl

-- what is read stands in the table
scan_taken : (out rs : List Row) (h : Row) (i : Key) (r : Row) → (row_of out i ≡ Some r → row_of rs i ≡ Some r) → row_of (h ∷ out) i ≡ Some r → row_of (h ∷ rs) i ≡ Some r
scan_taken out rs h i r ih f =
    elim (cases_Bool (same_key i h.key)) [
      | inl s ↦ row_here h rs i s ∙ (sym (row_here h out i s) ∙ f)
      | inr s ↦ row_later h rs i s ∙ ih (sym (row_later h out i s) ∙ f)
    ]

absent_at : (rs : List Row) (h : Row) (i : Key) (r : Row) → row_of rs h.key ≡ None → i ≡ h.key → row_of rs i ≡ Some r → ⊥
absent_at rs h i r n g f = let m : row_of rs i ≡ None = subst (λ (z : Key). row_of rs z ≡ None) (sym g) n in cc

scan_skipped : (rs : List Row) (h : Row) (i : Key) (r : Row) → row_of rs h.key ≡ None → row_of rs i ≡ Some r → row_of (h ∷ rs) i ≡ Some r
scan_skipped rs h i r n f =
    elim (cases_Bool (same_key i h.key)) [
      | inl s ↦ absurd (absent_at rs h i r n (same_id i h.key s) f)
      | inr s ↦ row_later h rs i s ∙ f
    ]

pub scan_from : (pos k low : ℕ) (rs : List Row) (i : Key) (r : Row) → Rising low rs → row_of (scan pos k rs) i ≡ Some r → row_of rs i ≡ Some r
scan_from pos k low [] i r up e = e
scan_from pos zero low (h ∷ rs) i r up e = cc
scan_from pos (suc k) low (h ∷ rs) i r up e =
    elim (cases_Bool (nat_lt pos h.no)) [
      | inl t ↦ scan_taken (scan pos k rs) rs h i r (scan_from pos k h.no rs i r up.2) (rw (scan_takes pos k h rs t) at e)
      | inr t ↦ scan_skipped rs h i r up.1 (scan_from pos (suc k) h.no rs i r up.2 (rw (scan_skips pos k h rs t) at e))
    ]

-- a row behind the position is read, or stands behind the new position
some_row : (h r : Row) → Some h ≡ Some r → h ≡ r
some_row h r e = cc

reached_taken : (d low pos : ℕ) (out rs : List Row) (h : Row) (i : Key) (r : Row) → row_of (h ∷ rs) i ≡ Some r → Rising h.no rs →
    (row_of rs i ≡ Some r → (row_of out i ≡ Some r) ⊎ (last_no h.no out < r.no)) →
    (row_of (h ∷ out) i ≡ Some r) ⊎ (last_no d (h ∷ out) < r.no)
reached_taken d low pos out rs h i r e up ih =
    elim (cases_Bool (same_key i h.key)) [
      | inl s ↦ inl (row_here h out i s ∙ (sym (row_here h rs i s) ∙ e))
      | inr s ↦ later s (ih (sym (row_later h rs i s) ∙ e))
    ]
  where
    later : (same_key i h.key) ≡ false → (row_of out i ≡ Some r) ⊎ (last_no h.no out < r.no) → (row_of (h ∷ out) i ≡ Some r) ⊎ (last_no h.no out < r.no)
    later s (inl a) = inl (row_later h out i s ∙ a)
    later s (inr b) = inr b

skip_apart : (pos : ℕ) (h : Row) (rs : List Row) (i : Key) (r : Row) → nat_lt pos h.no ≡ false → pos < r.no → row_of (h ∷ rs) i ≡ Some r → row_of rs i ≡ Some r
skip_apart pos h rs i r t b e =
    elim (cases_Bool (same_key i h.key)) [
      | inl s ↦ absurd (apart s)
      | inr s ↦ sym (row_later h rs i s) ∙ e
    ]
  where
    apart : (same_key i h.key) ≡ true → ⊥
    apart s =
        let f : h ≡ r = some_row h r (sym (row_here h rs i s) ∙ e) in
        let g : pos < h.no = subst (λ (z : Row). pos < z.no) (sym f) b in
        grind (arith, common_steps)

pub scan_reaches : (d pos k low : ℕ) (rs : List Row) (i : Key) (r : Row) → Rising low rs → d < r.no → pos < r.no → row_of rs i ≡ Some r →
    (row_of (scan pos k rs) i ≡ Some r) ⊎ (last_no d (scan pos k rs) < r.no)
scan_reaches d pos k low [] i r up a b e = inl e
scan_reaches d pos zero low (h ∷ rs) i r up a b e = inr a
scan_reaches d pos (suc k) low (h ∷ rs) i r up a b e =
    elim (cases_Bool (nat_lt pos h.no)) [
      | inl t ↦ rw (scan_takes pos k h rs t)
          (reached_taken d low pos (scan pos k rs) rs h i r e up.2 (λ f. scan_reaches h.no pos k h.no rs i r up.2 (rising_above h.no rs i r up.2 f) b f))
      | inr t ↦ rw (scan_skips pos k h rs t) (scan_reaches d pos (suc k) h.no rs i r up.2 a b (skip_apart pos h rs i r t b e))
    ]

-- where fewer than k were left, all were read
ended_taken : (out rs : List Row) (h : Row) (i : Key) (r : Row) → row_of (h ∷ rs) i ≡ Some r → (row_of rs i ≡ Some r → row_of out i ≡ Some r) → row_of (h ∷ out) i ≡ Some r
ended_taken out rs h i r e ih =
    elim (cases_Bool (same_key i h.key)) [
      | inl s ↦ row_here h out i s ∙ (sym (row_here h rs i s) ∙ e)
      | inr s ↦ row_later h out i s ∙ ih (sym (row_later h rs i s) ∙ e)
    ]

pub scan_ends : (pos k low : ℕ) (rs : List Row) (i : Key) (r : Row) → Rising low rs → pos < r.no → length (scan pos k rs) < k → row_of rs i ≡ Some r → row_of (scan pos k rs) i ≡ Some r
scan_ends pos k low [] i r up b l e = e
scan_ends pos zero low (h ∷ rs) i r up b l e = absurd (omega arith)
scan_ends pos (suc k) low (h ∷ rs) i r up b l e =
    elim (cases_Bool (nat_lt pos h.no)) [
      | inl t ↦ (let m : length (h ∷ scan pos k rs) < suc k = rw (scan_takes pos k h rs t) at l in
          rw (scan_takes pos k h rs t) (ended_taken (scan pos k rs) rs h i r e (λ f. scan_ends pos k h.no rs i r up.2 b (omega arith) f)))
      | inr t ↦ rw (scan_skips pos k h rs t) (scan_ends pos (suc k) h.no rs i r up.2 b (rw (scan_skips pos k h rs t) at l) (skip_apart pos h rs i r t b e))
    ]
