-- Rows after a document is put or taken out.
use Rattle.std.proofs.Common.{◌≡◌, ◌≢◌, ℕ, ◌<◌, ◌≤◌, List, [], ◌∷◌, true, false, refl, sym, ap, ◌∙◌, subst, arith, Option, Some, None, inl, inr}
use Rattle.std.specs.Prelude.{◌⊎◌, option_map}
use Rattle.std.proofs.lemmas.Bool.{cases_Bool}
use Rattle.state_model.specs.Keys.{Key, same_key}
use Rattle.state_model.proofs.Keys.{key_is, key_from, key_turn}
use Rattle.coll_state.specs.Rows.{Document, Row, row_of, Rising, last_no}
use Rattle.coll_state.specs.Changes.{put_row, drop_row, next_after}

pub row_here : (r : Row) (rs : List Row) (i : Key) → (same_key i r.key) ≡ true → row_of (r ∷ rs) i ≡ Some r
row_here r rs i e = rw e refl

pub row_later : (r : Row) (rs : List Row) (i : Key) → (same_key i r.key) ≡ false → row_of (r ∷ rs) i ≡ row_of rs i
row_later r rs i e = rw e refl

pub same_id : (i j : Key) → (same_key i j) ≡ true → i ≡ j
same_id i j e = key_is i j e

pub same_from : (i j : Key) → i ≡ j → (same_key i j) ≡ true
same_from i j e = key_from i j e

-- each row stands behind the bound
pub rising_above : (low : ℕ) (rs : List Row) (i : Key) (r : Row) → Rising low rs → row_of rs i ≡ Some r → low < r.no
rising_above low [] i r up e = cc
rising_above low (h ∷ rs) i r up e =
    elim (cases_Bool (same_key i h.key)) [
      | inl s ↦ (let f : Some h ≡ Some r = sym (row_here h rs i s) ∙ e in let g : h ≡ r = cc in subst (λ (z : Row). low < z.no) g up.0)
      | inr s ↦ (let b = rising_above h.no rs i r up.2 (sym (row_later h rs i s) ∙ e) in let a = up.0 in omega arith)
    ]

abbrev pub no_in : Option Row → Option ℕ
no_in o = option_map (λ (r : Row). r.no) o

pub some_no : (r : Row) (n : ℕ) → Some r.no ≡ Some n → r.no ≡ n
some_no r n e = cc

pub number_there : (low : ℕ) (rs : List Row) (i : Key) (n : ℕ) → Rising low rs → no_in (row_of rs i) ≡ Some n → low < n
number_there low rs i n up e = by (row_of rs i) refl e
  where
    by : (o : Option Row) → row_of rs i ≡ o → no_in o ≡ Some n → low < n
    by None p h = cc
    by (Some r) p h = subst (λ (z : ℕ). low < z) (some_no r n h) (rising_above low rs i r up p)

pub put_found : (next : ℕ) (i : Key) (d : Document) (r : Row) (rs : List Row) → same_key i r.key ≡ true → put_row next i d (r ∷ rs) ≡ record { no = r.no; key = r.key; document = d } ∷ rs
put_found next i d r rs s = rw s refl

pub put_further : (next : ℕ) (i : Key) (d : Document) (r : Row) (rs : List Row) → same_key i r.key ≡ false → put_row next i d (r ∷ rs) ≡ r ∷ put_row next i d rs
put_further next i d r rs s = rw s refl

put_later : (r : Row) (rs : List Row) (next : ℕ) (i : Key) (d : Document) (k : Row) → (same_key i r.key) ≡ false → row_of (put_row next i d rs) i ≡ Some k → row_of (put_row next i d (r ∷ rs)) i ≡ Some k
put_later r rs next i d k s h = rw s (rw s h)

put_first : (r : Row) (rs : List Row) (next : ℕ) (i : Key) (d : Document) → (same_key i r.key) ≡ true → row_of (put_row next i d (r ∷ rs)) i ≡ Some (record { no = r.no; key = r.key; document = d })
put_first r rs next i d s = rw s (rw s refl)

pub kept_row : (rs : List Row) (next : ℕ) (i : Key) (d : Document) (row : Row) → row_of rs i ≡ Some row → (k : Row) × (row_of (put_row next i d rs) i ≡ Some k) × (k.no ≡ row.no)
kept_row [] next i d row e = cc
kept_row (r ∷ rs) next i d row e =
    elim (cases_Bool (same_key i r.key)) [
      | inl s ↦ (let f : r ≡ row = (let g : Some r ≡ Some row = sym (row_here r rs i s) ∙ e in cc) in
          (record { no = r.no; key = r.key; document = d }, put_first r rs next i d s, ap (λ (z : Row). z.no) f))
      | inr s ↦ (let h = kept_row rs next i d row (sym (row_later r rs i s) ∙ e) in (h.0, put_later r rs next i d h.0 s h.1, h.2))
    ]

pub row_put_doc : (rs : List Row) (next : ℕ) (i : Key) (d : Document) → option_map (λ (r : Row). r.document) (row_of (put_row next i d rs) i) ≡ Some d
row_put_doc [] next i d = rw (same_from i i refl) refl
row_put_doc (r ∷ rs) next i d =
    elim (cases_Bool (same_key i r.key)) [
      | inl s ↦ rw s (rw s refl)
      | inr s ↦ rw s (rw s (row_put_doc rs next i d))
    ]

pub ids_apart : (i j k : Key) → (same_key j i) ≡ false → (same_key i k) ≡ true → (same_key j k) ≡ false
ids_apart i j k e f = subst (λ (z : Key). same_key j z ≡ false) (key_is i k f) e

pub row_put_else : (rs : List Row) (next : ℕ) (i j : Key) (d : Document) → (same_key j i) ≡ false → row_of (put_row next i d rs) j ≡ row_of rs j
row_put_else [] next i j d e = rw e refl
row_put_else (r ∷ rs) next i j d e =
    elim (cases_Bool (same_key i r.key)) [
      | inl s ↦ rw s (rw (ids_apart i j r.key e s) refl)
      | inr s ↦ rw s (both (cases_Bool (same_key j r.key)) (row_put_else rs next i j d e))
    ]
  where
    both : ((same_key j r.key) ≡ true) ⊎ ((same_key j r.key) ≡ false) → row_of (put_row next i d rs) j ≡ row_of rs j → row_of (r ∷ put_row next i d rs) j ≡ row_of (r ∷ rs) j
    both (inl t) h = rw t refl
    both (inr t) h = rw t h

pub row_drop_else : (rs : List Row) (i j : Key) → (same_key j i) ≡ false → row_of (drop_row i rs) j ≡ row_of rs j
row_drop_else [] i j e = refl
row_drop_else (r ∷ rs) i j e =
    elim (cases_Bool (same_key i r.key)) [
      | inl s ↦ rw s (rw (ids_apart i j r.key e s) refl)
      | inr s ↦ rw s (both (cases_Bool (same_key j r.key)) (row_drop_else rs i j e))
    ]
  where
    both : ((same_key j r.key) ≡ true) ⊎ ((same_key j r.key) ≡ false) → row_of (drop_row i rs) j ≡ row_of rs j → row_of (r ∷ drop_row i rs) j ≡ row_of (r ∷ rs) j
    both (inl t) h = rw t refl
    both (inr t) h = rw t h

pub row_drop_here : (low : ℕ) (rs : List Row) (i : Key) → Rising low rs → row_of (drop_row i rs) i ≡ None
row_drop_here low [] i up = refl
row_drop_here low (r ∷ rs) i up =
    elim (cases_Bool (same_key i r.key)) [
      | inl s ↦ rw s (subst (λ (z : Key). row_of rs z ≡ None) (sym (same_id i r.key s)) up.1)
      | inr s ↦ rw s (rw s (row_drop_here r.no rs i up.2))
    ]

pub flip_id : (i j : Key) → (same_key i j) ≡ false → (same_key j i) ≡ false
flip_id i j e = key_turn i j false e

pub rising_put : (low : ℕ) (rs : List Row) (next : ℕ) (i : Key) (d : Document) → Rising low rs → last_no low rs < next → Rising low (put_row next i d rs)
rising_put low [] next i d up l = (l, refl, tt)
rising_put low (r ∷ rs) next i d up l =
    elim (cases_Bool (same_key i r.key)) [
      | inl s ↦ rw s (up.0, up.1, up.2)
      | inr s ↦ (let ih = rising_put r.no rs next i d up.2 l in rw s (up.0, row_put_else rs next i r.key d (flip_id i r.key s) ∙ up.1, ih))
    ]

pub last_put : (low : ℕ) (rs : List Row) (next : ℕ) (i : Key) (d : Document) → last_no low rs < next → last_no low (put_row next i d rs) < next_after next (row_of rs i)
last_put low [] next i d l = omega arith
last_put low (r ∷ rs) next i d l =
    elim (cases_Bool (same_key i r.key)) [
      | inl s ↦ rw s l
      | inr s ↦ rw s (last_put r.no rs next i d l)
    ]

pub rising_lower : (low high : ℕ) (rs : List Row) → low ≤ high → Rising high rs → Rising low rs
rising_lower low high [] l up = tt
rising_lower low high (r ∷ rs) l up = ((let a = up.0 in omega arith), up.1, up.2)

pub rising_drop : (low : ℕ) (rs : List Row) (i : Key) → Rising low rs → Rising low (drop_row i rs)
rising_drop low [] i up = up
rising_drop low (r ∷ rs) i up =
    elim (cases_Bool (same_key i r.key)) [
      | inl s ↦ (let a = up.0 in rw s (rising_lower low r.no rs (omega arith) up.2))
      | inr s ↦ (let ih = rising_drop r.no rs i up.2 in rw s (up.0, row_drop_else rs i r.key (flip_id i r.key s) ∙ up.1, ih))
    ]

pub last_lower : (low high : ℕ) (rs : List Row) → low ≤ high → last_no low rs ≤ last_no high rs
last_lower low high [] l = l
last_lower low high (r ∷ rs) l = omega arith

pub last_drop : (low : ℕ) (rs : List Row) (i : Key) → Rising low rs → last_no low (drop_row i rs) ≤ last_no low rs
last_drop low [] i up = omega arith
last_drop low (r ∷ rs) i up =
    elim (cases_Bool (same_key i r.key)) [
      | inl s ↦ (let a = up.0 in rw s (last_lower low r.no rs (omega arith)))
      | inr s ↦ rw s (last_drop r.no rs i up.2)
    ]

pub last_least : (low : ℕ) (rs : List Row) → Rising low rs → low ≤ last_no low rs
last_least low [] up = omega arith
last_least low (r ∷ rs) up = let a = up.0 in let b = last_least r.no rs up.2 in omega arith

-- the number of a row that was put
pub fresh_no : (rs : List Row) (next : ℕ) (i : Key) (d : Document) → row_of rs i ≡ None → no_in (row_of (put_row next i d rs) i) ≡ Some next
fresh_no [] next i d e = rw (key_from i i refl) refl
fresh_no (r ∷ rs) next i d e =
    elim (cases_Bool (same_key i r.key)) [
      | inl s ↦ absurd (found s)
      | inr s ↦ ap (λ z. no_in (row_of z i)) (put_further next i d r rs s) ∙ (ap no_in (row_later r (put_row next i d rs) i s) ∙ fresh_no rs next i d (sym (row_later r rs i s) ∙ e))
    ]
  where
    found : same_key i r.key ≡ true → ⊥
    found s = let f : Some r ≡ None = sym (row_here r rs i s) ∙ e in cc

pub kept_no : (rs : List Row) (next : ℕ) (i : Key) (d : Document) (o : Option Row) → row_of rs i ≡ o → o ≢ None → no_in (row_of (put_row next i d rs) i) ≡ no_in (row_of rs i)
kept_no rs next i d None e h = absurd (h refl)
kept_no rs next i d (Some r) e h = let k = kept_row rs next i d r e in rw (k.1, e) (ap Some k.2)

pub row_found : (rs : List Row) (i : Key) (n : ℕ) (o : Option Row) → row_of rs i ≡ o → no_in o ≡ Some n → o ≢ None
row_found rs i n None p e = cc
row_found rs i n (Some r) p e = λ f. cc

pub row_absent : (rs : List Row) (i : Key) (o : Option Row) → row_of rs i ≡ o → no_in o ≡ None → row_of rs i ≡ None
row_absent rs i None p e = p
row_absent rs i (Some r) p e = cc
