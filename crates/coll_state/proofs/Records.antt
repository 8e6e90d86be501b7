-- Records by their numbers are rows by their keys.
use Rattle.std.proofs.Common.{◌≡◌, ℕ, ◌<◌, List, [], ◌∷◌, ◌++◌, true, false, refl, sym, ap, ◌∙◌, subst, arith, Option, Some, None, inl, inr}
use Rattle.std.specs.Prelude.{option_map}
use Rattle.std.specs.Ordering.{nat_cmp, is_eq, eq_by_cmp}
use Rattle.std.specs.declared.cmp.Ordering.{Ordering}
use Rattle.std.specs.declared.cmp.Ordering.TheVariants.{Less}
use Rattle.std.specs.Cmp.{nat_cmp_total, tied_itself}
use Rattle.std.specs.FinMap.{nat_cmp-IsAntisymmetric}
use Rattle.std.specs.Borrow.{Bor}
use Rattle.std.specs.Option.{option_copied}
use Rattle.std.proofs.lemmas.Bool.{cases_Bool}
use Rattle.std.proofs.lemmas.Grind.{common_steps}
use Rattle.state_model.specs.Keys.{Key, same_key}
use Rattle.state_model.proofs.Keys.{key_is, key_from}
use Rattle.coll_state.specs.declared.collection.Record.{Record}
use Rattle.coll_state.specs.Rows.{Row, row_of, Rising, key_in, id_of}
use Rattle.coll_state.specs.Changes.{put_row, drop_row}
use Rattle.sorted_list.specs.Order.{IsOrdered, found, set_in, take_out}
use Rattle.coll_state.specs.Stock.{AllAfter, Rise, beside, row_in, rows_in, no_of}
use Rattle.coll_state.proofs.Keyed.{rise_ordered, after_trans}
use Rattle.coll_state.proofs.RowLists.{row_here, row_later, no_in, some_no, number_there, put_found, put_further}

-- the order beside a number
abbrev pub at_no : ℕ → Record → Ordering
at_no n = beside nat_cmp no_of n

less : (a b : ℕ) → a < b → nat_cmp a b ≡ Less
less a b l = grind (arith, common_steps)

pub rising_after : (low : ℕ) (rs : List Record) → Rising low (rows_in rs) → AllAfter nat_cmp no_of low rs
rising_after low [] up = tt
rising_after low (r ∷ rs) up = (less low r.no up.0, after_trans nat_cmp nat_cmp_total nat_cmp-IsAntisymmetric no_of low r.no rs (less low r.no up.0) (rising_after r.no rs up.2))

pub rising_rise : (low : ℕ) (rs : List Record) → Rising low (rows_in rs) → Rise nat_cmp no_of rs
rising_rise low [] up = tt
rising_rise low (r ∷ rs) up = (rising_after r.no rs up.2, rising_rise r.no rs up.2)

pub records_ordered : (rs : List Record) (n : ℕ) → Rising 0 (rows_in rs) → IsOrdered (at_no n) rs
records_ordered rs n up = rise_ordered nat_cmp nat_cmp_total nat_cmp-IsAntisymmetric no_of rs n (rising_rise 0 rs up)

-- beside a number that stands later
lower : (a b : ℕ) → a < b → eq_by_cmp nat_cmp a b ≡ false
lower a b l = grind (arith, common_steps)

here_is : (n : ℕ) → eq_by_cmp nat_cmp n n ≡ true
here_is n = ap is_eq (tied_itself nat_cmp_total n)

-- the record under the number of a key is the row of that key
pub found_row : (low : ℕ) (rs : List Record) (k : Key) (n : ℕ) → Rising low (rows_in rs) → no_in (row_of (rows_in rs) k) ≡ Some n → option_map row_in (found (at_no n) rs) ≡ row_of (rows_in rs) k
found_row low [] k n up e = cc
found_row low (r ∷ rs) k n up e = elim (cases_Bool (same_key k (row_in r).key)) [
  | inl s ↦ (let is : r.no ≡ n = some_no (row_in r) n (ap no_in (sym (row_here (row_in r) (rows_in rs) k s)) ∙ e) in
      let t : eq_by_cmp nat_cmp r.no n ≡ true = subst (λ (z : ℕ). eq_by_cmp nat_cmp r.no z ≡ true) is (here_is r.no) in
      rw (t, s) refl)
  | inr s ↦ (let later : no_in (row_of (rows_in rs) k) ≡ Some n = ap no_in (sym (row_later (row_in r) (rows_in rs) k s)) ∙ e in
      rw (lower r.no n (number_there r.no (rows_in rs) k n up.2 later), s) (found_row r.no rs k n up.2 later))
]

pub set_row : (low : ℕ) (rs : List Record) (k : Key) (n next : ℕ) (d : Record) → d.no ≡ n → key_in (id_of d.document) ≡ k → Rising low (rows_in rs) → no_in (row_of (rows_in rs) k) ≡ Some n →
    rows_in (set_in (at_no n) d rs) ≡ put_row next k d.document (rows_in rs)
set_row low [] k n next d dn dk up e = cc
set_row low (r ∷ rs) k n next d dn dk up e = elim (cases_Bool (same_key k (row_in r).key)) [
  | inl s ↦ (let is : r.no ≡ n = some_no (row_in r) n (ap no_in (sym (row_here (row_in r) (rows_in rs) k s)) ∙ e) in
      let t : eq_by_cmp nat_cmp r.no n ≡ true = subst (λ (z : ℕ). eq_by_cmp nat_cmp r.no z ≡ true) is (here_is r.no) in
      rw t (row_same is s ∙ sym (put_found next k d.document (row_in r) (rows_in rs) s)))
  | inr s ↦ (let later : no_in (row_of (rows_in rs) k) ≡ Some n = ap no_in (sym (row_later (row_in r) (rows_in rs) k s)) ∙ e in
      rw (lower r.no n (number_there r.no (rows_in rs) k n up.2 later))
      (ap (λ (z : List Row). row_in r ∷ z) (set_row r.no rs k n next d dn dk up.2 later) ∙ sym (put_further next k d.document (row_in r) (rows_in rs) s)))
]
  where
    row_same : r.no ≡ n → same_key k (row_in r).key ≡ true → row_in d ∷ rows_in rs ≡ record { no = r.no; key = (row_in r).key; document = d.document } ∷ rows_in rs
    row_same is s =
        let no : d.no ≡ r.no = dn ∙ sym is in
        let key : key_in (id_of d.document) ≡ (row_in r).key = dk ∙ key_is k (row_in r).key s in
        λ i. record { no = no i; key = key i; document = d.document } ∷ rows_in rs

pub append_row : (rs : List Record) (k : Key) (n : ℕ) (d : Record) → d.no ≡ n → key_in (id_of d.document) ≡ k → row_of (rows_in rs) k ≡ None → rows_in (rs ++ d ∷ []) ≡ put_row n k d.document (rows_in rs)
append_row [] k n d dn dk e = λ i. record { no = dn i; key = dk i; document = d.document } ∷ []
append_row (r ∷ rs) k n d dn dk e = elim (cases_Bool (same_key k (row_in r).key)) [
  | inl s ↦ absurd (there s)
  | inr s ↦ ap (λ (z : List Row). row_in r ∷ z) (append_row rs k n d dn dk (sym (row_later (row_in r) (rows_in rs) k s) ∙ e))
      ∙ sym (put_further n k d.document (row_in r) (rows_in rs) s)
]
  where
    there : same_key k (row_in r).key ≡ true → ⊥
    there s = let f : Some (row_in r) ≡ None = sym (row_here (row_in r) (rows_in rs) k s) ∙ e in cc

pub take_row : (low : ℕ) (rs : List Record) (k : Key) (n : ℕ) → Rising low (rows_in rs) → no_in (row_of (rows_in rs) k) ≡ Some n → rows_in (take_out (at_no n) rs) ≡ drop_row k (rows_in rs)
take_row low [] k n up e = cc
take_row low (r ∷ rs) k n up e = elim (cases_Bool (same_key k (row_in r).key)) [
  | inl s ↦ (let is : r.no ≡ n = some_no (row_in r) n (ap no_in (sym (row_here (row_in r) (rows_in rs) k s)) ∙ e) in
      let t : eq_by_cmp nat_cmp r.no n ≡ true = subst (λ (z : ℕ). eq_by_cmp nat_cmp r.no z ≡ true) is (here_is r.no) in
      rw (t, s) refl)
  | inr s ↦ (let later : no_in (row_of (rows_in rs) k) ≡ Some n = ap no_in (sym (row_later (row_in r) (rows_in rs) k s)) ∙ e in
      rw (lower r.no n (number_there r.no (rows_in rs) k n up.2 later), s) (ap (λ (z : List Row). row_in r ∷ z) (take_row r.no rs k n up.2 later)))
]

-- a look at a record
pub looked : (o : Option (Bor Record)) → option_map (λ (r : Bor Record). row_in r.now) o ≡ option_map row_in (option_copied o)
looked None = refl
looked (Some r) = refl

-- a row stands under its key
row_key : (rs : List Row) (k : Key) (r : Row) → row_of rs k ≡ Some r → r.key ≡ k
row_key [] k r e = cc
row_key (x ∷ rs) k r e =
    elim (cases_Bool (same_key k x.key)) [
      | inl s ↦ (let is : x ≡ r = cc_some x r (sym (row_here x rs k s) ∙ e) in ap (λ (z : Row). z.key) (sym is) ∙ sym (key_is k x.key s))
      | inr s ↦ row_key rs k r (sym (row_later x rs k s) ∙ e)
    ]
  where
    cc_some : (a b : Row) → Some a ≡ Some b → a ≡ b
    cc_some a b h = cc

pub keyed : (o : Option (Bor Record)) (r : Bor Record) (rs : List Row) (k : Key) → option_map (λ (z : Bor Record). row_in z.now) o ≡ row_of rs k → o ≡ Some r → key_in (id_of r.now.document) ≡ k
keyed o r rs k e is = row_key rs k (row_in r.now) (sym e ∙ ap (option_map (λ (z : Bor Record). row_in z.now)) is)

-- a record that is found by its number is the row of its key
pub found_keyed : (low : ℕ) (rs : List Record) (n : ℕ) (r : Record) → Rising low (rows_in rs) → found (at_no n) rs ≡ Some r → row_of (rows_in rs) (key_in (id_of r.document)) ≡ Some (row_in r)
found_keyed low [] n r up e = cc
found_keyed low (x ∷ rs) n r up e = elim (cases_Bool (is_eq (at_no n x))) [
  | inl here ↦ (let is : x ≡ r = some_record x r (sym (taken here) ∙ e) in
      subst (λ (z : Record). row_of (row_in x ∷ rows_in rs) (key_in (id_of z.document)) ≡ Some (row_in z)) is (row_here (row_in x) (rows_in rs) (row_in x).key (key_from (row_in x).key (row_in x).key refl)))
  | inr later ↦ (let there = found_keyed x.no rs n r up.2 (sym (passed later) ∙ e) in
      elim (cases_Bool (same_key (key_in (id_of r.document)) (row_in x).key)) [
        | inl s ↦ absurd (twice (key_is (key_in (id_of r.document)) (row_in x).key s) there)
        | inr s ↦ row_later (row_in x) (rows_in rs) (key_in (id_of r.document)) s ∙ there
      ])
]
  where
    some_record : (a b : Record) → Some a ≡ Some b → a ≡ b
    some_record a b h = cc

    taken : is_eq (at_no n x) ≡ true → found (at_no n) (x ∷ rs) ≡ Some x
    taken h = rw h refl

    passed : is_eq (at_no n x) ≡ false → found (at_no n) (x ∷ rs) ≡ found (at_no n) rs
    passed h = rw h refl

    twice : key_in (id_of r.document) ≡ (row_in x).key → row_of (rows_in rs) (key_in (id_of r.document)) ≡ Some (row_in r) → ⊥
    twice k there = let f : Some (row_in r) ≡ None = sym there ∙ (ap (row_of (rows_in rs)) k ∙ up.1) in cc
