-- How much is left where steps are repeated.
use Rattle.std.proofs.Common.{◌≡◌, ℕ, zero, suc, ◌+◌, ◌-◌, ◌<◌, ◌≤◌, List, [], ◌∷◌, length, Bool, true, false, cond, refl, sym, ap, ◌∙◌, subst, arith, Option, Some, None, inl, inr}
use Rattle.std.specs.Prelude.{◌⊎◌, ◌==◌, nat_lt}
use Rattle.std.proofs.lemmas.Bool.{cases_Bool, ltb-true, ltb-false}
use Rattle.std.specs.FinMap as map
use Rattle.bson_value.specs.declared.namespace.NsName.{NsName}
use Rattle.bson_value.specs.NamespaceOrder.{namespace_cmp}
use Rattle.state_model.proofs.Maps.{ns_insert_here}
use Rattle.coll_state.specs.Rows.{Row, Table, scan, last_no}
use Rattle.copy_model.specs.Cursors.{Cursor}
use Rattle.history_model.specs.Runs.{looked, seen}
use Rattle.dump_run.specs.Reads.{Reads}

-- more than the number of each row
abbrev pub total : List Row → ℕ
total [] = 0
total (r ∷ rs) = r.no + total rs

above : (pos d k : ℕ) (rs : List Row) → pos < d → pos < last_no d (scan pos k rs)
above pos d k [] h = h
above pos d zero (r ∷ rs) h = h
above pos d (suc k) (r ∷ rs) h = by (cases_Bool (nat_lt pos r.no)) (λ g. above pos r.no k rs g) (above pos d (suc k) rs h)
  where
    by : (nat_lt pos r.no ≡ true) ⊎ (nat_lt pos r.no ≡ false) → (pos < r.no → pos < last_no r.no (scan pos k rs)) → pos < last_no d (scan pos (suc k) rs) → pos < last_no d (scan pos (suc k) (r ∷ rs))
    by (inl s) a b = subst (λ (x : Bool). pos < last_no d (cond x (r ∷ scan pos k rs) (scan pos (suc k) rs))) (sym s) (a (ltb-true pos r.no s))
    by (inr s) a b = subst (λ (x : Bool). pos < last_no d (cond x (r ∷ scan pos k rs) (scan pos (suc k) rs))) (sym s) b

within : (pos d k : ℕ) (rs : List Row) → last_no d (scan pos k rs) ≤ d + total rs
within pos d k [] = omega arith
within pos d zero (r ∷ rs) = omega arith
within pos d (suc k) (r ∷ rs) = by (cases_Bool (nat_lt pos r.no)) (within pos r.no k rs) (within pos d (suc k) rs)
  where
    by : (nat_lt pos r.no ≡ true) ⊎ (nat_lt pos r.no ≡ false) → last_no r.no (scan pos k rs) ≤ r.no + total rs → last_no d (scan pos (suc k) rs) ≤ d + total rs → last_no d (scan pos (suc k) (r ∷ rs)) ≤ d + (r.no + total rs)
    by (inl s) a b = subst (λ (x : Bool). last_no d (cond x (r ∷ scan pos k rs) (scan pos (suc k) rs)) ≤ d + (r.no + total rs)) (sym s) (omega (arith, a))
    by (inr s) a b = subst (λ (x : Bool). last_no d (cond x (r ∷ scan pos k rs) (scan pos (suc k) rs)) ≤ d + (r.no + total rs)) (sym s) (omega (arith, b))

abbrev Moved : ℕ → ℕ → Row → List Row → Bool → Type 0
Moved pos k r rs x = (pos < last_no pos (cond x (r ∷ scan pos k rs) (scan pos (suc k) rs))) × (last_no pos (cond x (r ∷ scan pos k rs) (scan pos (suc k) rs)) ≤ r.no + total rs)

-- a step that reads something moves on
moves : (pos k : ℕ) (rs : List Row) → 0 < length (scan pos (suc k) rs) → (pos < last_no pos (scan pos (suc k) rs)) × (last_no pos (scan pos (suc k) rs) ≤ total rs)
moves pos k [] h = absurd (omega (arith, h))
moves pos k (r ∷ rs) h = by (cases_Bool (nat_lt pos r.no)) (λ g. moves pos k rs g)
  where
    by : (nat_lt pos r.no ≡ true) ⊎ (nat_lt pos r.no ≡ false) → (0 < length (scan pos (suc k) rs) → (pos < last_no pos (scan pos (suc k) rs)) × (last_no pos (scan pos (suc k) rs) ≤ total rs)) → Moved pos k r rs (nat_lt pos r.no)
    by (inl s) rest = subst (λ (x : Bool). Moved pos k r rs x) (sym s) (above pos r.no k rs (ltb-true pos r.no s), within pos r.no k rs)
    by (inr s) rest =
        (let more : 0 < length (scan pos (suc k) rs) = subst (λ (x : Bool). 0 < length (cond x (r ∷ scan pos k rs) (scan pos (suc k) rs))) s h in
        let w = rest more in
        let i = w.1 in
        subst (λ (x : Bool). Moved pos k r rs x) (sym s) (w.0, omega (arith, i)))

abbrev pub total_of : Option Table → ℕ
total_of None = 0
total_of (Some t) = total t.rows

-- of an open cursor
abbrev pub read_left : Option Cursor → Option Table → ℕ
read_left None o = 0
read_left (Some c) o = cond c.ended 0 (suc (total_of o - c.position))

less_by : (x : Cursor) (o : Option Table) (p : ℕ) → (x.ended ≡ true) ⊎ ((p < x.position) × (x.position ≤ total_of o)) → read_left (Some x) o < suc (total_of o - p)
less_by x o p (inl e) = rw e (omega arith)
less_by x o p (inr e) = by x.ended
  where
    by : (b : Bool) → cond b 0 (suc (total_of o - x.position)) < suc (total_of o - p)
    by true = omega arith
    by false = (let f = e.0 in let g = e.1 in omega (arith, f, g))

looked_less : (k : ℕ) (c : Cursor) (o : Option Table) → ((looked (suc k) c o).1.ended ≡ true) ⊎ ((c.position < (looked (suc k) c o).1.position) × ((looked (suc k) c o).1.position ≤ total_of o))
looked_less k c None = inl refl
looked_less k c (Some t) = by (t.incarnation == c.incarnation)
  where
    by : (x : Bool) → ((seen (suc k) c x (scan c.position (suc k) t.rows)).1.ended ≡ true) ⊎ ((c.position < (seen (suc k) c x (scan c.position (suc k) t.rows)).1.position) × ((seen (suc k) c x (scan c.position (suc k) t.rows)).1.position ≤ total t.rows))
    by false = inl refl
    by true = short (cases_Bool (nat_lt (length (scan c.position (suc k) t.rows)) (suc k)))
      where
        short : (nat_lt (length (scan c.position (suc k) t.rows)) (suc k) ≡ true) ⊎ (nat_lt (length (scan c.position (suc k) t.rows)) (suc k) ≡ false) →
            (nat_lt (length (scan c.position (suc k) t.rows)) (suc k) ≡ true) ⊎ ((c.position < last_no c.position (scan c.position (suc k) t.rows)) × (last_no c.position (scan c.position (suc k) t.rows) ≤ total t.rows))
        short (inl s) = inl s
        short (inr s) = inr (moves c.position k t.rows (let x = ltb-false (length (scan c.position (suc k) t.rows)) (suc k) s in omega (arith, x)))

pub less_left : (n : NsName) (o : Option Table) (old new : map.FinMap namespace_cmp Cursor) → Reads n 1000 o old new → read_left (map.get new n) o < read_left (map.get old n) o
less_left n o old new h =
    (let x = (looked 1000 h.0 o).1 in
    let is : map.get new n ≡ Some (looked 1000 h.0 o).1 = ap (λ (z : map.FinMap namespace_cmp Cursor). map.get z n) h.3 ∙ ns_insert_here old n (looked 1000 h.0 o).1 in
    let was : read_left (map.get old n) o ≡ suc (total_of o - h.0.position) = ap (λ (z : Option Cursor). read_left z o) h.1 ∙ ap (λ (b : Bool). cond b 0 (suc (total_of o - h.0.position))) h.2 in
    subst (λ (z : Option Cursor). read_left z o < read_left (map.get old n) o) (sym is)
    (subst (λ (m : ℕ). read_left (Some (looked 1000 h.0 o).1) o < m) (sym was) (less_by (looked 1000 h.0 o).1 o h.0.position (looked_less 999 h.0 o))))

-- of the entries
abbrev pub sent_left : Bool → ℕ → ℕ
sent_left closed sent = cond closed 0 (suc (1000000 - sent))
