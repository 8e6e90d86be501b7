-- What the cursors of a dump have left to read.
use Rattle.std.proofs.Common.{◌≡◌, ℕ, zero, suc, ◌+◌, ◌≤◌, ◌<◌, List, [], ◌∷◌, length, Bool, true, false, cond, refl, sym, ap, ◌∙◌, subst, arith, Option, Some, None}
use Rattle.std.specs.Prelude.{⊤, ◌==◌, nat_lt}
use Rattle.std.specs.FinMap as map
use Rattle.std.proofs.lemmas.Bool.{ltb-true, ltb-false, le-ltb, lt-ltb}
use Rattle.bson_value.specs.declared.namespace.NsName.{NsName}
use Rattle.bson_value.specs.NamespaceOrder.{namespace_cmp}
use Rattle.json_tree.specs.declared.tree.Tree.{Tree}
use Rattle.state_model.specs.Keys.{Key, same_key}
use Rattle.coll_state.specs.Rows.{Document as Fields, Row, Table, Rising, last_no, IsSound, scan}
use Rattle.coll_state.specs.Changes.{put_row, drop_row, put_table, drop_table, with_incarnation, put_index, take_index}
use Rattle.copy_model.specs.Cursors.{Cursor}
use Rattle.history_model.specs.Runs.{seen, looked}
use Rattle.history_model.proofs.CopiedOut.{one_if, behind, behind_length, at_most_one}
use Rattle.archive_length.proofs.Totals.{Weight}
use Rattle.archive_length.proofs.Works.{IsWeight}
use Rattle.coll_state.proofs.Sound.{some_table as same_table}

-- ---- rows behind a number

put_behind : (pos next : ℕ) (k : Key) (d : Fields) (rs : List Row) → behind pos (put_row next k d rs) ≤ behind pos rs + 1
put_behind pos next k d [] = omega (arith, at_most_one (nat_lt pos next))
put_behind pos next k d (r ∷ rs) = by (same_key k r.key) (put_behind pos next k d rs)
  where
    by : (b : Bool) → behind pos (put_row next k d rs) ≤ behind pos rs + 1 → behind pos (cond b (record { no = r.no; key = r.key; document = d } ∷ rs) (r ∷ put_row next k d rs)) ≤ (one_if (nat_lt pos r.no) + behind pos rs) + 1
    by true h = omega arith
    by false h = omega (arith, h)

drop_behind : (pos : ℕ) (k : Key) (rs : List Row) → behind pos (drop_row k rs) ≤ behind pos rs
drop_behind pos k [] = omega arith
drop_behind pos k (r ∷ rs) = by (same_key k r.key) (drop_behind pos k rs)
  where
    by : (b : Bool) → behind pos (drop_row k rs) ≤ behind pos rs → behind pos (cond b rs (r ∷ drop_row k rs)) ≤ one_if (nat_lt pos r.no) + behind pos rs
    by true h = omega arith
    by false h = omega (arith, h)

pub put_length : (next : ℕ) (k : Key) (d : Fields) (rs : List Row) → length (put_row next k d rs) ≤ length rs + 1
put_length next k d [] = omega arith
put_length next k d (r ∷ rs) = by (same_key k r.key) (put_length next k d rs)
  where
    by : (b : Bool) → length (put_row next k d rs) ≤ length rs + 1 → length (cond b (record { no = r.no; key = r.key; document = d } ∷ rs) (r ∷ put_row next k d rs)) ≤ length (r ∷ rs) + 1
    by true h = omega arith
    by false h = omega (arith, h)

pub drop_length : (k : Key) (rs : List Row) → length (drop_row k rs) ≤ length rs
drop_length k [] = omega arith
drop_length k (r ∷ rs) = by (same_key k r.key) (drop_length k rs)
  where
    by : (b : Bool) → length (drop_row k rs) ≤ length rs → length (cond b rs (r ∷ drop_row k rs)) ≤ length (r ∷ rs)
    by true h = omega arith
    by false h = omega (arith, h)

less_behind : (a b : ℕ) (rs : List Row) → a ≤ b → behind b rs ≤ behind a rs
less_behind a b [] h = omega arith
less_behind a b (r ∷ rs) h = by (nat_lt a r.no) (nat_lt b r.no) refl refl (less_behind a b rs h)
  where
    by : (x y : Bool) → nat_lt a r.no ≡ x → nat_lt b r.no ≡ y → behind b rs ≤ behind a rs → one_if y + behind b rs ≤ one_if x + behind a rs
    by true y p q g = omega (arith, at_most_one y, g)
    by false true p q g = (let u = ltb-true b r.no q in let v = ltb-false a r.no p in absurd (omega (arith, u, v, h)))
    by false false p q g = omega (arith, g)

-- a scan ends no further back than it began, and what it read is behind its end no more
record Scanned (at n : ℕ) (rs : List Row) : Type 0 where
  above : at ≤ last_no at (scan at n rs)
  read : behind (last_no at (scan at n rs)) rs + length (scan at n rs) ≤ behind at rs

nothing_read : (at : ℕ) (rs : List Row) → Scanned at 0 rs
nothing_read at [] = record { above = omega arith; read = omega arith }
nothing_read at (r ∷ rs) = record { above = omega arith; read = omega arith }

-- behind a row that was read the scan is one from its number
scan_from : (at n low : ℕ) (rs : List Row) → Rising low rs → at ≤ low → scan at n rs ≡ scan low n rs
scan_from at zero low [] h g = refl
scan_from at (suc n) low [] h g = refl
scan_from at zero low (r ∷ rs) h g = refl
scan_from at (suc n) low (r ∷ rs) h g =
    let a : nat_lt at r.no ≡ true = lt-ltb at r.no (omega (arith, h.0)) in
    let b : nat_lt low r.no ≡ true = lt-ltb low r.no (omega (arith, h.0)) in
    ap (λ (x : Bool). cond x (r ∷ scan at n rs) (scan at (suc n) rs)) a
    ∙ (ap (λ (z : List Row). r ∷ z) (scan_from at n r.no rs h.2 (omega (arith, h.0)) ∙ sym (scan_from low n r.no rs h.2 (omega (arith, h.0))))
    ∙ sym (ap (λ (x : Bool). cond x (r ∷ scan low n rs) (scan low (suc n) rs)) b))

scanned : (at n low : ℕ) (rs : List Row) → Rising low rs → Scanned at n rs
scanned at zero low rs h = nothing_read at rs
scanned at (suc n) low [] h = record { above = omega arith; read = omega arith }
scanned at (suc n) low (r ∷ rs) h = by (nat_lt at r.no) refl (scanned r.no n r.no rs h.2) (scanned at (suc n) r.no rs h.2)
  where
    Is : List Row → Type 0
    Is z = (at ≤ last_no at z) × (behind (last_no at z) (r ∷ rs) + length z ≤ behind at (r ∷ rs))

    whole : Is (scan at (suc n) (r ∷ rs)) → Scanned at (suc n) (r ∷ rs)
    whole x = record { above = x.0; read = x.1 }

    by : (b : Bool) → nat_lt at r.no ≡ b → Scanned r.no n rs → Scanned at (suc n) rs → Scanned at (suc n) (r ∷ rs)
    by true e s z =
        whole (subst (λ (x : Bool). Is (cond x (r ∷ scan at n rs) (scan at (suc n) rs))) (sym e)
        (let same = scan_from at n r.no rs h.2 (let x = ltb-true at r.no e in omega (arith, x)) in
        subst (λ (z : List Row). Is (r ∷ z)) (sym same)
        (let low_at = ltb-true at r.no e in
        let last = last_no r.no (scan r.no n rs) in
        let gone : one_if (nat_lt last r.no) ≡ 0 = ap one_if (le-ltb last r.no s.above) in
        let now : one_if (nat_lt at r.no) ≡ 1 = ap one_if e in
        let more = less_behind at r.no rs (omega (arith, low_at)) in
        (omega (arith, s.above, low_at), omega (arith, s.read, gone, now, more)))))
    by false e z s =
        whole (subst (λ (x : Bool). Is (cond x (r ∷ scan at n rs) (scan at (suc n) rs))) (sym e)
        (let high_at = ltb-false at r.no e in
        let last = last_no at (scan at (suc n) rs) in
        let gone : one_if (nat_lt last r.no) ≡ 0 = ap one_if (le-ltb last r.no (omega (arith, s.above, high_at))) in
        let none : one_if (nat_lt at r.no) ≡ 0 = ap one_if e in
        (s.above, omega (arith, s.read, gone, none))))

-- ---- cursors

abbrev pub Cursors : Type 0
Cursors = map.FinMap namespace_cmp Cursor

abbrev left_behind : Bool → ℕ → List Row → ℕ
left_behind true pos rs = behind pos rs
left_behind false pos rs = 0

-- how many rows of a collection a cursor has left, where it is that of its incarnation
abbrev pub left_of : Option Cursor → Table → ℕ
left_of None t = 0
left_of (Some c) t = left_behind (t.incarnation == c.incarnation) c.position t.rows

abbrev pub left_in : Cursors → Weight Table
left_in cs n t = left_of (map.get cs n) t

most : (b : Bool) (pos : ℕ) (rs : List Row) → left_behind b pos rs ≤ length rs
most true pos rs = behind_length pos rs
most false pos rs = omega arith

pub left_most : (o : Option Cursor) (t : Table) → left_of o t ≤ length t.rows
left_most None t = omega arith
left_most (Some c) t = most (t.incarnation == c.incarnation) c.position t.rows

-- each was begun on an incarnation that was given before
abbrev pub AreOld : ℕ → Cursors → Type 0
AreOld count cs = (n : NsName) (c : Cursor) → map.get cs n ≡ Some c → c.incarnation < count

eq_false : (a b : ℕ) → b < a → (a == b) ≡ false
eq_false a b h = by (a == b) refl
  where
    by : (x : Bool) → (a == b) ≡ x → x ≡ false
    by true e = absurd (let q : a ≡ b = grind (arith, e) in omega (arith, q, h))
    by false e = refl

pub left_weight : (count : ℕ) (cs : Cursors) → AreOld count cs → IsWeight count (left_in cs)
left_weight count cs old = record {
  document = λ n k d t. put (map.get cs n) k d t;
  taken = λ n k t. taken (map.get cs n) k t;
  fresh = λ n i o. fresh (map.get cs n) i o;
  index = λ n i d t. indexed (map.get cs n) (put_index i d t) t refl refl;
  no_index = λ n i t. indexed (map.get cs n) (take_index i t) t refl refl;
  renamed = λ a b i t g. renamed (map.get cs b) (λ c e. old b c e) i t (left_of (map.get cs a) t) g;
}
  where
    put : (o : Option Cursor) (k : Key) (d : Fields) (t : Table) → left_of o (put_table k d t) ≤ left_of o t + 1
    put None k d t = omega arith
    put (Some c) k d t = by (t.incarnation == c.incarnation)
      where
        by : (b : Bool) → left_behind b c.position (put_row t.next k d t.rows) ≤ left_behind b c.position t.rows + 1
        by true = put_behind c.position t.next k d t.rows
        by false = omega arith

    taken : (o : Option Cursor) (k : Key) (t : Table) → left_of o (drop_table k t) ≤ left_of o t
    taken None k t = omega arith
    taken (Some c) k t = by (t.incarnation == c.incarnation)
      where
        by : (b : Bool) → left_behind b c.position (drop_row k t.rows) ≤ left_behind b c.position t.rows
        by true = drop_behind c.position k t.rows
        by false = omega arith

    none : (b : Bool) (pos : ℕ) → left_behind b pos [] ≡ 0
    none true pos = omega arith
    none false pos = omega arith

    fresh : (o : Option Cursor) (i : ℕ) (x : Tree) → left_of o (record { options = x; indexes = map.empty; incarnation = i; next = 1; rows = [] }) ≡ 0
    fresh None i x = omega arith
    fresh (Some c) i x = none (i == c.incarnation) c.position

    indexed : (o : Option Cursor) (s t : Table) → s.incarnation ≡ t.incarnation → s.rows ≡ t.rows → left_of o s ≤ left_of o t
    indexed None s t e f = omega arith
    indexed (Some c) s t e f = (let k : left_behind (s.incarnation == c.incarnation) c.position s.rows ≡ left_behind (t.incarnation == c.incarnation) c.position t.rows = (λ i. left_behind (e i == c.incarnation) c.position (f i)) in omega (arith, k))

    renamed : (o : Option Cursor) → ((c : Cursor) → o ≡ Some c → c.incarnation < count) → (i : ℕ) (t : Table) (m : ℕ) → count ≤ i → left_of o (with_incarnation i t) ≤ m
    renamed None f i t m g = omega arith
    renamed (Some c) f i t m g = (let e = eq_false i c.incarnation (omega (arith, f c refl, g)) in let k = ap (λ (b : Bool). left_behind b c.position t.rows) e in omega (arith, k))

-- ---- a step reads what its cursor has left no more

abbrev GoodTable : Option Table → Type 0
GoodTable None = ⊤
GoodTable (Some t) = IsSound t

-- behind a step: no table has more left, and the one that was read has so much less
pub record Looked (k : ℕ) (c : Cursor) (o : Option Table) : Type 0 where
  pub same : (looked k c o).1.incarnation ≡ c.incarnation
  pub no_more : (t : Table) → left_of (Some (looked k c o).1) t ≤ left_of (Some c) t
  pub less : (t : Table) → o ≡ Some t → left_of (Some (looked k c o).1) t + length (looked k c o).0 ≤ left_of (Some c) t
  pub none : o ≡ None → length (looked k c o).0 ≡ 0

moved_less : (b : Bool) (p q : ℕ) (rs : List Row) → p ≤ q → left_behind b q rs ≤ left_behind b p rs
moved_less true p q rs h = less_behind p q rs h
moved_less false p q rs h = omega arith

pub looks : (k : ℕ) (c : Cursor) (o : Option Table) → GoodTable o → Looked k c o
looks k c None h = record { same = refl; no_more = λ t. omega arith; less = λ t e. absurd cc; none = λ e. refl }
looks k c (Some u) h = by (u.incarnation == c.incarnation) refl
  where
    s : Scanned c.position k u.rows
    s = scanned c.position k 0 u.rows h.0

    by : (b : Bool) → (u.incarnation == c.incarnation) ≡ b → Looked k c (Some u)
    by true e =
        let l : looked k c (Some u) ≡ seen k c true (scan c.position k u.rows) = ap (λ (x : Bool). seen k c x (scan c.position k u.rows)) e in
        record {
          same = ap (λ (z : List Row × Cursor). z.1.incarnation) l;
          no_more = λ t. subst (λ (z : List Row × Cursor). left_of (Some z.1) t ≤ left_of (Some c) t) (sym l) (moved_less (t.incarnation == c.incarnation) c.position (last_no c.position (scan c.position k u.rows)) t.rows s.above);
          less = λ t g. subst (λ (z : List Row × Cursor). left_of (Some z.1) t + length z.0 ≤ left_of (Some c) t) (sym l) (subst (λ (t : Table). left_behind (t.incarnation == c.incarnation) (last_no c.position (scan c.position k u.rows)) t.rows + length (scan c.position k u.rows) ≤ left_behind (t.incarnation == c.incarnation) c.position t.rows)
              (same_table u t g) (subst (λ (x : Bool). left_behind x (last_no c.position (scan c.position k u.rows)) u.rows + length (scan c.position k u.rows) ≤ left_behind x c.position u.rows) (sym e) s.read));
          none = λ g. absurd cc;
        }
    by false e =
        let l : looked k c (Some u) ≡ seen k c false (scan c.position k u.rows) = ap (λ (x : Bool). seen k c x (scan c.position k u.rows)) e in
        record {
          same = ap (λ (z : List Row × Cursor). z.1.incarnation) l;
          no_more = λ t. subst (λ (z : List Row × Cursor). left_of (Some z.1) t ≤ left_of (Some c) t) (sym l) (omega arith);
          less = λ t g. subst (λ (z : List Row × Cursor). left_of (Some z.1) t + length z.0 ≤ left_of (Some c) t) (sym l) (omega arith);
          none = λ g. absurd cc;
        }
