-- What is still to do is done: the copy steps behind the last line end every cursor.
use Rattle.std.proofs.Common.{◌≡◌, ℕ, zero, suc, ◌<◌, ◌≤◌, ◌+◌, List, [], ◌∷◌, Bool, true, false, cond, refl, sym, ap, ◌∙◌, subst, arith, length, Option, Some, None, Result, Ok, Err, inl, inr, T}
use Rattle.std.specs.Prelude.{⊤, ◌⊎◌, ◌&&◌, ◌==◌, nat_lt, map as each}
use Rattle.std.specs.List.{list_all}
use Rattle.std.specs.Ordering.{is_lt, is_eq}
use Rattle.std.specs.declared.cmp.Ordering.{Ordering}
use Rattle.std.specs.declared.cmp.Ordering.TheVariants.{Less, Equal, Greater}
use Rattle.std.proofs.lemmas.Bool.{cases_Bool, ltb-true, ltb-false, le-ltb, and_from}
use Rattle.std.specs.FinMap as map
use Rattle.bson_value.specs.declared.namespace.NsName.{NsName}
use Rattle.bson_value.specs.NamespaceOrder.{namespace_cmp}
use Rattle.coll_state.specs.Rows.{Row, Table, AreSound, scan}
use Rattle.schedule_model.specs.declared.line.Line.TheVariants.{Copy}
use Rattle.copy_model.specs.Cursors.{Cursor}
use Rattle.history_model.specs.Stages.{Stage}
use Rattle.history_model.specs.Runs.{Refusal, NoCursor, DumpState, Outcome, Done, Run, seen, looked, all_ended, with_cursor, read_on, copied_by, copied, still, in_dump, on_line, repeated, last_step, names_in, rows_left, copied_out}
use Rattle.std.specs.FinMap.Entries.{below_all}
use Rattle.coll_state.specs.Rows.{Rising, last_no, IsSound}
use Rattle.state_model.specs.Keys.{same_ns}
use Rattle.state_model.proofs.Keys.{ns_is, ns_refl}
use Rattle.state_model.proofs.Maps.{ns_insert_here, ns_insert_else}

-- how many rows are behind a number
abbrev pub one_if : Bool → ℕ
one_if true = 1
one_if false = 0

abbrev pub behind : ℕ → List Row → ℕ
behind pos [] = 0
behind pos (r ∷ rs) = one_if (nat_lt pos r.no) + behind pos rs

one_less : (a b x : ℕ) → a ≤ b → one_if (nat_lt b x) ≤ one_if (nat_lt a x)
one_less a b x h = by (cases_Bool (nat_lt b x)) (cases_Bool (nat_lt a x))
  where
    by : (nat_lt b x ≡ true) ⊎ (nat_lt b x ≡ false) → (nat_lt a x ≡ true) ⊎ (nat_lt a x ≡ false) → one_if (nat_lt b x) ≤ one_if (nat_lt a x)
    by (inl s) (inl t) = rw s (rw t (omega arith))
    by (inl s) (inr t) = (let u = ltb-true b x s in let v = ltb-false a x t in absurd (omega arith))
    by (inr s) (inl t) = rw s (rw t (omega arith))
    by (inr s) (inr t) = rw s (rw t (omega arith))

behind_less : (a b : ℕ) (rs : List Row) → a ≤ b → behind b rs ≤ behind a rs
behind_less a b [] h = omega arith
behind_less a b (r ∷ rs) h = (let x = one_less a b r.no h in let y = behind_less a b rs h in omega arith)

pub at_most_one : (b : Bool) → one_if b ≤ 1
at_most_one true = omega arith
at_most_one false = omega arith

pub behind_length : (a : ℕ) (rs : List Row) → behind a rs ≤ length rs
behind_length a [] = omega arith
behind_length a (r ∷ rs) = (let x = at_most_one (nat_lt a r.no) in let y = behind_length a rs in omega arith)

last_above : (m low pos k : ℕ) (rs : List Row) → Rising low rs → m ≤ low → m ≤ last_no m (scan pos k rs)
last_above m low pos k [] h g = omega arith
last_above m low pos zero (r ∷ rs) h g = omega arith
last_above m low pos (suc k) (r ∷ rs) h g = by (cases_Bool (nat_lt pos r.no)) (last_above r.no r.no pos k rs h.2 (omega arith)) (last_above m r.no pos (suc k) rs h.2 (let x = h.0 in omega arith))
  where
    by : (nat_lt pos r.no ≡ true) ⊎ (nat_lt pos r.no ≡ false) → r.no ≤ last_no r.no (scan pos k rs) → m ≤ last_no m (scan pos (suc k) rs) → m ≤ last_no m (scan pos (suc k) (r ∷ rs))
    by (inl s) a b = rw s (let x = h.0 in omega arith)
    by (inr s) a b = rw s b

position_above : (low pos k : ℕ) (rs : List Row) → Rising low rs → pos ≤ last_no pos (scan pos k rs)
position_above low pos k [] h = omega arith
position_above low pos zero (r ∷ rs) h = omega arith
position_above low pos (suc k) (r ∷ rs) h = by (cases_Bool (nat_lt pos r.no)) (last_above r.no r.no pos k rs h.2 (omega arith)) (position_above r.no pos (suc k) rs h.2)
  where
    by : (nat_lt pos r.no ≡ true) ⊎ (nat_lt pos r.no ≡ false) → r.no ≤ last_no r.no (scan pos k rs) → pos ≤ last_no pos (scan pos (suc k) rs) → pos ≤ last_no pos (scan pos (suc k) (r ∷ rs))
    by (inl s) a b = rw s (let x = ltb-true pos r.no s in omega arith)
    by (inr s) a b = rw s b

-- a step that reads something has less behind it
progress : (low pos k : ℕ) (rs : List Row) → Rising low rs → 0 < length (scan pos (suc k) rs) → behind (last_no pos (scan pos (suc k) rs)) rs < behind pos rs
progress low pos k [] h g = absurd (omega arith)
progress low pos k (r ∷ rs) h g = by (cases_Bool (nat_lt pos r.no)) g (last_above r.no r.no pos k rs h.2 (omega arith)) (position_above r.no pos (suc k) rs h.2) (λ u. progress r.no pos k rs h.2 u)
  where
    by : (nat_lt pos r.no ≡ true) ⊎ (nat_lt pos r.no ≡ false) → 0 < length (scan pos (suc k) (r ∷ rs)) → r.no ≤ last_no r.no (scan pos k rs) → pos ≤ last_no pos (scan pos (suc k) rs) →
        (0 < length (scan pos (suc k) rs) → behind (last_no pos (scan pos (suc k) rs)) rs < behind pos rs) → behind (last_no pos (scan pos (suc k) (r ∷ rs))) (r ∷ rs) < behind pos (r ∷ rs)
    by (inl s) e a b rest =
        subst (λ (x : Bool). behind (last_no pos (cond x (r ∷ scan pos k rs) (scan pos (suc k) rs))) (r ∷ rs) < one_if x + behind pos rs) (sym s)
        (let q = last_no r.no (scan pos k rs) in
        let u : nat_lt (last_no r.no (scan pos k rs)) r.no ≡ false = le-ltb (last_no r.no (scan pos k rs)) r.no a in
        let p : pos ≤ last_no r.no (scan pos k rs) = (let x = ltb-true pos r.no s in omega arith) in
        let v = behind_less pos (last_no r.no (scan pos k rs)) rs p in
        subst (λ (x : Bool). one_if x + behind (last_no r.no (scan pos k rs)) rs < 1 + behind pos rs) (sym u) (omega arith))
    by (inr s) e a b rest =
        subst (λ (x : Bool). behind (last_no pos (cond x (r ∷ scan pos k rs) (scan pos (suc k) rs))) (r ∷ rs) < one_if x + behind pos rs) (sym s)
        (let more : 0 < length (scan pos (suc k) rs) = subst (λ (x : Bool). 0 < length (cond x (r ∷ scan pos k rs) (scan pos (suc k) rs))) s e in
        let low_no = ltb-false pos r.no s in
        let u : nat_lt (last_no pos (scan pos (suc k) rs)) r.no ≡ false = le-ltb (last_no pos (scan pos (suc k) rs)) r.no (omega arith) in
        let v = rest more in
        subst (λ (x : Bool). one_if x + behind (last_no pos (scan pos (suc k) rs)) rs < 0 + behind pos rs) (sym u) (omega arith))

abbrev pub left : Cursor → Option Table → ℕ
left c None = 0
left c (Some t) = behind c.position t.rows

abbrev pub GoodTable : Option Table → Type 0
GoodTable None = ⊤
GoodTable (Some t) = IsSound t

looked_on : (k : ℕ) (c : Cursor) (o : Option Table) → GoodTable o → ((looked (suc k) c o).1.ended ≡ true) ⊎ (left (looked (suc k) c o).1 o < left c o)
looked_on k c None h = inl refl
looked_on k c (Some t) h = by (t.incarnation == c.incarnation)
  where
    by : (x : Bool) → ((seen (suc k) c x (scan c.position (suc k) t.rows)).1.ended ≡ true) ⊎ (behind (seen (suc k) c x (scan c.position (suc k) t.rows)).1.position t.rows < behind c.position t.rows)
    by false = inl refl
    by true = short (cases_Bool (nat_lt (length (scan c.position (suc k) t.rows)) (suc k)))
      where
        short : (nat_lt (length (scan c.position (suc k) t.rows)) (suc k) ≡ true) ⊎ (nat_lt (length (scan c.position (suc k) t.rows)) (suc k) ≡ false) →
            (nat_lt (length (scan c.position (suc k) t.rows)) (suc k) ≡ true) ⊎ (behind (last_no c.position (scan c.position (suc k) t.rows)) t.rows < behind c.position t.rows)
        short (inl s) = inl s
        short (inr s) = inr (progress 0 c.position k t.rows h.0 (let x = ltb-false (length (scan c.position (suc k) t.rows)) (suc k) s in omega arith))

-- each cursor afterwards has ended, or is another one and as it was
abbrev pub Aside : NsName → DumpState → DumpState → Type 0
Aside n d e = (x : NsName) (c : Cursor) → map.get e.cursors x ≡ Some c → (c.ended ≡ true) ⊎ ((same_ns x n ≡ false) × (map.get d.cursors x ≡ Some c))

pub record CopiedOn (n : NsName) (d : DumpState) (r t : Run) : Type 0 where
  pub after : DumpState
  pub there : t.dump ≡ Some after
  pub live : t.outcome ≡ Done
  pub stage : t.stage ≡ r.stage
  pub aside : Aside n d after
  pub mark : after.mark ≡ d.mark

same_cursor : (a b : Cursor) → Some a ≡ Some b → a ≡ b
same_cursor a b e = cc

-- a step on a cursor that is there, or isn't
on_copy : (n : NsName) (k : ℕ) (d : DumpState) (r : Run) → r.dump ≡ Some d → r.outcome ≡ Done → on_line (Copy n k) r ≡ copied n k d r
on_copy n k d r e l = ap (λ (o : Option DumpState). in_dump (copied n k) o r) e ∙ ap (λ (x : Outcome). still x (copied n k) d r) l

stays : (m : ℕ) (n : NsName) (k : ℕ) (r : Run) (x : Refusal) → on_line (Copy n k) r ≡ Err x → repeated m (on_line (Copy n k)) r ≡ r
stays zero n k r x e = refl
stays (suc m) n k r x e = ap (λ (y : Result Run Refusal). elim y as (λ y. Run) [ Ok s ↦ repeated m (on_line (Copy n k)) s | Err z ↦ r ]) e

goes : (m : ℕ) (n : NsName) (k : ℕ) (r s : Run) → on_line (Copy n k) r ≡ Ok s → repeated (suc m) (on_line (Copy n k)) r ≡ repeated m (on_line (Copy n k)) s
goes m n k r s e = ap (λ (y : Result Run Refusal). elim y as (λ y. Run) [ Ok s ↦ repeated m (on_line (Copy n k)) s | Err z ↦ r ]) e

is_refused : (n : NsName) (k : ℕ) (d : DumpState) (r : Run) → r.dump ≡ Some d → r.outcome ≡ Done → (o : Option Cursor) → map.get d.cursors n ≡ o → ((c : Cursor) → o ≡ Some c → c.ended ≡ true) → on_line (Copy n k) r ≡ Err NoCursor
is_refused n k d r e l None g h = on_copy n k d r e l ∙ ap (λ (o : Option Cursor). copied_by n k o d r) g
is_refused n k d r e l (Some c) g h =
    on_copy n k d r e l ∙ (ap (λ (o : Option Cursor). copied_by n k o d r) g
    ∙ ap (λ (b : Bool). elim b as (λ b. Result Run Refusal) [ true ↦ Err NoCursor | false ↦ Ok (read_on n (looked k c (map.get r.stage.rows.tables n)) d r) ]) (h c refl))

same_aside : (n : NsName) (d : DumpState) → ((c : Cursor) → map.get d.cursors n ≡ Some c → c.ended ≡ true) → Aside n d d
same_aside n d h x c g = by (cases_Bool (same_ns x n))
  where
    by : (same_ns x n ≡ true) ⊎ (same_ns x n ≡ false) → (c.ended ≡ true) ⊎ ((same_ns x n ≡ false) × (map.get d.cursors x ≡ Some c))
    by (inl s) = inl (h c (subst (λ (z : NsName). map.get d.cursors z ≡ Some c) (ns_is x n s) g))
    by (inr s) = inr (s, g)

ended_stays : (m : ℕ) (n : NsName) (k : ℕ) (d : DumpState) (r : Run) → r.dump ≡ Some d → r.outcome ≡ Done → ((c : Cursor) → map.get d.cursors n ≡ Some c → c.ended ≡ true) → CopiedOn n d r (repeated m (on_line (Copy n k)) r)
ended_stays m n k d r e l h =
    subst (λ (t : Run). CopiedOn n d r t) (sym (stays m n k r NoCursor (is_refused n k d r e l (map.get d.cursors n) refl h)))
    (record { after = d; there = e; live = l; stage = refl; aside = same_aside n d h; mark = refl })

copy_ends : (m : ℕ) (n : NsName) (k : ℕ) (d : DumpState) (r : Run) (c : Cursor) → AreSound r.stage.rows → r.dump ≡ Some d → r.outcome ≡ Done → map.get d.cursors n ≡ Some c → left c (map.get r.stage.rows.tables n) < m →
    CopiedOn n d r (repeated m (on_line (Copy n (suc k))) r)
copy_ends zero n k d r c good e l g h = absurd (omega arith)
copy_ends (suc m) n k d r c good e l g h =
    by (cases_Bool c.ended) (looked_on k c (map.get r.stage.rows.tables n) (table (map.get r.stage.rows.tables n) refl))
    (λ less. copy_ends m n k (with_cursor (map.insert d.cursors n (looked (suc k) c (map.get r.stage.rows.tables n)).1) r.stage.newest d) (read_on n (looked (suc k) c (map.get r.stage.rows.tables n)) d r) (looked (suc k) c (map.get r.stage.rows.tables n)).1
    good refl l (ns_insert_here d.cursors n (looked (suc k) c (map.get r.stage.rows.tables n)).1) (let a = less in omega arith))
  where
    table : (o : Option Table) → map.get r.stage.rows.tables n ≡ o → GoodTable o
    table None f = tt
    table (Some t) f = (good n t f).0

    joined : (t : Run) → CopiedOn n (with_cursor (map.insert d.cursors n (looked (suc k) c (map.get r.stage.rows.tables n)).1) r.stage.newest d) (read_on n (looked (suc k) c (map.get r.stage.rows.tables n)) d r) t → CopiedOn n d r t
    joined t q = record {
      after = q.after;
      there = q.there;
      live = q.live;
      stage = q.stage;
      mark = q.mark;
      aside = λ x y u. on x y (q.aside x y u);
    }
      where
        on : (x : NsName) (y : Cursor) → (y.ended ≡ true) ⊎ ((same_ns x n ≡ false) × (map.get (map.insert d.cursors n (looked (suc k) c (map.get r.stage.rows.tables n)).1) x ≡ Some y)) → (y.ended ≡ true) ⊎ ((same_ns x n ≡ false) × (map.get d.cursors x ≡ Some y))
        on x y (inl v) = inl v
        on x y (inr v) = inr (v.0, sym (ns_insert_else d.cursors n (looked (suc k) c (map.get r.stage.rows.tables n)).1 x v.0) ∙ v.1)

    by : (c.ended ≡ true) ⊎ (c.ended ≡ false) → ((looked (suc k) c (map.get r.stage.rows.tables n)).1.ended ≡ true) ⊎ (left (looked (suc k) c (map.get r.stage.rows.tables n)).1 (map.get r.stage.rows.tables n) < left c (map.get r.stage.rows.tables n)) →
        (left (looked (suc k) c (map.get r.stage.rows.tables n)).1 (map.get r.stage.rows.tables n) < left c (map.get r.stage.rows.tables n) →
        CopiedOn n (with_cursor (map.insert d.cursors n (looked (suc k) c (map.get r.stage.rows.tables n)).1) r.stage.newest d) (read_on n (looked (suc k) c (map.get r.stage.rows.tables n)) d r) (repeated m (on_line (Copy n (suc k))) (read_on n (looked (suc k) c (map.get r.stage.rows.tables n)) d r))) →
        CopiedOn n d r (repeated (suc m) (on_line (Copy n (suc k))) r)
    by (inl s) z rest = ended_stays (suc m) n (suc k) d r e l (λ y u. subst (λ (w : Cursor). w.ended ≡ true) (same_cursor c y (sym g ∙ u)) s)
    by (inr s) z rest =
        (let step : on_line (Copy n (suc k)) r ≡ Ok (read_on n (looked (suc k) c (map.get r.stage.rows.tables n)) d r) =
        on_copy n (suc k) d r e l ∙ (ap (λ (o : Option Cursor). copied_by n (suc k) o d r) g
        ∙ ap (λ (b : Bool). elim b as (λ b. Result Run Refusal) [ true ↦ Err NoCursor | false ↦ Ok (read_on n (looked (suc k) c (map.get r.stage.rows.tables n)) d r) ]) s) in
        subst (λ (t : Run). CopiedOn n d r t) (sym (goes m n (suc k) r (read_on n (looked (suc k) c (map.get r.stage.rows.tables n)) d r) step)) (joined _ (more z)))
      where
        more : ((looked (suc k) c (map.get r.stage.rows.tables n)).1.ended ≡ true) ⊎ (left (looked (suc k) c (map.get r.stage.rows.tables n)).1 (map.get r.stage.rows.tables n) < left c (map.get r.stage.rows.tables n)) →
            CopiedOn n (with_cursor (map.insert d.cursors n (looked (suc k) c (map.get r.stage.rows.tables n)).1) r.stage.newest d) (read_on n (looked (suc k) c (map.get r.stage.rows.tables n)) d r) (repeated m (on_line (Copy n (suc k))) (read_on n (looked (suc k) c (map.get r.stage.rows.tables n)) d r))
        more (inr less) = rest less
        more (inl done) = ended_stays m n (suc k) (with_cursor (map.insert d.cursors n (looked (suc k) c (map.get r.stage.rows.tables n)).1) r.stage.newest d) (read_on n (looked (suc k) c (map.get r.stage.rows.tables n)) d r) refl l
            (λ y u. subst (λ (w : Cursor). w.ended ≡ true) (same_cursor (looked (suc k) c (map.get r.stage.rows.tables n)).1 y (sym (ns_insert_here d.cursors n (looked (suc k) c (map.get r.stage.rows.tables n)).1) ∙ u)) done)

abbrev pub NotIn : NsName → List NsName → Type 0
NotIn x [] = ⊤
NotIn x (n ∷ ns) = (same_ns x n ≡ false) × NotIn x ns

pub record CopiedAll (ns : List NsName) (d : DumpState) (r t : Run) : Type 0 where
  pub after : DumpState
  pub there : t.dump ≡ Some after
  pub live : t.outcome ≡ Done
  pub stage : t.stage ≡ r.stage
  pub aside : (x : NsName) (c : Cursor) → map.get after.cursors x ≡ Some c → (c.ended ≡ true) ⊎ (NotIn x ns × (map.get d.cursors x ≡ Some c))
  pub mark : after.mark ≡ d.mark

copy_one : (n : NsName) (d : DumpState) (r : Run) → AreSound r.stage.rows → r.dump ≡ Some d → r.outcome ≡ Done → CopiedOn n d r (repeated (suc (rows_left (map.get r.stage.rows.tables n))) (on_line (Copy n last_step)) r)
copy_one n d r good e l = by (map.get d.cursors n) refl
  where
    few : (c : Cursor) (o : Option Table) → left c o < suc (rows_left o)
    few c None = omega arith
    few c (Some t) = (let x = behind_length c.position t.rows in omega arith)

    by : (o : Option Cursor) → map.get d.cursors n ≡ o → CopiedOn n d r (repeated (suc (rows_left (map.get r.stage.rows.tables n))) (on_line (Copy n last_step)) r)
    by None g = ended_stays (suc (rows_left (map.get r.stage.rows.tables n))) n last_step d r e l (λ c f. (let u : None ≡ Some c = sym g ∙ f in cc))
    by (Some c) g = copy_ends (suc (rows_left (map.get r.stage.rows.tables n))) n 999 d r c good e l g (few c (map.get r.stage.rows.tables n))

pub copy_all : (ns : List NsName) (d : DumpState) (r : Run) → AreSound r.stage.rows → r.dump ≡ Some d → r.outcome ≡ Done → CopiedAll ns d r (copied_out ns r)
copy_all [] d r good e l = record { after = d; there = e; live = l; stage = refl; aside = λ x c g. inr (tt, g); mark = refl }
copy_all (n ∷ ns) d r good e l =
    (let one = copy_one n d r good e l in
    let t = repeated (suc (rows_left (map.get r.stage.rows.tables n))) (on_line (Copy n last_step)) r in
    let more = copy_all ns one.after t (subst (λ (s : Stage). AreSound s.rows) (sym one.stage) good) one.there one.live in
    record { after = more.after; there = more.there; live = more.live; stage = more.stage ∙ one.stage; mark = more.mark ∙ one.mark; aside = λ x c g. on one.after one.aside x c (more.aside x c g) })
  where
    on : (a : DumpState) → Aside n d a → (x : NsName) (c : Cursor) → (c.ended ≡ true) ⊎ (NotIn x ns × (map.get a.cursors x ≡ Some c)) → (c.ended ≡ true) ⊎ (NotIn x (n ∷ ns) × (map.get d.cursors x ≡ Some c))
    on a s x c (inl v) = inl v
    on a s x c (inr v) = with_first v.0 (s x c v.1)
      where
        with_first : NotIn x ns → (c.ended ≡ true) ⊎ ((same_ns x n ≡ false) × (map.get d.cursors x ≡ Some c)) → (c.ended ≡ true) ⊎ (NotIn x (n ∷ ns) × (map.get d.cursors x ≡ Some c))
        with_first u (inl w) = inl w
        with_first u (inr w) = inr ((w.0, u), w.1)

-- each cursor has its name among the names
named : (es : List (NsName × Cursor)) (x : NsName) (c : Cursor) → map.find namespace_cmp x es ≡ Some c → NotIn x (each (λ (e : NsName × Cursor). e.0) es) → ⊥
named [] x c g h = cc
named (e ∷ es) x c g h = named es x c (subst (λ (b : Bool). cond b (Some e.1) (map.find namespace_cmp x es) ≡ Some c) h.0 g) h.1

pub all_out : (d : DumpState) (t : Run) (r : Run) → (k : CopiedAll (names_in (Some d)) d r t) → (x : NsName) (c : Cursor) → map.get k.after.cursors x ≡ Some c → c.ended ≡ true
all_out d t r k x c g = by (k.aside x c g)
  where
    by : (c.ended ≡ true) ⊎ (NotIn x (names_in (Some d)) × (map.get d.cursors x ≡ Some c)) → c.ended ≡ true
    by (inl v) = v
    by (inr v) = absurd (named (map.entries d.cursors) x c (sym (map.get-entries d.cursors x) ∙ v.1) v.0)

-- and so the map's entries say
pub both : (a b : Bool) → T (a && b) → T a × T b
both true b h = (tt, h)
both false b h = absurd h

below_none : (n : NsName) (es : List (NsName × Cursor)) → T (below_all namespace_cmp n es) → map.find namespace_cmp n es ≡ None
below_none n [] h = refl
below_none n (f ∷ es) h = less (namespace_cmp n f.0) refl (both (is_lt (namespace_cmp n f.0)) (below_all namespace_cmp n es) h) (below_none n es)
  where
    less : (o : Ordering) → namespace_cmp n f.0 ≡ o → T (is_lt (namespace_cmp n f.0)) × T (below_all namespace_cmp n es) → (T (below_all namespace_cmp n es) → map.find namespace_cmp n es ≡ None) → map.find namespace_cmp n (f ∷ es) ≡ None
    less Less e g rest = ap (λ (o : Ordering). cond (is_eq o) (Some f.1) (map.find namespace_cmp n es)) e ∙ rest g.1
    less Equal e g rest = absurd (subst (λ (o : Ordering). T (is_lt o)) e g.0)
    less Greater e g rest = absurd (subst (λ (o : Ordering). T (is_lt o)) e g.0)

ended_list : (es : List (NsName × Cursor)) → T (map.is_sorted namespace_cmp es) → ((x : NsName) (c : Cursor) → map.find namespace_cmp x es ≡ Some c → c.ended ≡ true) → list_all (λ (e : NsName × Cursor). e.1.ended) es ≡ true
ended_list [] s h = refl
ended_list (e ∷ es) s h =
    and_from e.1.ended (list_all (λ (e : NsName × Cursor). e.1.ended) es) (h e.0 e.1 (ap (λ (b : Bool). cond b (Some e.1) (map.find namespace_cmp e.0 es)) (ns_refl e.0)))
    (ended_list es (both (below_all namespace_cmp e.0 es) (map.is_sorted namespace_cmp es) s).1 (λ x c g. by x c g (cases_Bool (same_ns x e.0))))
  where
    by : (x : NsName) (c : Cursor) → map.find namespace_cmp x es ≡ Some c → (same_ns x e.0 ≡ true) ⊎ (same_ns x e.0 ≡ false) → c.ended ≡ true
    by x c g (inl u) = (let v : map.find namespace_cmp x es ≡ None = subst (λ (z : NsName). map.find namespace_cmp z es ≡ None) (sym (ns_is x e.0 u)) (below_none e.0 es (both (below_all namespace_cmp e.0 es) (map.is_sorted namespace_cmp es) s).0) in cc)
    by x c g (inr u) = h x c (ap (λ (b : Bool). cond b (Some e.1) (map.find namespace_cmp x es)) u ∙ g)

pub all_said : (cs : map.FinMap namespace_cmp Cursor) → ((x : NsName) (c : Cursor) → map.get cs x ≡ Some c → c.ended ≡ true) → all_ended cs ≡ true
all_said cs h = ended_list (map.entries cs) (map.entries_sorted cs) (λ x c g. h x c (map.get-entries cs x ∙ g))
