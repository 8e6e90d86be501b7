-- The documents that the steps of a dump read are no more than the writes that were made.
use Rattle.std.proofs.Common.{◌≡◌, ℕ, ◌+◌, ◌≤◌, ◌<◌, List, [], ◌∷◌, ◌++◌, length, Bool, true, false, not, refl, sym, ap, ◌∙◌, subst, arith, Option, Some, None, Result, Ok, Err, inl, inr}
use Rattle.std.specs.Prelude.{⊤, ◌⊎◌, ◌||◌, is_some, nat_le, take, drop}
use Rattle.std.specs.Option.{option_map}
use Rattle.std.specs.FinMap as map
use Rattle.std.proofs.lemmas.Bool.{cases_Bool}
use Rattle.bson_value.specs.declared.namespace.NsName.{NsName}
use Rattle.bson_value.specs.declared.value.Ts.{Ts}
use Rattle.state_model.specs.Keys.{same_ns}
use Rattle.state_model.proofs.Keys.{ns_is}
use Rattle.state_model.proofs.Maps.{ns_insert_here, ns_insert_else}
use Rattle.coll_state.specs.Rows.{Row, Table, Rows, AreSound}
use Rattle.coll_state.specs.Changes.{no_rows}
use Rattle.copy_model.specs.Cursors.{Cursor}
use Rattle.copy_model.specs.Copies.{begun, cursors_of}
use Rattle.copy_model.proofs.Agreed.{get_cursor}
use Rattle.update_records.specs.Laws.{UpdatesRecord}
use Rattle.schedule_model.specs.declared.command.Command.{Command}
use Rattle.schedule_model.specs.declared.line.Line.{Line}
use Rattle.schedule_model.specs.declared.line.Line.TheVariants.{Cmd, Dump, Copy, Mark, Tail}
use Rattle.schedule_model.specs.declared.refused.Refused.{Refused}
use Rattle.history_model.specs.Stages.{Caps, Stage, Made}
use Rattle.history_model.specs.Commands.{applied}
use Rattle.history_model.specs.Entries.{OplogEntry}
use Rattle.history_model.specs.Runs.{Schedule, Run, Refusal, NotNow, NoCursor, DumpState, Outcome, Done, Renamed, Rolled, Step, Documents, Entries, first_dump_state, started, looked, all_ended, with_cursor, read_on, copied_by, copied, renamed_since, rolled_or, rolled, marked_by, marked, window, entries_from, is_gone, sent_on, tailed_to, tailed, still, in_dump, dumped, commanded, on_line, or_refused, after_line, after_lines, run}
use Rattle.history_model.specs.Histories.{documents_in, reads}
use Rattle.history_model.specs.Invariants.{RunOk}
use Rattle.history_model.specs.WellFormed.{IsWellFormedCommand, IsWellFormedLine, AreWellFormedLines}
use Rattle.history_model.proofs.Modelled.{taken_made}
use Rattle.history_model.proofs.Runs.{lines_good}
use Rattle.history_model.proofs.WholeRun.{run_started}
use Rattle.archive_length.proofs.Totals.{Weight, sum, total_less, sum_lost}
use Rattle.archive_length.proofs.Works.{IsWeight, work_made, work_join, rows_sum, made_add, nothing_sum}
use Rattle.archive_length.proofs.Scans.{Cursors, left_of, left_in, left_most, AreOld, left_weight, Looked, looks, put_length, drop_length}

-- of a dump that has started: what was read, and what its cursors have left, is no more than the writes; and its cursors were begun on what was there
pub record Reading (d : DumpState) (r : Run) : Type 0 where
  pub few : documents_in r.steps + sum (left_in d.cursors) r.stage.rows.tables ≤ work_made r.made
  pub old : AreOld r.stage.rows.count d.cursors

abbrev pub Holding : Run → Type 0
Holding r = (d : DumpState) × (r.dump ≡ Some d) × Reading d r

abbrev HoldingAfter : Result Run Refusal → Type 0
HoldingAfter (Ok s) = Holding s
HoldingAfter (Err x) = ⊤

-- ---- before a dump starts: as many documents as writes at most

abbrev rows_in : Weight Table
rows_in n t = length t.rows

rows_weight : (count : ℕ) → IsWeight count rows_in
rows_weight count = record {
  document = λ n k d t. put_length t.next k d t.rows;
  taken = λ n k t. drop_length k t.rows;
  fresh = λ n i o. refl;
  index = λ n i d t. omega arith;
  no_index = λ n i t. omega arith;
  renamed = λ a b i t g. omega arith;
}

stored_few : (c : Caps) (r : Run) → RunOk c r → rows_sum rows_in r.stage.rows ≤ work_made r.made
stored_few c r h =
    subst (λ (z : Rows). rows_sum rows_in z ≤ work_made r.made) h.0.rows
    (let a = made_add r.made no_rows rows_in (rows_weight 0) in omega (arith, a.0, nothing_sum {X = Table} rows_in))

-- ---- the start

begun_old : (r : Rows) → AreSound r → AreOld r.count (map.from_entries (cursors_of (map.entries r.tables)))
begun_old r h n c e = by (map.get r.tables n) refl (sym (get_cursor r n) ∙ e)
  where
    by : (o : Option Table) → map.get r.tables n ≡ o → option_map begun o ≡ Some c → c.incarnation < r.count
    by None f g = absurd cc
    by (Some t) f g = (let q : begun t ≡ c = cc in subst (λ (x : Cursor). x.incarnation < r.count) q (h n t f).2)

started_holds : (c : Caps) (r : Run) → RunOk c r → r.steps ≡ [] → Holding (started r)
started_holds c r h e = (
  first_dump_state r.stage,
  refl,
  record {
    few = (let a = total_less (left_in (first_dump_state r.stage).cursors) rows_in (map.entries r.stage.rows.tables) (λ n t. left_most (map.get (first_dump_state r.stage).cursors n) t) in
        let b = ap documents_in e in
        omega (arith, a, b, stored_few c r h));
    old = begun_old r.stage.rows h.0.sound;
  },
)

-- ---- steps

documents_more : (ss : List Step) (s : Step) → documents_in (ss ++ (s ∷ [])) ≡ documents_in ss + documents_in (s ∷ [])
documents_more [] s = omega arith
documents_more (Documents n rs b ∷ ss) s = omega (arith, documents_more ss s)
documents_more (Entries es b ∷ ss) s = omega (arith, documents_more ss s)

-- a step that reads nothing and leaves the cursors
same_reading : (d e : DumpState) (r s : Run) → s.stage ≡ r.stage → s.made ≡ r.made → e.cursors ≡ d.cursors → documents_in s.steps ≡ documents_in r.steps → Reading d r → Reading e s
same_reading d e r s a b f g h = record {
  few = (let x : sum (left_in e.cursors) s.stage.rows.tables ≡ sum (left_in d.cursors) r.stage.rows.tables = (λ i. sum (left_in (f i)) (a i).rows.tables) in
      let y = ap work_made b in
      omega (arith, x, y, g, h.few));
  old = subst (λ (st : Stage). AreOld st.rows.count e.cursors) (sym a) (subst (AreOld r.stage.rows.count) (sym f) h.old);
}

read_holds : (c : Caps) (n : NsName) (k : ℕ) (d : DumpState) (r : Run) (x : Cursor) → RunOk c r → Reading d r → map.get d.cursors n ≡ Some x → Holding (read_on n (looked k x (map.get r.stage.rows.tables n)) d r)
read_holds c n k d r x ok h e = (with_cursor cs r.stage.newest d, refl, record { few = few (map.get r.stage.rows.tables n) refl look; old = old })
  where
    y : List Row × Cursor
    y = looked k x (map.get r.stage.rows.tables n)

    cs : Cursors
    cs = map.insert d.cursors n (looked k x (map.get r.stage.rows.tables n)).1

    good : (o : Option Table) → map.get r.stage.rows.tables n ≡ o → Looked k x o
    good None f = looks k x None tt
    good (Some t) f = looks k x (Some t) (ok.0.sound n t f).0

    look : Looked k x (map.get r.stage.rows.tables n)
    look = good (map.get r.stage.rows.tables n) refl

    here : map.get cs n ≡ Some y.1
    here = ns_insert_here d.cursors n y.1

    old : AreOld r.stage.rows.count cs
    old m z f = by (cases_Bool (same_ns m n))
      where
        by : (same_ns m n ≡ true) ⊎ (same_ns m n ≡ false) → z.incarnation < r.stage.rows.count
        by (inl s) =
            (let i = ns_is m n s in
            let j : Some y.1 ≡ Some z = sym here ∙ subst (λ (q : NsName). map.get cs q ≡ Some z) i f in
            let l : y.1 ≡ z = cc in
            subst (λ (q : Cursor). q.incarnation < r.stage.rows.count) l (omega (arith, look.same, h.old n x e)))
        by (inr s) = h.old m z (sym (ns_insert_else d.cursors n y.1 m s) ∙ f)

    no_more : (m : NsName) (t : Table) → left_in cs m t ≤ left_in d.cursors m t
    no_more m t = by (cases_Bool (same_ns m n))
      where
        by : (same_ns m n ≡ true) ⊎ (same_ns m n ≡ false) → left_in cs m t ≤ left_in d.cursors m t
        by (inl s) =
            subst (λ (q : NsName). left_in cs q t ≤ left_in d.cursors q t) (sym (ns_is m n s))
            (let a = ap (λ (o : Option Cursor). left_of o t) here in let b = ap (λ (o : Option Cursor). left_of o t) e in omega (arith, a, b, look.no_more t))
        by (inr s) = (let a = ap (λ (o : Option Cursor). left_of o t) (ns_insert_else d.cursors n y.1 m s) in omega (arith, a))

    few : (o : Option Table) → map.get r.stage.rows.tables n ≡ o → Looked k x (map.get r.stage.rows.tables n) → documents_in (r.steps ++ (Documents n y.0 y.1.ended ∷ [])) + sum (left_in cs) r.stage.rows.tables ≤ work_made r.made
    few None f l = (let a = total_less (left_in cs) (left_in d.cursors) (map.entries r.stage.rows.tables) no_more in omega (arith, a, documents_more r.steps (Documents n y.0 y.1.ended), l.none f, h.few))
    few (Some t) f l =
        (let p = ap (λ (o : Option Cursor). left_of o t) here in
        let q = ap (λ (o : Option Cursor). left_of o t) e in
        let a = sum_lost (left_in cs) (left_in d.cursors) r.stage.rows.tables n t (length y.0) no_more (omega (arith, p, q, l.less t f)) f in
        omega (arith, a, documents_more r.steps (Documents n y.0 y.1.ended), h.few))

copied_holds : (c : Caps) (n : NsName) (k : ℕ) (d : DumpState) (r : Run) → RunOk c r → Reading d r → HoldingAfter (copied n k d r)
copied_holds c n k d r ok h = by (map.get d.cursors n) refl
  where
    by : (o : Option Cursor) → map.get d.cursors n ≡ o → HoldingAfter (copied_by n k o d r)
    by None e = tt
    by (Some x) e = elim x.ended as (λ b. HoldingAfter (elim b [ true ↦ Err NoCursor | false ↦ Ok (read_on n (looked k x (map.get r.stage.rows.tables n)) d r) ])) [ true ↦ tt | false ↦ read_holds c n k d r x ok h e ]

marked_holds : (d : DumpState) (r : Run) → r.dump ≡ Some d → Reading d r → HoldingAfter (marked d r)
marked_holds d r there h = elim (is_some d.mark || not (all_ended d.cursors)) as (λ b. HoldingAfter (elim b [ true ↦ Err NotNow | false ↦ Ok (marked_by (renamed_since d.start r.stage.renamed) d r) ])) [ true ↦ tt | false ↦ on (renamed_since d.start r.stage.renamed) ]
  where
    on : (o : Option Ts) → Holding (marked_by o d r)
    on (Some ts) = (d, there, same_reading d d r (record r { outcome = Renamed ts }) refl refl refl refl h)
    on None =
        elim (is_gone d.start r.stage.oplog) as (λ b. Holding (elim b [ true ↦ rolled d.start r | false ↦ record r { dump = Some (record d { mark = Some r.stage.newest }) } ])) [
          | true ↦ (d, there, same_reading d d r (rolled d.start r) refl refl refl refl h)
          | false ↦ (record d { mark = Some r.stage.newest }, refl, same_reading d (record d { mark = Some r.stage.newest }) r (record r { dump = Some (record d { mark = Some r.stage.newest }) }) refl refl refl refl h)
        ]

tailed_holds : (n : ℕ) (d : DumpState) (r : Run) → r.dump ≡ Some d → Reading d r → HoldingAfter (tailed n d r)
tailed_holds n d r there h = by d.mark
  where
    on : (all : List OplogEntry) (b : Bool) → HoldingAfter (elim b [ true ↦ Err NotNow | false ↦ Ok (rolled_or d.start r.stage.oplog (rolled d.start r) (sent_on n all d r)) ])
    on all true = tt
    on all false =
        elim (is_gone d.start r.stage.oplog) as (λ b. Holding (elim b [ true ↦ rolled d.start r | false ↦ sent_on n all d r ])) [
          | true ↦ (d, there, same_reading d d r (rolled d.start r) refl refl refl refl h)
          | false ↦ (_, refl, same_reading d _ r (sent_on n all d r) refl refl refl (let a = documents_more r.steps (Entries (take n (drop d.sent all)) (nat_le (length all) (d.sent + n))) in omega (arith, a)) h)
        ]

    by : (o : Option Ts) → HoldingAfter (tailed_to n o d r)
    by None = tt
    by (Some e) = on (window d.start e (entries_from r)) d.closed

in_dump_holds : (g : DumpState → Run → Result Run Refusal) (r : Run) → Holding r → ((d : DumpState) → r.dump ≡ Some d → Reading d r → HoldingAfter (g d r)) → HoldingAfter (in_dump g r.dump r)
in_dump_holds g r (d, there, h) step = subst (λ (o : Option DumpState). HoldingAfter (in_dump g o r)) (sym there) (by r.outcome)
  where
    by : (x : Outcome) → HoldingAfter (still x g d r)
    by Done = step d there h
    by (Renamed ts) = (d, there, h)
    by (Rolled a b) = (d, there, h)

-- ---- lines

command_holds : UpdatesRecord → (c : Caps) (k : Command) (r : Run) → IsWellFormedCommand k → RunOk c r → Holding r → HoldingAfter (commanded (applied k r.stage) r)
command_holds sound c k r w ok (d, there, h) = by (applied k r.stage) refl
  where
    by : (y : Result (Stage × List Made) Refused) → applied k r.stage ≡ y → HoldingAfter (commanded y r)
    by (Err x) e = tt
    by (Ok x) e =
        (let m = taken_made sound k r.stage x w ok.0.formed e in
        let a = made_add x.1 r.stage.rows (left_in d.cursors) (left_weight r.stage.rows.count d.cursors h.old) in
        let b = subst (λ (z : Rows). (rows_sum (left_in d.cursors) z ≤ rows_sum (left_in d.cursors) r.stage.rows + work_made x.1) × (r.stage.rows.count ≤ z.count)) m.1 a in (
          d,
          there,
          record {
            few = omega (arith, b.0, h.few, work_join r.made x.1);
            old = λ n z f. (let o = h.old n z f in omega (arith, o, b.1));
          },
        ))

line_holds : UpdatesRecord → (c : Caps) (l : Line) (r : Run) → IsWellFormedLine l → RunOk c r → Holding r → HoldingAfter (on_line l r)
line_holds sound c (Cmd k) r w ok h = command_holds sound c k r w ok h
line_holds sound c Dump r w ok (d, there, h) = subst (λ (o : Option DumpState). HoldingAfter (dumped o r)) (sym there) tt
line_holds sound c (Copy n k) r w ok h = in_dump_holds (copied n k) r h (λ d e g. copied_holds c n k d r ok g)
line_holds sound c Mark r w ok h = in_dump_holds marked r h (λ d e g. marked_holds d r e g)
line_holds sound c (Tail n) r w ok h = in_dump_holds (tailed n) r h (λ d e g. tailed_holds n d r e g)

told : (i : ℕ) (x : Result Run Refusal) (r : Run) → Holding r → HoldingAfter x → Holding (or_refused i x r)
told i (Ok s) r h g = g
told i (Err y) r (d, there, h) g = (d, there, record { few = h.few; old = h.old })

lines_hold : UpdatesRecord → (c : Caps) (ls : List (ℕ × Line)) (r : Run) → AreWellFormedLines ls → RunOk c r → Holding r → Holding (after_lines ls r)
lines_hold sound c [] r w ok h = h
lines_hold sound c (l ∷ ls) r w ok h = lines_hold sound c ls (after_line l r) w.1 (lines_good sound c (l ∷ []) r (w.0, tt) ok) (told l.0 (on_line l.1 r) r h (line_holds sound c l.1 r w.0 ok h))

pub read_few : UpdatesRecord → (s : Schedule) → AreWellFormedLines s.lines → documents_in (reads s) ≤ work_made (run s).made
read_few sound s w =
    let st = run_started sound s w in
    let ok = lines_good sound s.caps [] (started st.on) tt (st.ok.0, tt) in
    let h : Holding (run s) = subst Holding (sym st.whole) (lines_hold sound s.caps st.lines (started st.on) st.formed ok (started_holds s.caps st.on st.ok st.none)) in
    let g = h.2 in
    omega (arith, g.few)
