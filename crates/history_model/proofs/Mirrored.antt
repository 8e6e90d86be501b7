-- The steps of a dump read what the copy's model reads.
use Rattle.std.proofs.Common.{◌≡◌, ℕ, List, [], ◌∷◌, ◌++◌, Bool, true, false, cond, not, refl, sym, ap, ◌∙◌, subst, Option, Some, None, Result, Ok, Err}
use Rattle.std.specs.Prelude.{⊤, ◌||◌, ◌==◌, is_some}
use Rattle.std.specs.FinMap as map
use Rattle.bson_value.specs.declared.namespace.NsName.{NsName}
use Rattle.bson_value.specs.declared.value.Ts.{Ts}
use Rattle.bson_value.specs.NamespaceOrder.{namespace_cmp}
use Rattle.coll_state.specs.Rows.{Table, Rows, scan}
use Rattle.schedule_model.specs.declared.line.Line.{Line}
use Rattle.schedule_model.specs.declared.line.Line.TheVariants.{Cmd, Dump, Copy, Mark, Tail}
use Rattle.schedule_model.specs.declared.refused.Refused.{Refused}
use Rattle.copy_model.specs.Writes.{SingleWrite, change_rows}
use Rattle.copy_model.specs.Cursors.{Cursor, Read, Copy as Reading, reads_of, ended_now, step_on, step_open, copy_step}
use Rattle.copy_model.specs.Copies.{Event, Wrote, Copied, happens, after, rows_after}
use Rattle.history_model.specs.Entries.{Item, Content, Nothing, One, Group}
use Rattle.history_model.specs.Entries as entries
use Rattle.history_model.specs.Stages.{Write, Single, Rename, Txn, Caps, Stage, Made}
use Rattle.history_model.specs.Commands.{applied}
use Rattle.history_model.specs.Runs.{Refusal, NotNow, NoCursor, DumpState, Outcome, Done, Renamed, Rolled, Step, Documents, Entries, Run, entries_from, window, is_gone, seen, looked, all_ended, read_on, copied_by, copied, renamed_since, rolled_or, rolled, marked_by, marked, sent_on, tailed_to, tailed, still, in_dump, dumped, commanded, or_refused, after_line, after_lines}
use Rattle.history_model.specs.Recordings.{OfRename, NoRenames, events_of_singles, events_of_write, events_of_made, made_of_answer, made_by_line, made_by, events_of_line, events_of_lines, reads_in}
use Rattle.history_model.specs.Invariants.{RunOk, Mirrors}
use Rattle.update_records.specs.Laws.{UpdatesRecord}
use Rattle.history_model.specs.WellFormed.{IsWellFormedLine, AreWellFormedLines}
use Rattle.copy_model.specs.Cursors.{read_rows, close}
use Rattle.history_model.proofs.Modelled.{line_leading, each_first, Leading}
use Rattle.history_model.proofs.Runs.{lines_good}

pub got_join : (xs ys : List Step) (got : List Read) → reads_in (xs ++ ys) got ≡ reads_in ys (reads_in xs got)
got_join [] ys reads = refl
got_join (Documents n rs b ∷ xs) ys got = got_join xs ys (reads_of n rs ++ got)
got_join (Entries es b ∷ xs) ys got = got_join xs ys got

pub after_join : (xs ys : List Event) (w : Reading) → after (xs ++ ys) w ≡ after ys (after xs w)
after_join [] ys w = refl
after_join (e ∷ xs) ys w = after_join xs ys (happens e w)

-- lines that write alone
abbrev pub OnlyWrites : List Event → Type 0
OnlyWrites [] = ⊤
OnlyWrites (Wrote w ms ∷ ls) = OnlyWrites ls
OnlyWrites (Copied n k ∷ ls) = ⊥

writes_join : (xs ys : List Event) → OnlyWrites xs → OnlyWrites ys → OnlyWrites (xs ++ ys)
writes_join [] ys a b = b
writes_join (Wrote w ms ∷ xs) ys a b = writes_join xs ys a b
writes_join (Copied n k ∷ xs) ys a b = absurd a

single_writes : (ws : List SingleWrite) (is : List Item) → OnlyWrites (events_of_singles ws is)
single_writes [] is = tt
single_writes (w ∷ ws) [] = tt
single_writes (w ∷ ws) (i ∷ is) = single_writes ws is

write_writes : (w : Write) (e : Content) → OnlyWrites (events_of_write w e)
write_writes (Single w) (One i) = tt
write_writes (Single w) Nothing = tt
write_writes (Single w) (entries.Rename d x) = tt
write_writes (Single w) (Group is) = tt
write_writes (Rename a b) e = tt
write_writes (Txn ws) (Group is) = single_writes ws is
write_writes (Txn ws) Nothing = tt
write_writes (Txn ws) (entries.Rename d x) = tt
write_writes (Txn ws) (One i) = tt

pub made_writes : (ms : List Made) → OnlyWrites (events_of_made ms)
made_writes [] = tt
made_writes (m ∷ ms) = writes_join (events_of_write m.write m.content) (events_of_made ms) (write_writes m.write m.content) (made_writes ms)

abbrev pub Beside : Reading → Reading → Rows → Type 0
Beside v w r = (v.rows ≡ r) × (v.cursors ≡ w.cursors) × (v.reads ≡ w.reads)

pub written_world : (es : List Event) (r : Rows) (w : Reading) → OnlyWrites es → w.rows ≡ r → Beside (after es w) w (rows_after es r)
written_world [] r w o e = (e, refl, refl)
written_world (Wrote x ms ∷ es) r w o e = written_world es (change_rows x r) (happens (Wrote x ms) w) o (ap (change_rows x) e)
written_world (Copied n k ∷ es) r w o e = absurd o

same_outcome : (a b : Outcome) → a ≡ b → b ≡ Done → a ≡ Done
same_outcome a b e f = e ∙ f

gone : (i : ℕ) (g : DumpState → Run → Result Run Refusal) (o : Option DumpState) (r : Run) → (or_refused i (in_dump g o r) r).outcome ≡ Done → r.outcome ≡ Done
gone i g None r h = h
gone i g (Some d) r h = by r.outcome refl h
  where
    by : (x : Outcome) → r.outcome ≡ x → (or_refused i (still x g d r) r).outcome ≡ Done → r.outcome ≡ Done
    by Done e k = e
    by (Renamed ts) e k = k
    by (Rolled a b) e k = k

-- a failed dump stays failed
failed_stays : (l : ℕ × Line) (r : Run) → (after_line l r).outcome ≡ Done → r.outcome ≡ Done
failed_stays (i, Cmd k) r h = by (applied k r.stage) h
  where
    by : (y : Result (Stage × List Made) Refused) → (or_refused i (commanded y r) r).outcome ≡ Done → r.outcome ≡ Done
    by (Err x) g = g
    by (Ok x) g = g
failed_stays (i, Dump) r h = by r.dump h
  where
    by : (o : Option DumpState) → (or_refused i (dumped o r) r).outcome ≡ Done → r.outcome ≡ Done
    by None g = g
    by (Some d) g = g
failed_stays (i, Copy n k) r h = gone i (copied n k) r.dump r h
failed_stays (i, Mark) r h = gone i marked r.dump r h
failed_stays (i, Tail n) r h = gone i (tailed n) r.dump r h

pub lines_stay : (ls : List (ℕ × Line)) (r : Run) → (after_lines ls r).outcome ≡ Done → r.outcome ≡ Done
lines_stay [] r h = h
lines_stay (l ∷ ls) r h = failed_stays l r (lines_stay ls (after_line l r) h)

-- one copy step
abbrev pub StepMirrors : Run → Reading → Result Run Refusal → Reading → Type 0
StepMirrors r w (Ok s) v = Mirrors s v
StepMirrors r w (Err x) v = Mirrors r v

read_mirrors : (n : NsName) (k : ℕ) (c : Cursor) (o : Option Table) (d : DumpState) (r : Run) (w : Reading) → r.dump ≡ Some d → w.rows ≡ r.stage.rows → w.cursors ≡ d.cursors → w.reads ≡ reads_in r.steps [] →
    Mirrors (read_on n (looked k c o) d r) (step_on n k c o w)
read_mirrors n k c None d r w e a b g = record {
  copy = _;
  there = refl;
  rows = a;
  cursors = ap (λ (z : map.FinMap namespace_cmp Cursor). map.insert z n (ended_now c)) b;
  reads = g ∙ sym (got_join r.steps (Documents n [] true ∷ []) []);
}
read_mirrors n k c (Some t) d r w e a b g = by (t.incarnation == c.incarnation)
  where
    by : (x : Bool) → Mirrors (read_on n (seen k c x (scan c.position k t.rows)) d r) (cond x (read_rows n k c (scan c.position k t.rows) w) (close n c w))
    by true = record {
      copy = _;
      there = refl;
      rows = a;
      cursors = ap (λ (z : map.FinMap namespace_cmp Cursor). map.insert z n (seen k c true (scan c.position k t.rows)).1) b;
      reads = ap (λ (z : List Read). reads_of n (scan c.position k t.rows) ++ z) g ∙ sym (got_join r.steps (Documents n (scan c.position k t.rows) (seen k c true (scan c.position k t.rows)).1.ended ∷ []) []);
    }
    by false = record {
      copy = _;
      there = refl;
      rows = a;
      cursors = ap (λ (z : map.FinMap namespace_cmp Cursor). map.insert z n (ended_now c)) b;
      reads = g ∙ sym (got_join r.steps (Documents n [] true ∷ []) []);
    }

copy_mirrors : (n : NsName) (k : ℕ) (r : Run) (w : Reading) → r.outcome ≡ Done → Mirrors r w → StepMirrors r w (in_dump (copied n k) r.dump r) (copy_step n k w)
copy_mirrors n k r w live m =
    subst (λ (o : Option DumpState). StepMirrors r w (in_dump (copied n k) o r) (copy_step n k w)) (sym m.there)
    (subst (λ (x : Outcome). StepMirrors r w (still x (copied n k) m.copy r) (copy_step n k w)) (sym live)
    (subst (λ (z : map.FinMap namespace_cmp Cursor). StepMirrors r w (copied n k m.copy r) (step_open n k (map.get z n) w)) (sym m.cursors)
    (by (map.get m.copy.cursors n))))
  where
    by : (o : Option Cursor) → StepMirrors r w (copied_by n k o m.copy r) (step_open n k o w)
    by None = m
    by (Some c) = elim c.ended as (λ b. StepMirrors r w (elim b [ true ↦ Err NoCursor | false ↦ Ok (read_on n (looked k c (map.get r.stage.rows.tables n)) m.copy r) ]) (cond b w (step_on n k c (map.get w.rows.tables n) w))) [
      | true ↦ m
      | false ↦ subst (λ (z : Rows). Mirrors (read_on n (looked k c (map.get r.stage.rows.tables n)) m.copy r) (step_on n k c (map.get z.tables n) w)) (sym m.rows)
          (read_mirrors n k c (map.get r.stage.rows.tables n) m.copy r w m.there m.rows m.cursors m.reads)
    ]

mark_mirrors : (r : Run) (w : Reading) → Mirrors r w → StepMirrors r w (in_dump marked r.dump r) w
mark_mirrors r w m =
    subst (λ (o : Option DumpState). StepMirrors r w (in_dump marked o r) w) (sym m.there) (by r.outcome)
  where
    to : Option Ts → Mirrors r w → Mirrors (record r { dump = Some (record m.copy { mark = Some r.stage.newest }) }) w
    to o h = record { copy = record m.copy { mark = Some r.stage.newest }; there = refl; rows = m.rows; cursors = m.cursors; reads = m.reads }

    fails : (x : Outcome) → Mirrors (record r { outcome = x }) w
    fails x = record { copy = m.copy; there = m.there; rows = m.rows; cursors = m.cursors; reads = m.reads }

    at : (o : Option Ts) → Mirrors (marked_by o m.copy r) w
    at (Some ts) = fails (Renamed ts)
    at None = elim (is_gone m.copy.start r.stage.oplog) as (λ b. Mirrors (elim b [ true ↦ rolled m.copy.start r | false ↦ record r { dump = Some (record m.copy { mark = Some r.stage.newest }) } ]) w) [
      | true ↦ record { copy = m.copy; there = m.there; rows = m.rows; cursors = m.cursors; reads = m.reads }
      | false ↦ record { copy = record m.copy { mark = Some r.stage.newest }; there = refl; rows = m.rows; cursors = m.cursors; reads = m.reads }
    ]

    by : (x : Outcome) → StepMirrors r w (still x marked m.copy r) w
    by Done = elim (is_some m.copy.mark || not (all_ended m.copy.cursors)) as (λ b. StepMirrors r w (elim b [ true ↦ Err NotNow | false ↦ Ok (marked_by (renamed_since m.copy.start r.stage.renamed) m.copy r) ]) w) [
      | true ↦ m
      | false ↦ at (renamed_since m.copy.start r.stage.renamed)
    ]
    by (Renamed ts) = m
    by (Rolled a b) = m

tail_mirrors : (n : ℕ) (r : Run) (w : Reading) → Mirrors r w → StepMirrors r w (in_dump (tailed n) r.dump r) w
tail_mirrors n r w m =
    subst (λ (o : Option DumpState). StepMirrors r w (in_dump (tailed n) o r) w) (sym m.there) (by r.outcome)
  where
    at : (o : Option Ts) → StepMirrors r w (tailed_to n o m.copy r) w
    at None = m
    at (Some e) = elim m.copy.closed as (λ b. StepMirrors r w (elim b [ true ↦ Err NotNow | false ↦ Ok (rolled_or m.copy.start r.stage.oplog (rolled m.copy.start r) (sent_on n (window m.copy.start e (entries_from r)) m.copy r)) ]) w) [
      | true ↦ m
      | false ↦ elim (is_gone m.copy.start r.stage.oplog) as (λ b. Mirrors (elim b [ true ↦ rolled m.copy.start r | false ↦ sent_on n (window m.copy.start e (entries_from r)) m.copy r ]) w) [
        | true ↦ record { copy = m.copy; there = m.there; rows = m.rows; cursors = m.cursors; reads = m.reads }
        | false ↦ record { copy = _; there = refl; rows = m.rows; cursors = m.cursors; reads = m.reads ∙ sym (got_join r.steps (Entries _ _ ∷ []) []) }
      ]
    ]

    by : (x : Outcome) → StepMirrors r w (still x (tailed n) m.copy r) w
    by Done = at m.copy.mark
    by (Renamed ts) = m
    by (Rolled a b) = m

refused_mirrors : (i : ℕ) (r : Run) (x : Result Run Refusal) (w v : Reading) → StepMirrors r w x v → Mirrors (or_refused i x r) v
refused_mirrors i r (Ok s) w v h = h
refused_mirrors i r (Err y) w v h = record { copy = h.copy; there = h.there; rows = h.rows; cursors = h.cursors; reads = h.reads }

pub line_mirrors : UpdatesRecord → (c : Caps) (i : ℕ) (l : Line) (r : Run) (w : Reading) → IsWellFormedLine l → RunOk c r → r.outcome ≡ Done → NoRenames (made_by_line l r) → Mirrors r w →
    Mirrors (after_line (i, l) r) (after (events_of_line l r) w)
line_mirrors sound c i (Cmd k) r w f ok live none m =
    by (applied k r.stage) refl (line_leading sound c i (Cmd k) r f ok none)
  where
    by : (y : Result (Stage × List Made) Refused) → applied k r.stage ≡ y → Leading (events_of_made (made_of_answer y)) r.stage.rows (or_refused i (commanded y r) r).stage.rows →
        Mirrors (or_refused i (commanded y r) r) (after (events_of_made (made_of_answer y)) w)
    by (Err x) e g = record { copy = m.copy; there = m.there; rows = m.rows; cursors = m.cursors; reads = m.reads }
    by (Ok x) e g =
        (let v = written_world (events_of_made x.1) r.stage.rows w (made_writes x.1) m.rows in
        record { copy = m.copy; there = m.there; rows = v.0 ∙ g.1; cursors = v.1 ∙ m.cursors; reads = v.2 ∙ m.reads })
line_mirrors sound c i Dump r w f ok live none m =
    subst (λ (o : Option DumpState). Mirrors (or_refused i (dumped o r) r) w) (sym m.there) (record { copy = m.copy; there = m.there; rows = m.rows; cursors = m.cursors; reads = m.reads })
line_mirrors sound c i (Copy n k) r w f ok live none m = refused_mirrors i r (in_dump (copied n k) r.dump r) w (copy_step n k w) (copy_mirrors n k r w live m)
line_mirrors sound c i Mark r w f ok live none m = refused_mirrors i r (in_dump marked r.dump r) w w (mark_mirrors r w m)
line_mirrors sound c i (Tail n) r w f ok live none m = refused_mirrors i r (in_dump (tailed n) r.dump r) w w (tail_mirrors n r w m)

pub lines_mirror : UpdatesRecord → (c : Caps) (ls : List (ℕ × Line)) (r : Run) (w : Reading) → AreWellFormedLines ls → RunOk c r → NoRenames (made_by ls r) → Mirrors r w → (after_lines ls r).outcome ≡ Done →
    Mirrors (after_lines ls r) (after (events_of_lines ls r) w)
lines_mirror sound c [] r w f ok none m h = m
lines_mirror sound c (l ∷ ls) r w f ok none m h =
    (let g = each_first (λ (m : Made). OfRename m.write ⊥) (made_by_line l.1 r) (made_by ls (after_line l r)) none in
    let live = lines_stay (l ∷ ls) r h in
    let one = line_mirrors sound c l.0 l.1 r w f.0 ok live g.0 m in
    let more = lines_mirror sound c ls (after_line l r) (after (events_of_line l.1 r) w) f.1 (lines_good sound c (l ∷ []) r (f.0, tt) ok) g.1 one h in
    subst (λ (v : Reading). Mirrors (after_lines ls (after_line l r)) v) (sym (after_join (events_of_line l.1 r) (events_of_lines ls (after_line l r)) w)) more)
