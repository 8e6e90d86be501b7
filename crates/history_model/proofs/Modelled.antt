-- The lines of a schedule without renames are events, each recorded.
use Rattle.std.proofs.Common.{◌≡◌, ℕ, List, [], ◌∷◌, ◌++◌, true, false, refl, sym, ap, ◌∙◌, subst, Option, Some, None, Result, Ok, Err}
use Rattle.std.specs.Prelude.{⊤, ◌||◌, not, is_some}
use Rattle.std.specs.FinMap as map
use Rattle.bson_value.specs.declared.namespace.NsName.{NsName}
use Rattle.bson_value.specs.declared.value.Ts.{Ts}
use Rattle.coll_state.specs.Rows.{Rows}
use Rattle.schedule_model.specs.declared.command.Command.{Command}
use Rattle.schedule_model.specs.declared.line.Line.{Line}
use Rattle.schedule_model.specs.declared.line.Line.TheVariants.{Cmd, Dump, Copy, Mark, Tail}
use Rattle.schedule_model.specs.declared.refused.Refused.{Refused}
use Rattle.copy_model.specs.Writes.{SingleWrite, change_rows}
use Rattle.copy_model.specs.Cursors.{Cursor}
use Rattle.copy_model.specs.Copies.{Event, Wrote, Copied, rows_after, AllRecorded}
use Rattle.history_model.specs.Entries.{Item, Content, Nothing, One, Group}
use Rattle.history_model.specs.Entries as entries
use Rattle.history_model.specs.Stages.{Write, Single, Rename, Txn, rows_all, rows_by, Caps, Stage, Made, Effect, stage_by, stage_after, made_in}
use Rattle.history_model.specs.Commands.{effects, set_by, answered, applied}
use Rattle.history_model.specs.Runs.{Refusal, NotNow, NoCursor, DumpState, Outcome, Done, Renamed, Rolled, Run, entries_from, window, is_gone, looked, all_ended, read_on, copied_by, copied, renamed_since, rolled_or, rolled, marked_by, marked, sent_on, tailed_to, tailed, still, in_dump, dumped, commanded, on_line, or_refused, after_line, after_lines}
use Rattle.history_model.specs.Recordings.{EachRecorded, IsRecordedBy, AllMade, rows_of_made, EachMade, OfRename, NoRenames, events_of_singles, events_of_write, events_of_made, made_of_answer, made_by_line, made_by, events_of_line, events_of_lines}
use Rattle.history_model.specs.Invariants.{RunOk}
use Rattle.update_records.specs.Laws.{UpdatesRecord}
use Rattle.history_model.specs.WellFormed.{AreWellFormed, IsWellFormedCommand, IsWellFormedLine, AreWellFormedLines}
use Rattle.history_model.proofs.Inductive.{told_same}
use Rattle.history_model.proofs.Accepted.{EffectsOk, command_ok, made_ok, same_ok}
use Rattle.history_model.proofs.Runs.{lines_good}

recorded_join : (xs ys : List Event) (r : Rows) → AllRecorded xs r → AllRecorded ys (rows_after xs r) → AllRecorded (xs ++ ys) r
recorded_join [] ys r a b = b
recorded_join (Wrote w ms ∷ xs) ys r a b = (a.0, recorded_join xs ys (change_rows w r) a.1 b)
recorded_join (Copied n k ∷ xs) ys r a b = recorded_join xs ys r a b

rows_join : (xs ys : List Event) (r : Rows) → rows_after (xs ++ ys) r ≡ rows_after ys (rows_after xs r)
rows_join [] ys r = refl
rows_join (Wrote w ms ∷ xs) ys r = rows_join xs ys (change_rows w r)
rows_join (Copied n k ∷ xs) ys r = rows_join xs ys r

-- recorded, and leading to these rows
abbrev pub Leading : List Event → Rows → Rows → Type 0
Leading xs r s = AllRecorded xs r × (rows_after xs r ≡ s)

pub leading_join : (xs ys : List Event) (r s t : Rows) → Leading xs r s → Leading ys s t → Leading (xs ++ ys) r t
leading_join xs ys r s t a b =
    (recorded_join xs ys r a.0 (subst (λ (z : Rows). AllRecorded ys z) (sym a.1) b.0), rows_join xs ys r ∙ (ap (rows_after ys) a.1 ∙ b.1))

single_leading : (ws : List SingleWrite) (is : List Item) (r : Rows) → EachRecorded ws is r → Leading (events_of_singles ws is) r (rows_all ws r)
single_leading [] [] r h = (tt, refl)
single_leading [] (i ∷ is) r h = absurd h
single_leading (w ∷ ws) [] r h = absurd h
single_leading (w ∷ ws) (i ∷ is) r h = (let g = single_leading ws is (change_rows w r) h.1 in ((h.0, g.0), g.1))

write_leading : (w : Write) (e : Content) (r : Rows) → IsRecordedBy w e r → OfRename w ⊥ → Leading (events_of_write w e) r (rows_by w r)
write_leading (Single w) (One i) r h g = ((h, tt), refl)
write_leading (Single w) Nothing r h g = absurd h
write_leading (Single w) (entries.Rename d x) r h g = absurd h
write_leading (Single w) (Group is) r h g = absurd h
write_leading (Rename a b) e r h g = absurd g
write_leading (Txn ws) (Group is) r h g = single_leading ws is r h
write_leading (Txn ws) Nothing r h g = absurd h
write_leading (Txn ws) (entries.Rename d x) r h g = absurd h
write_leading (Txn ws) (One i) r h g = absurd h

pub made_leading : (ms : List Made) (r : Rows) → AllMade ms r → NoRenames ms → Leading (events_of_made ms) r (rows_of_made ms r)
made_leading [] r h g = (tt, refl)
made_leading (m ∷ ms) r h g =
    leading_join (events_of_write m.write m.content) (events_of_made ms) r (rows_by m.write r) (rows_of_made ms (rows_by m.write r))
    (write_leading m.write m.content r h.0 g.0) (made_leading ms (rows_by m.write r) h.1 g.1)

-- a step of the dump leaves stage and history
abbrev pub SameBase : Run → Result Run Refusal → Type 0
SameBase r (Ok s) = (s.stage ≡ r.stage) × (s.made ≡ r.made)
SameBase r (Err x) = ⊤

copied_same : (n : NsName) (k : ℕ) (d : DumpState) (r : Run) → SameBase r (copied n k d r)
copied_same n k d r = by (map.get d.cursors n)
  where
    by : (o : Option Cursor) → SameBase r (copied_by n k o d r)
    by None = tt
    by (Some x) = elim x.ended as (λ b. SameBase r (elim b [ true ↦ Err NoCursor | false ↦ Ok (read_on n (looked k x (map.get r.stage.rows.tables n)) d r) ])) [ true ↦ tt | false ↦ (refl, refl) ]

marked_same : (d : DumpState) (r : Run) → SameBase r (marked d r)
marked_same d r =
    elim (is_some d.mark || not (all_ended d.cursors)) as (λ b. SameBase r (elim b [ true ↦ Err NotNow | false ↦ Ok (marked_by (renamed_since d.start r.stage.renamed) d r) ])) [
      | true ↦ tt
      | false ↦ by (renamed_since d.start r.stage.renamed)
    ]
  where
    by : (o : Option Ts) → SameBase r (Ok (marked_by o d r))
    by (Some ts) = (refl, refl)
    by None =
        elim (is_gone d.start r.stage.oplog) as (λ b. SameBase r (Ok (elim b [ true ↦ rolled d.start r | false ↦ record r { dump = Some (record d { mark = Some r.stage.newest }) } ]))) [ true ↦ (refl, refl) | false ↦ (refl, refl) ]

tailed_same : (n : ℕ) (d : DumpState) (r : Run) → SameBase r (tailed n d r)
tailed_same n d r = by d.mark
  where
    by : (o : Option Ts) → SameBase r (tailed_to n o d r)
    by None = tt
    by (Some e) =
        elim d.closed as (λ b. SameBase r (elim b [ true ↦ Err NotNow | false ↦ Ok (rolled_or d.start r.stage.oplog (rolled d.start r) (sent_on n (window d.start e (entries_from r)) d r)) ])) [
          | true ↦ tt
          | false ↦ elim (is_gone d.start r.stage.oplog) as (λ b. SameBase r (Ok (elim b [ true ↦ rolled d.start r | false ↦ sent_on n (window d.start e (entries_from r)) d r ]))) [ true ↦ (refl, refl) | false ↦ (refl, refl) ]
        ]

step_same : (g : DumpState → Run → Result Run Refusal) → ((d : DumpState) (r : Run) → SameBase r (g d r)) → (o : Option DumpState) (r : Run) → SameBase r (in_dump g o r)
step_same g h None r = tt
step_same g h (Some d) r = by r.outcome
  where
    by : (x : Outcome) → SameBase r (still x g d r)
    by Done = h d r
    by (Renamed ts) = (refl, refl)
    by (Rolled a b) = (refl, refl)

-- a step that isn't a command
abbrev pub IsStep : Line → Type 0
IsStep (Cmd k) = ⊥
IsStep Dump = ⊤
IsStep (Copy n k) = ⊤
IsStep Mark = ⊤
IsStep (Tail n) = ⊤

pub line_same : (l : Line) (r : Run) → IsStep l → SameBase r (on_line l r)
line_same (Cmd k) r h = absurd h
line_same Dump r h = by r.dump
  where
    by : (o : Option DumpState) → SameBase r (dumped o r)
    by None = (refl, refl)
    by (Some d) = tt
line_same (Copy n k) r h = step_same (copied n k) (copied_same n k) r.dump r
line_same Mark r h = step_same marked marked_same r.dump r
line_same (Tail n) r h = step_same (tailed n) (tailed_same n) r.dump r

pub same_after : (number : ℕ) (l : Line) (r : Run) → IsStep l → (after_line (number, l) r).stage ≡ r.stage
same_after number l r h = by (on_line l r) (line_same l r h)
  where
    by : (x : Result Run Refusal) → SameBase r x → (or_refused number x r).stage ≡ r.stage
    by (Ok s) g = g.0
    by (Err x) g = refl

pub made_rows : (ds : List Effect) (st : Stage) → rows_of_made (made_in ds st) st.rows ≡ (stage_after ds st).rows
made_rows [] st = refl
made_rows (d ∷ ds) st = made_rows ds (stage_by d st)

-- what a command makes is recorded, and makes the rows after it
pub taken_made : UpdatesRecord → (k : Command) (st : Stage) (x : Stage × List Made) → IsWellFormedCommand k → AreWellFormed st.rows → applied k st ≡ Ok x → AllMade x.1 st.rows × (rows_of_made x.1 st.rows ≡ x.0.rows)
taken_made sound k st x w formed e = by (effects k st) refl e
  where
    by : (y : Result (List Effect) Refused) → effects k st ≡ y → answered (set_by k st) y ≡ Ok x → AllMade x.1 st.rows × (rows_of_made x.1 st.rows ≡ x.0.rows)
    by (Err z) f g = cc
    by (Ok ds) f g =
        (let on = told_same k st in
        let ok : EffectsOk ds (set_by k st).rows = subst (λ (z : Rows). EffectsOk ds z) (sym on) (command_ok sound k st ds w formed f) in
        let both : AllMade (made_in ds (set_by k st)) (set_by k st).rows × (rows_of_made (made_in ds (set_by k st)) (set_by k st).rows ≡ (stage_after ds (set_by k st)).rows) =
        (made_ok ds (set_by k st) ok, made_rows ds (set_by k st)) in
        subst (λ (z : Stage × List Made). AllMade z.1 st.rows × (rows_of_made z.1 st.rows ≡ z.0.rows)) (same_ok (stage_after ds (set_by k st), made_in ds (set_by k st)) x g)
        (subst (λ (z : Rows). AllMade (made_in ds (set_by k st)) z × (rows_of_made (made_in ds (set_by k st)) z ≡ (stage_after ds (set_by k st)).rows)) on both))

pub each_first : (P : Made → Type 0) (ms ns : List Made) → EachMade P (ms ++ ns) → EachMade P ms × EachMade P ns
each_first P [] ns h = (tt, h)
each_first P (m ∷ ms) ns h = (let g = each_first P ms ns h.1 in ((h.0, g.0), g.1))

pub line_leading : UpdatesRecord → (c : Caps) (number : ℕ) (l : Line) (r : Run) → IsWellFormedLine l → RunOk c r → NoRenames (made_by_line l r) → Leading (events_of_line l r) r.stage.rows (after_line (number, l) r).stage.rows
line_leading sound c number (Cmd k) r w h none = by (applied k r.stage) refl none
  where
    by : (y : Result (Stage × List Made) Refused) → applied k r.stage ≡ y → NoRenames (made_of_answer y) → Leading (events_of_made (made_of_answer y)) r.stage.rows (or_refused number (commanded y r) r).stage.rows
    by (Err x) e g = (tt, refl)
    by (Ok x) e g =
        (let t = taken_made sound k r.stage x w h.0.formed e in
        subst (λ (z : Rows). Leading (events_of_made x.1) r.stage.rows z) t.1 (made_leading x.1 r.stage.rows t.0 g))
line_leading sound c number Dump r w h none = (tt, sym (ap (λ (s : Stage). s.rows) (same_after number Dump r tt)))
line_leading sound c number (Copy n k) r w h none = (tt, sym (ap (λ (s : Stage). s.rows) (same_after number (Copy n k) r tt)))
line_leading sound c number Mark r w h none = (tt, sym (ap (λ (s : Stage). s.rows) (same_after number Mark r tt)))
line_leading sound c number (Tail n) r w h none = (tt, sym (ap (λ (s : Stage). s.rows) (same_after number (Tail n) r tt)))

pub lines_leading : UpdatesRecord → (c : Caps) (ls : List (ℕ × Line)) (r : Run) → AreWellFormedLines ls → RunOk c r → NoRenames (made_by ls r) → Leading (events_of_lines ls r) r.stage.rows (after_lines ls r).stage.rows
lines_leading sound c [] r w h none = (tt, refl)
lines_leading sound c (l ∷ ls) r w h none =
    (let g = each_first (λ (m : Made). OfRename m.write ⊥) (made_by_line l.1 r) (made_by ls (after_line l r)) none in
    leading_join (events_of_line l.1 r) (events_of_lines ls (after_line l r)) r.stage.rows (after_line l r).stage.rows (after_lines ls (after_line l r)).stage.rows
    (line_leading sound c l.0 l.1 r w.0 h g.0) (lines_leading sound c ls (after_line l r) w.1 (lines_good sound c (l ∷ []) r (w.0, tt) h) g.1))
