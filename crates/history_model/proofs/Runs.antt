-- What holds of a run holds after each line, and after what is still to do behind the last one.
use Rattle.std.proofs.Common.{◌≡◌, ℕ, zero, suc, List, [], ◌∷◌, ◌++◌, Bool, true, false, not, refl, ap, subst, length, Option, Some, None, Result, Ok, Err, inl, inr}
use Rattle.std.specs.Prelude.{⊤, ◌⊎◌, ◌&&◌, ◌||◌, is_some}
use Rattle.std.proofs.lemmas.Bool.{and_left, and_right, false_from_ne_true}
use Rattle.std.specs.FinMap as map
use Rattle.bson_value.specs.declared.namespace.NsName.{NsName}
use Rattle.bson_value.specs.declared.value.Ts.{Ts}
use Rattle.schedule_model.specs.declared.command.Command.{Command}
use Rattle.schedule_model.specs.declared.command.Command.TheVariants as commands
use Rattle.schedule_model.specs.declared.line.Line.{Line}
use Rattle.schedule_model.specs.declared.line.Line.TheVariants.{Cmd, Dump, Copy, Mark, Tail}
use Rattle.schedule_model.specs.declared.refused.Refused.{Refused}
use Rattle.copy_model.specs.Cursors.{Cursor}
use Rattle.history_model.specs.Stages.{earlier, not_later, Caps, Stage, Made, Effect, stage_by, stage_after, made_in}
use Rattle.history_model.specs.Commands.{effects, set_by, answered, applied}
use Rattle.history_model.specs.Runs.{Schedule, Refusal, NotNow, NoCursor, DumpState, Outcome, Done, Renamed, Rolled, Run, first_run, entries_from, window, is_gone, looked, all_ended, read_on, copied_by, copied, renamed_since, rolled_or, rolled, marked_by, marked, sent_on, tailed_to, tailed, still, in_dump, dumped, commanded, on_line, or_refused, after_line, after_lines, repeated, last_step, names_in, rows_left, copied_out, begun, marked_out, finished, run}
use Rattle.history_model.specs.Recordings.{OfRename}
use Rattle.history_model.specs.Invariants.{RisesTo, UpTo, NoRename, Holds, MarkedOk, DumpOk, RunOk}
use Rattle.update_records.specs.Laws.{UpdatesRecord}
use Rattle.history_model.specs.WellFormed.{IsWellFormedCommand, IsWellFormedLine, AreWellFormedLines}
use Rattle.history_model.proofs.Order.{next_later, earlier_trans, earlier_not, earlier_below}
use Rattle.history_model.proofs.Accepted.{same_ok}
use Rattle.history_model.proofs.Inductive.{taken_holds, first_holds, each_map, each_join, all_above, rises_on, of_rename, always}

made_rises : (ds : List Effect) (st : Stage) → RisesTo st.newest (made_in ds st) (stage_after ds st).newest
made_rises [] st = refl
made_rises (d ∷ ds) st = (next_later st, made_rises ds (stage_by d st))

told_newest : (k : Command) (st : Stage) → (set_by k st).newest ≡ st.newest
told_newest (commands.At s) st = refl
told_newest (commands.Recording f) st = refl
told_newest (commands.Create n o) st = refl
told_newest (commands.DropColl n) st = refl
told_newest (commands.DropDatabase db) st = refl
told_newest (commands.Rename a b) st = refl
told_newest (commands.Document d) st = refl
told_newest (commands.CreateIndex n d) st = refl
told_newest (commands.DropIndex n i) st = refl
told_newest (commands.Txn cs) st = refl

-- what a command makes is later than all before it
pub taken_rises : (k : Command) (st : Stage) (x : Stage × List Made) → applied k st ≡ Ok x → RisesTo st.newest x.1 x.0.newest
taken_rises k st x e = by (effects k st) e
  where
    by : (y : Result (List Effect) Refused) → answered (set_by k st) y ≡ Ok x → RisesTo st.newest x.1 x.0.newest
    by (Err z) g = cc
    by (Ok ds) g =
        subst (λ (z : Stage × List Made). RisesTo st.newest z.1 z.0.newest) (same_ok (stage_after ds (set_by k st), made_in ds (set_by k st)) x g)
        (subst (λ (z : Ts). RisesTo z (made_in ds (set_by k st)) (stage_after ds (set_by k st)).newest) (told_newest k st) (made_rises ds (set_by k st)))

pub not_before : (low high e : Ts) → (low ≡ high) ⊎ (earlier low high ≡ true) → earlier low e ≡ false → earlier high e ≡ false
not_before low high e (inl g) h = subst (λ (z : Ts). earlier z e ≡ false) g h
not_before low high e (inr g) h = false_from_ne_true (earlier high e) (λ k. (let f = earlier_trans low high e g k in cc))

-- a command leaves what was marked
marked_on : (start : Ts) (o : Option Ts) (st new : Stage) (made more : List Made) → RisesTo st.newest more new.newest → MarkedOk start o st made → MarkedOk start o new (made ++ more)
marked_on start None st new made more r h = tt
marked_on start (Some e) st new made more r h = (
  each_join (λ (m : Made). OfRename m.write ((not_later start m.ts && not_later m.ts e) ≡ false)) made more h.0
      (each_map (λ (m : Made). earlier st.newest m.ts ≡ true) (λ (m : Made). OfRename m.write ((not_later start m.ts && not_later m.ts e) ≡ false))
      (λ m g. always m.write ((not_later start m.ts && not_later m.ts e) ≡ false) (and_right (not_later start m.ts) (not_later m.ts e) (ap not (earlier_below st.newest e m.ts h.1 g)))) more (all_above more st.newest new.newest r)),
  not_before st.newest new.newest e (rises_on more st.newest new.newest r) h.1,
)

dump_on : (o : Option DumpState) (st new : Stage) (made more : List Made) → RisesTo st.newest more new.newest → DumpOk o st made → DumpOk o new (made ++ more)
dump_on None st new made more r h = tt
dump_on (Some d) st new made more r h = marked_on d.start d.mark st new made more r h

-- a step that is refused changes nothing
abbrev pub GoodAfter : Caps → Result Run Refusal → Type 0
GoodAfter c (Ok r) = RunOk c r
GoodAfter c (Err x) = ⊤

command_good : UpdatesRecord → (c : Caps) (k : Command) (r : Run) → IsWellFormedCommand k → RunOk c r → GoodAfter c (on_line (Cmd k) r)
command_good sound c k r w h = by (applied k r.stage) refl
  where
    by : (y : Result (Stage × List Made) Refused) → applied k r.stage ≡ y → GoodAfter c (commanded y r)
    by (Err x) e = tt
    by (Ok x) e = (taken_holds sound c k r.stage r.made x w h.0 e, dump_on r.dump r.stage x.0 r.made x.1 (taken_rises k r.stage x e) h.1)

abbrev pub KeepsGood : Caps → (DumpState → Run → Result Run Refusal) → Type 0
KeepsGood c g = (d : DumpState) (r : Run) → Holds c r.stage r.made → MarkedOk d.start d.mark r.stage r.made → DumpOk r.dump r.stage r.made → GoodAfter c (g d r)

copy_good : (c : Caps) (n : NsName) (k : ℕ) → KeepsGood c (copied n k)
copy_good c n k d r h m g = by (map.get d.cursors n)
  where
    by : (o : Option Cursor) → GoodAfter c (copied_by n k o d r)
    by None = tt
    by (Some x) = elim x.ended as (λ b. GoodAfter c (elim b [ true ↦ Err NoCursor | false ↦ Ok (read_on n (looked k x (map.get r.stage.rows.tables n)) d r) ])) [ true ↦ tt | false ↦ (h, m) ]

-- at the mark no rename since Start was noted
pub noted_before : (start : Ts) (o : Option Ts) (ts : Ts) → renamed_since start o ≡ None → UpTo o ts → earlier ts start ≡ true
noted_before start None ts e h = absurd h
noted_before start (Some last) ts e h = earlier_below last ts start h (by (earlier last start) e)
  where
    by : (b : Bool) → elim (not b) as (λ b. Option Ts) [ true ↦ Some last | false ↦ None ] ≡ None → b ≡ true
    by true g = refl
    by false g = cc

mark_good : (c : Caps) → KeepsGood c marked
mark_good c d r h m g =
    elim (is_some d.mark || not (all_ended d.cursors)) as (λ b. GoodAfter c (elim b [ true ↦ Err NotNow | false ↦ Ok (marked_by (renamed_since d.start r.stage.renamed) d r) ])) [
      | true ↦ tt
      | false ↦ by (renamed_since d.start r.stage.renamed) refl
    ]
  where
    free : renamed_since d.start r.stage.renamed ≡ None → NoRename d.start r.stage.newest r.made
    free e = each_map (λ (x : Made). OfRename x.write (UpTo r.stage.renamed x.ts)) (λ (x : Made). OfRename x.write ((not_later d.start x.ts && not_later x.ts r.stage.newest) ≡ false))
        (λ x k. of_rename x.write (UpTo r.stage.renamed x.ts) ((not_later d.start x.ts && not_later x.ts r.stage.newest) ≡ false)
        (λ u. and_left (not_later d.start x.ts) (not_later x.ts r.stage.newest) (ap not (noted_before d.start r.stage.renamed x.ts e u))) k) r.made h.renamed

    by : (o : Option Ts) → renamed_since d.start r.stage.renamed ≡ o → RunOk c (marked_by o d r)
    by (Some ts) e = (h, g)
    by None e =
        elim (is_gone d.start r.stage.oplog) as (λ b. RunOk c (elim b [ true ↦ rolled d.start r | false ↦ record r { dump = Some (record d { mark = Some r.stage.newest }) } ])) [
          | true ↦ (h, g)
          | false ↦ (h, (free e, earlier_not r.stage.newest))
        ]

tail_good : (c : Caps) (n : ℕ) → KeepsGood c (tailed n)
tail_good c n d r h m g = by d.mark
  where
    by : (o : Option Ts) → GoodAfter c (tailed_to n o d r)
    by None = tt
    by (Some e) =
        elim d.closed as (λ b. GoodAfter c (elim b [ true ↦ Err NotNow | false ↦ Ok (rolled_or d.start r.stage.oplog (rolled d.start r) (sent_on n (window d.start e (entries_from r)) d r)) ])) [
          | true ↦ tt
          | false ↦ elim (is_gone d.start r.stage.oplog) as (λ b. RunOk c (elim b [ true ↦ rolled d.start r | false ↦ sent_on n (window d.start e (entries_from r)) d r ])) [ true ↦ (h, g) | false ↦ (h, m) ]
        ]

step_good : (c : Caps) (g : DumpState → Run → Result Run Refusal) → KeepsGood c g → (r : Run) → RunOk c r → GoodAfter c (in_dump g r.dump r)
step_good c g k r h = by r.dump refl
  where
    by : (o : Option DumpState) → r.dump ≡ o → GoodAfter c (in_dump g o r)
    by None e = tt
    by (Some d) e = on r.outcome
      where
        on : (x : Outcome) → GoodAfter c (still x g d r)
        on Done = k d r h.0 (subst (λ (z : Option DumpState). DumpOk z r.stage r.made) e h.1) h.1
        on (Renamed ts) = h
        on (Rolled a b) = h

pub line_good : UpdatesRecord → (c : Caps) (l : Line) (r : Run) → IsWellFormedLine l → RunOk c r → GoodAfter c (on_line l r)
line_good sound c (Cmd k) r w h = command_good sound c k r w h
line_good sound c Dump r w h = by r.dump
  where
    by : (o : Option DumpState) → GoodAfter c (dumped o r)
    by None = (h.0, tt)
    by (Some d) = tt
line_good sound c (Copy n k) r w h = step_good c (copied n k) (copy_good c n k) r h
line_good sound c Mark r w h = step_good c marked (mark_good c) r h
line_good sound c (Tail n) r w h = step_good c (tailed n) (tail_good c n) r h

pub lines_good : UpdatesRecord → (c : Caps) (ls : List (ℕ × Line)) (r : Run) → AreWellFormedLines ls → RunOk c r → RunOk c (after_lines ls r)
lines_good sound c [] r w h = h
lines_good sound c (l ∷ ls) r w h = lines_good sound c ls (after_line l r) w.1 (by (on_line l.1 r) (line_good sound c l.1 r w.0 h))
  where
    by : (x : Result Run Refusal) → GoodAfter c x → RunOk c (or_refused l.0 x r)
    by (Ok s) g = g
    by (Err x) g = h

repeated_good : UpdatesRecord → (c : Caps) (l : Line) (n : ℕ) (r : Run) → IsWellFormedLine l → RunOk c r → RunOk c (repeated n (on_line l) r)
repeated_good sound c l zero r w h = h
repeated_good sound c l (suc n) r w h = by (on_line l r) (line_good sound c l r w h) (λ s g. repeated_good sound c l n s w g)
  where
    by : (x : Result Run Refusal) → GoodAfter c x → ((s : Run) → RunOk c s → RunOk c (repeated n (on_line l) s)) → RunOk c (elim x [ Ok s ↦ repeated n (on_line l) s | Err y ↦ r ])
    by (Ok s) g rest = rest s g
    by (Err y) g rest = h

copied_good : UpdatesRecord → (c : Caps) (ns : List NsName) (r : Run) → RunOk c r → RunOk c (copied_out ns r)
copied_good sound c [] r h = h
copied_good sound c (n ∷ ns) r h =
    copied_good sound c ns (repeated (suc (rows_left (map.get r.stage.rows.tables n))) (on_line (Copy n last_step)) r) (repeated_good sound c (Copy n last_step) (suc (rows_left (map.get r.stage.rows.tables n))) r tt h)

begun_good : (c : Caps) (o : Option DumpState) (r : Run) → RunOk c r → RunOk c (begun o r)
begun_good c None r h = (h.0, tt)
begun_good c (Some d) r h = h

pub finished_good : UpdatesRecord → (c : Caps) (r : Run) → RunOk c r → RunOk c (finished r)
finished_good sound c r h =
    (let s = begun r.dump r in
    let a = copied_good sound c (names_in s.dump) s (begun_good c r.dump r h) in
    let b = repeated_good sound c Mark 1 (copied_out (names_in s.dump) s) tt a in
    repeated_good sound c (Tail last_step) (suc (length (marked_out (copied_out (names_in s.dump) s)).made)) (marked_out (copied_out (names_in s.dump) s)) tt b)

pub run_good : UpdatesRecord → (s : Schedule) → AreWellFormedLines s.lines → RunOk s.caps (run s)
run_good sound s w = finished_good sound s.caps (after_lines s.lines (first_run s.caps)) (lines_good sound s.caps s.lines (first_run s.caps) w (first_holds s.caps, tt))
