-- The timestamps of what is made fit, command by command.
use Rattle.std.proofs.Common.{◌≡◌, ℕ, zero, suc, ◌+◌, ◌*◌, ◌≤◌, ◌<◌, ◌^◌, List, [], ◌∷◌, length, Bool, true, false, refl, sym, subst, arith, Option, Some, None, Result, Ok, Err}
use Rattle.std.specs.Prelude.{nat_lt, if◌then◌else◌}
use Rattle.std.specs.FinMap as map
use Rattle.bson_value.specs.declared.namespace.NsName.{NsName}
use Rattle.bson_value.specs.declared.value.Ts.{Ts}
use Rattle.schedule_model.specs.declared.command.Command.{Command}
use Rattle.schedule_model.specs.declared.command.Command.TheVariants as commands
use Rattle.schedule_model.specs.declared.line.Line.{Line}
use Rattle.schedule_model.specs.declared.line.Line.TheVariants.{Cmd, Dump, Copy, Mark, Tail}
use Rattle.schedule_model.specs.declared.refused.Refused.{Refused}
use Rattle.entry_documents.specs.Laws.{FitsStamp}
use Rattle.history_model.specs.Stages.{Stage, Made, Effect, next_ts, stage_by, stage_after, made_in}
use Rattle.history_model.specs.Commands.{effects, set_by, answered, applied}
use Rattle.history_model.specs.Runs.{Schedule, Run, Refusal, DumpState, begun, commanded, on_line, or_refused, after_line, after_lines, first_run, repeated, last_step, names_in, rows_left, copied_out, marked_out}
use Rattle.history_model.specs.Recordings.{EachMade}
use Rattle.history_model.proofs.Inductive.{each_join}
use Rattle.history_model.proofs.Accepted.{same_ok}
use Rattle.history_model.proofs.Modelled.{SameBase, IsStep, line_same}
use Rattle.entry_times.specs.Laws.{HasSeconds, IsTimedLine, AreTimedLines, TimestampsFit}
use Rattle.entry_times.proofs.Few.{effects_few}

-- the clock fits, and so does the newest timestamp, also with its ordinal so much higher
record IsTimed (room : ℕ) (st : Stage) : Type 0 where
  clock : st.clock < 2 ^ 32
  secs : st.newest.secs < 2 ^ 32
  inc : st.newest.inc + room < 2 ^ 32

abbrev AllFit : List Made → Type 0
AllFit ms = EachMade (λ m. FitsStamp m.ts) ms

abbrev FitsWith : ℕ → Ts → Type 0
FitsWith room ts = (ts.secs < 2 ^ 32) × (ts.inc + room < 2 ^ 32)

next_fits : (st : Stage) (n m : ℕ) → suc m ≤ n → IsTimed n st → FitsWith m (next_ts st)
next_fits st n m l h = by (nat_lt st.newest.secs st.clock)
  where
    by : (b : Bool) → FitsWith m (if b then record { secs = st.clock; inc = 1 } else record { secs = st.newest.secs; inc = suc st.newest.inc })
    by true = (h.clock, omega (arith, h.inc))
    by false = (h.secs, omega (arith, h.inc))

one_after : (d : Effect) (st : Stage) (n m : ℕ) → suc m ≤ n → IsTimed n st → IsTimed m (stage_by d st) × FitsStamp (next_ts st)
one_after d st n m l h =
    let f = next_fits st n m l h in
    (record { clock = h.clock; secs = f.0; inc = f.1 }, record { secs = f.0; inc = omega (arith, f.1) })

all_after : (ds : List Effect) (st : Stage) (n m : ℕ) → length ds + m ≤ n → IsTimed n st → IsTimed m (stage_after ds st) × AllFit (made_in ds st)
all_after [] st n m l h = (record { clock = h.clock; secs = h.secs; inc = omega (arith, h.inc) }, tt)
all_after (d ∷ ds) st n m l h =
    let a = one_after d st n (length ds + m) (omega arith) h in
    let b = all_after ds (stage_by d st) (length ds + m) m (omega arith) a.0 in
    (b.0, (a.1, b.1))

set_timed : (k : Command) (st : Stage) (n : ℕ) → HasSeconds k → IsTimed n st → IsTimed n (set_by k st)
set_timed (commands.At s) st n w h = record { clock = w; secs = h.secs; inc = h.inc }
set_timed (commands.Recording f) st n w h = record { clock = h.clock; secs = h.secs; inc = h.inc }
set_timed (commands.Create c o) st n w h = h
set_timed (commands.DropColl c) st n w h = h
set_timed (commands.DropDatabase db) st n w h = h
set_timed (commands.Rename a b) st n w h = h
set_timed (commands.Document d) st n w h = h
set_timed (commands.CreateIndex c d) st n w h = h
set_timed (commands.DropIndex c i) st n w h = h
set_timed (commands.Txn cs) st n w h = h

applied_timed : (k : Command) (st : Stage) (x : Stage × List Made) (n m : ℕ) → m + 2 ≤ n → HasSeconds k → IsTimed n st → applied k st ≡ Ok x → IsTimed m x.0 × AllFit x.1
applied_timed k st x n m l w h e = by (effects k st) refl e
  where
    by : (y : Result (List Effect) Refused) → effects k st ≡ y → answered (set_by k st) y ≡ Ok x → IsTimed m x.0 × AllFit x.1
    by (Err z) f g = cc
    by (Ok ds) f g =
        (let few = effects_few k st ds f in
        subst (λ (z : Stage × List Made). IsTimed m z.0 × AllFit z.1) (same_ok (stage_after ds (set_by k st), made_in ds (set_by k st)) x g)
        (all_after ds (set_by k st) n m (omega (arith, few)) (set_timed k st n w h)))

-- ---- of a run

record IsTimedRun (room : ℕ) (r : Run) : Type 0 where
  stage : IsTimed room r.stage
  made : AllFit r.made

-- a step that isn't a command leaves it so
step_timed : (n m : ℕ) (r s : Run) → m ≤ n → (s.stage ≡ r.stage) × (s.made ≡ r.made) → IsTimedRun n r → IsTimedRun m s
step_timed n m r s l e h =
    let t = h.stage in
    record {
      stage = subst (IsTimed m) (sym e.0) (record { clock = t.clock; secs = t.secs; inc = omega (arith, t.inc) });
      made = subst AllFit (sym e.1) h.made;
    }

told : (n m i : ℕ) (l : Line) (r : Run) → m ≤ n → IsStep l → IsTimedRun n r → IsTimedRun m (after_line (i, l) r)
told n m i l r g s h = by (on_line l r) (line_same l r s)
  where
    by : (x : Result Run Refusal) → SameBase r x → IsTimedRun m (or_refused i x r)
    by (Ok y) e = step_timed n m r y g e h
    by (Err z) e = (let k = step_timed n m r r g (refl, refl) h in record { stage = k.stage; made = k.made })

line_timed : (n m i : ℕ) (l : Line) (r : Run) → m + 2 ≤ n → IsTimedLine l → IsTimedRun n r → IsTimedRun m (after_line (i, l) r)
line_timed n m i (Cmd k) r g w h = by (applied k r.stage) refl
  where
    by : (y : Result (Stage × List Made) Refused) → applied k r.stage ≡ y → IsTimedRun m (or_refused i (commanded y r) r)
    by (Err x) e = (let k = step_timed n m r r (omega arith) (refl, refl) h in record { stage = k.stage; made = k.made })
    by (Ok x) e = (let t = applied_timed k r.stage x n m g w h.stage e in record { stage = t.0; made = each_join (λ m. FitsStamp m.ts) r.made x.1 h.made t.1 })
line_timed n m i Dump r g w h = told n m i Dump r (omega arith) tt h
line_timed n m i (Copy c k) r g w h = told n m i (Copy c k) r (omega arith) tt h
line_timed n m i Mark r g w h = told n m i Mark r (omega arith) tt h
line_timed n m i (Tail k) r g w h = told n m i (Tail k) r (omega arith) tt h

lines_timed : (n : ℕ) (ls : List (ℕ × Line)) (r : Run) → 2 * length ls ≤ n → AreTimedLines ls → IsTimedRun n r → IsTimedRun 0 (after_lines ls r)
lines_timed n [] r g w h = step_timed n 0 r r (omega arith) (refl, refl) h
lines_timed n (l ∷ ls) r g w h = lines_timed (2 * length ls) ls (after_line l r) (omega arith) w.1 (line_timed n (2 * length ls) l.0 l.1 r (omega arith) w.0 h)

-- ---- behind the last line

repeated_timed : (l : Line) (n : ℕ) (r : Run) → IsStep l → IsTimedRun 0 r → IsTimedRun 0 (repeated n (on_line l) r)
repeated_timed l zero r s h = h
repeated_timed l (suc n) r s h = by (on_line l r) (line_same l r s) (λ x g. repeated_timed l n x s g)
  where
    by : (x : Result Run Refusal) → SameBase r x → ((y : Run) → IsTimedRun 0 y → IsTimedRun 0 (repeated n (on_line l) y)) → IsTimedRun 0 (elim x [ Ok y ↦ repeated n (on_line l) y | Err z ↦ r ])
    by (Ok y) e more = more y (step_timed 0 0 r y (omega arith) e h)
    by (Err z) e more = h

copied_timed : (ns : List NsName) (r : Run) → IsTimedRun 0 r → IsTimedRun 0 (copied_out ns r)
copied_timed [] r h = h
copied_timed (n ∷ ns) r h =
    let k = suc (rows_left (map.get r.stage.rows.tables n)) in
    copied_timed ns (repeated k (on_line (Copy n last_step)) r) (repeated_timed (Copy n last_step) k r tt h)

begun_timed : (o : Option DumpState) (r : Run) → IsTimedRun 0 r → IsTimedRun 0 (begun o r)
begun_timed None r h = record { stage = h.stage; made = h.made }
begun_timed (Some d) r h = h

first_timed : (s : Schedule) (n : ℕ) → n + 1 < 2 ^ 32 → IsTimedRun n (first_run s.caps)
first_timed s n l = record { stage = record { clock = omega arith; secs = omega arith; inc = omega arith }; made = tt }

pub times_fit : TimestampsFit
times_fit s w l =
    let r = after_lines s.lines (first_run s.caps) in
    let a = begun r.dump r in
    let b = copied_out (names_in a.dump) a in
    let c = marked_out b in
    let n = 2 * length s.lines in
    let whole = repeated_timed (Tail last_step) (suc (length c.made)) c tt (repeated_timed Mark 1 b tt (copied_timed (names_in a.dump) a (begun_timed r.dump r (lines_timed n s.lines (first_run s.caps) (omega arith) w (first_timed s n l))))) in
    whole.made
