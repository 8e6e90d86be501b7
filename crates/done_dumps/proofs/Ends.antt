-- Where no line is a mark, the window ends at the newest entry.
use Rattle.std.proofs.Common.{◌≡◌, ℕ, List, [], ◌∷◌, Bool, true, false, cond, not, refl, sym, ap, ◌∙◌, subst, Option, Some, None, Result, Ok, Err, inl, inr}
use Rattle.std.specs.Prelude.{◌⊎◌, ◌&&◌, ◌||◌, is_some, filter}
use Rattle.std.specs.FinMap as map
use Rattle.bson_value.specs.declared.namespace.NsName.{NsName}
use Rattle.bson_value.specs.declared.value.Ts.{Ts}
use Rattle.schedule_model.specs.declared.line.Line.{Line}
use Rattle.schedule_model.specs.declared.line.Line.TheVariants.{Cmd, Dump, Copy, Mark, Tail}
use Rattle.schedule_model.specs.declared.refused.Refused.{Refused}
use Rattle.copy_model.specs.Cursors.{Cursor}
use Rattle.history_model.specs.Stages.{Write, Stage, Made, earlier, first_ts}
use Rattle.history_model.specs.Commands.{applied}
use Rattle.history_model.specs.Runs.{Schedule, Refusal, NotNow, NoCursor, DumpState, Outcome, Done, Renamed, Rolled, Run, first_run, entries_from, window, is_gone, looked, all_ended, read_on, copied_by, copied, renamed_since, rolled_or, rolled, marked_by, marked, sent_on, tailed_to, tailed, still, in_dump, dumped, commanded, on_line, or_refused, after_line, after_lines, run}
use Rattle.history_model.specs.Histories.{history_of, state, is_before, is_up_to, moments_of, moments}
use Rattle.history_model.specs.Recordings.{EachMade}
use Rattle.history_model.specs.Invariants.{RisesTo}
use Rattle.history_model.proofs.Inductive.{each_map, none_above}
use Rattle.history_model.proofs.AtTheMark.{lines_made, lines_rise}
use Rattle.done_dumps.specs.Laws.{IsTold, IsNoMark, AreNoMarks, UnmarkedDumpsEndLast, UnmarkedStatesAreLast}
use Rattle.done_dumps.proofs.Behind.{Kept, StepsKeep, finished_keeps, base_kept}
use Rattle.done_dumps.proofs.Marked.{done_marked}
use Rattle.history_model.proofs.Sent.{not_marked as none_not}

abbrev end_of : Option DumpState → Option Ts
end_of o = (moments_of o).end_ts

-- ---- lines that are no marks

abbrev Unmarked : Run → Type 0
Unmarked r = end_of r.dump ≡ None

dump_unmarked : (g : DumpState → Run → Result Run Refusal) → ((d : DumpState) (r : Run) → d.mark ≡ None → Kept Unmarked (g d r)) → (r : Run) → Unmarked r → Kept Unmarked (in_dump g r.dump r)
dump_unmarked g h r p = by r.dump p
  where
    by : (o : Option DumpState) → end_of o ≡ None → Kept Unmarked (in_dump g o r)
    by None q = tt
    by (Some d) q = on r.outcome
      where
        on : (x : Outcome) → Kept Unmarked (still x g d r)
        on Done = h d r q
        on (Renamed ts) = p
        on (Rolled a b) = p

copied_unmarked : (n : NsName) (k : ℕ) (d : DumpState) (r : Run) → d.mark ≡ None → Kept Unmarked (copied n k d r)
copied_unmarked n k d r h = by (map.get d.cursors n)
  where
    by : (o : Option Cursor) → Kept Unmarked (copied_by n k o d r)
    by None = tt
    by (Some x) = elim x.ended as (λ b. Kept Unmarked (elim b [ true ↦ Err NoCursor | false ↦ Ok (read_on n (looked k x (map.get r.stage.rows.tables n)) d r) ])) [ true ↦ tt | false ↦ h ]

tailed_unmarked : (n : ℕ) (d : DumpState) (r : Run) → d.mark ≡ None → Kept Unmarked (tailed n d r)
tailed_unmarked n d r h = subst (λ (o : Option Ts). Kept Unmarked (tailed_to n o d r)) (sym h) tt

line_unmarked : (l : Line) (r : Run) → IsNoMark l → Unmarked r → Kept Unmarked (on_line l r)
line_unmarked (Cmd k) r n h = by (applied k r.stage)
  where
    by : (y : Result (Stage × List Made) Refused) → Kept Unmarked (commanded y r)
    by (Err x) = tt
    by (Ok x) = h
line_unmarked Dump r n h = by r.dump
  where
    by : (o : Option DumpState) → Kept Unmarked (dumped o r)
    by None = refl
    by (Some d) = tt
line_unmarked (Copy x k) r n h = dump_unmarked (copied x k) (copied_unmarked x k) r h
line_unmarked Mark r n h = absurd n
line_unmarked (Tail k) r n h = dump_unmarked (tailed k) (tailed_unmarked k) r h

or_unmarked : (i : ℕ) (r : Run) (x : Result Run Refusal) → Unmarked r → Kept Unmarked x → Unmarked (or_refused i x r)
or_unmarked i r (Ok s) h k = k
or_unmarked i r (Err y) h k = h

lines_unmarked : (ls : List (ℕ × Line)) (r : Run) → AreNoMarks ls → Unmarked r → Unmarked (after_lines ls r)
lines_unmarked [] r n h = h
lines_unmarked (l ∷ ls) r n h = lines_unmarked ls (after_line l r) n.1 (or_unmarked l.0 r (on_line l.1 r) h (line_unmarked l.1 r n.0 h))

-- ---- behind the last line: no end, or that of the newest entry

abbrev EndIs : Option Ts → Ts → Type 0
EndIs o now = (o ≡ None) ⊎ (o ≡ Some now)

abbrev EndsNow : Run → Type 0
EndsNow r = EndIs (end_of r.dump) r.stage.newest

dump_ends : (g : DumpState → Run → Result Run Refusal) → ((d : DumpState) (r : Run) → EndsNow r → EndIs d.mark r.stage.newest → Kept EndsNow (g d r)) → (r : Run) → EndsNow r → Kept EndsNow (in_dump g r.dump r)
dump_ends g h r p = by r.dump p
  where
    by : (o : Option DumpState) → EndIs (end_of o) r.stage.newest → Kept EndsNow (in_dump g o r)
    by None q = tt
    by (Some d) q = on r.outcome
      where
        on : (x : Outcome) → Kept EndsNow (still x g d r)
        on Done = h d r p q
        on (Renamed ts) = p
        on (Rolled a b) = p

copied_ends : (n : NsName) (k : ℕ) (d : DumpState) (r : Run) → EndsNow r → EndIs d.mark r.stage.newest → Kept EndsNow (copied n k d r)
copied_ends n k d r p h = by (map.get d.cursors n)
  where
    by : (o : Option Cursor) → Kept EndsNow (copied_by n k o d r)
    by None = tt
    by (Some x) = elim x.ended as (λ b. Kept EndsNow (elim b [ true ↦ Err NoCursor | false ↦ Ok (read_on n (looked k x (map.get r.stage.rows.tables n)) d r) ])) [ true ↦ tt | false ↦ h ]

marked_ends : (d : DumpState) (r : Run) → EndsNow r → EndIs d.mark r.stage.newest → Kept EndsNow (marked d r)
marked_ends d r p h =
    elim (is_some d.mark || not (all_ended d.cursors)) as (λ b. Kept EndsNow (elim b [ true ↦ Err NotNow | false ↦ Ok (marked_by (renamed_since d.start r.stage.renamed) d r) ])) [
      | true ↦ tt
      | false ↦ by (renamed_since d.start r.stage.renamed)
    ]
  where
    by : (o : Option Ts) → EndsNow (marked_by o d r)
    by (Some ts) = p
    by None = elim (is_gone d.start r.stage.oplog) as (λ b. EndsNow (elim b as (λ b. Run) [ true ↦ rolled d.start r | false ↦ record r { dump = Some (record d { mark = Some r.stage.newest }) } ])) [ true ↦ p | false ↦ inr refl ]

tailed_ends : (n : ℕ) (d : DumpState) (r : Run) → EndsNow r → EndIs d.mark r.stage.newest → Kept EndsNow (tailed n d r)
tailed_ends n d r p h = by d.mark
  where
    by : (o : Option Ts) → Kept EndsNow (tailed_to n o d r)
    by None = tt
    by (Some e) = elim d.closed as (λ b. Kept EndsNow (elim b [ true ↦ Err NotNow | false ↦ Ok (rolled_or d.start r.stage.oplog (rolled d.start r) (sent_on n (window d.start e (entries_from r)) d r)) ])) [
      | true ↦ tt
      | false ↦ elim (is_gone d.start r.stage.oplog) as (λ b. EndsNow (elim b as (λ b. Run) [ true ↦ rolled d.start r | false ↦ sent_on n (window d.start e (entries_from r)) d r ])) [ true ↦ p | false ↦ h ]
    ]

steps_end : StepsKeep EndsNow
steps_end (Cmd k) s r p = absurd s
steps_end Dump s r p = by r.dump
  where
    by : (o : Option DumpState) → Kept EndsNow (dumped o r)
    by None = inl refl
    by (Some d) = tt
steps_end (Copy n k) s r p = dump_ends (copied n k) (copied_ends n k) r p
steps_end Mark s r p = dump_ends marked marked_ends r p
steps_end (Tail n) s r p = dump_ends (tailed n) (tailed_ends n) r p

run_ends : (s : Schedule) → AreNoMarks s.lines → EndsNow (run s)
run_ends s n =
    let r = after_lines s.lines (first_run s.caps) in
    finished_keeps EndsNow steps_end r (inl (lines_unmarked s.lines (first_run s.caps) n refl))

pub ends_last : UnmarkedDumpsEndLast
ends_last s n done = by (done_marked s done) (run_ends s n)
  where
    by : IsTold (moments s).end_ts → EndIs (moments s).end_ts (run s).stage.newest → (moments s).end_ts ≡ Some (run s).stage.newest
    by t (inr e) = e
    by t (inl e) = absurd (none_not t.0 (sym e ∙ t.1))

-- ---- states

abbrev Rising : Stage → List Made → Type 0
Rising st ms = RisesTo first_ts ms st.newest

run_rises : (s : Schedule) → RisesTo first_ts (run s).made (run s).stage.newest
run_rises s =
    let r = after_lines s.lines (first_run s.caps) in
    finished_keeps (λ (t : Run). Rising t.stage t.made) (base_kept Rising) r (subst (Rising r.stage) (sym (lines_made s.lines (first_run s.caps))) (lines_rise s.lines (first_run s.caps)))

all_passed : (ms : List Made) → EachMade (λ (m : Made). is_up_to None m.ts ≡ true) ms
all_passed [] = tt
all_passed (m ∷ ms) = (refl, all_passed ms)

up_to_end : (o : Option Ts) (ms : List Made) (now : Ts) → RisesTo first_ts ms now → EndIs o now → EachMade (λ (m : Made). is_up_to o m.ts ≡ true) ms
up_to_end o ms now h (inl e) = subst (λ (z : Option Ts). EachMade (λ (m : Made). is_up_to z m.ts ≡ true) ms) (sym e) (all_passed ms)
up_to_end o ms now h (inr e) =
    subst (λ (z : Option Ts). EachMade (λ (m : Made). is_up_to z m.ts ≡ true) ms) (sym e)
    (each_map (λ (m : Made). earlier now m.ts ≡ false) (λ (m : Made). is_up_to (Some now) m.ts ≡ true) (λ m f. ap not f) ms (none_above ms first_ts now h))

and_true : (a b : Bool) → b ≡ true → (a && b) ≡ a
and_true true b e = e
and_true false b e = refl

same_passed : (l o : Option Ts) (ms : List Made) → EachMade (λ (m : Made). is_up_to o m.ts ≡ true) ms →
    filter (λ (e : Ts × Write). is_before l e.0 && is_up_to o e.0) (history_of ms) ≡ filter (λ (e : Ts × Write). is_before l e.0) (history_of ms)
same_passed l o [] h = refl
same_passed l o (m ∷ ms) h =
    let rest = filter (λ (e : Ts × Write). is_before l e.0 && is_up_to o e.0) (history_of ms) in
    ap (λ (b : Bool). cond b ((m.ts, m.write) ∷ rest) rest) (and_true (is_before l m.ts) (is_up_to o m.ts) h.0)
    ∙ ap (λ (z : List (Ts × Write)). cond (is_before l m.ts) ((m.ts, m.write) ∷ z) z) (same_passed l o ms h.1)

pub states_last : UnmarkedStatesAreLast
states_last s n l = ap state (same_passed l (moments s).end_ts (run s).made (up_to_end (moments s).end_ts (run s).made (run s).stage.newest (run_rises s) (run_ends s n)))
