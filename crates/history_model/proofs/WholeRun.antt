-- A whole run is the lines behind the start of its dump, those that are still to do among them.
use Rattle.std.proofs.Common.{◌≡◌, ℕ, zero, suc, List, [], ◌∷◌, ◌++◌, refl, sym, ap, ◌∙◌, subst, length, Option, Some, None, Result, Ok, Err}
use Rattle.std.specs.FinMap as map
use Rattle.bson_value.specs.declared.namespace.NsName.{NsName}
use Rattle.bson_value.specs.declared.value.Ts.{Ts}
use Rattle.schedule_model.specs.declared.command.Command.{Command}
use Rattle.schedule_model.specs.declared.line.Line.{Line}
use Rattle.schedule_model.specs.declared.line.Line.TheVariants.{Cmd, Dump, Copy, Mark, Tail}
use Rattle.schedule_model.specs.declared.refused.Refused.{Refused}
use Rattle.history_model.specs.Stages.{Caps, Stage, Made}
use Rattle.history_model.specs.Commands.{applied}
use Rattle.history_model.specs.Runs.{Schedule, Refusal, DumpState, Run, first_run, started, copied, marked, tailed, in_dump, dumped, commanded, on_line, or_refused, after_line, after_lines, repeated, last_step, names_in, rows_left, copied_out, begun, marked_out, finished, run}
use Rattle.history_model.specs.Invariants.{RunOk}
use Rattle.update_records.specs.Laws.{UpdatesRecord}
use Rattle.history_model.specs.WellFormed.{IsWellFormedLine, AreWellFormedLines}
use Rattle.history_model.proofs.WellFormed.{lines_join}
use Rattle.history_model.specs.Laws.{StartedOn}
use Rattle.history_model.proofs.Runs.{lines_good}
use Rattle.history_model.proofs.Inductive.{first_holds}
use Rattle.history_model.proofs.AtTheMark.{StartIs, lines_start}

times : ℕ → Line → List (ℕ × Line)
times zero l = []
times (suc k) l = (0, l) ∷ times k l

pub lines_append : (xs ys : List (ℕ × Line)) (r : Run) → after_lines (xs ++ ys) r ≡ after_lines ys (after_lines xs r)
lines_append [] ys r = refl
lines_append (x ∷ xs) ys r = lines_append xs ys (after_line x r)

pub repeated_lines : (l : Line) (n : ℕ) (r : Run) → IsWellFormedLine l → (ls : List (ℕ × Line)) × (repeated n (on_line l) r ≡ after_lines ls r) × AreWellFormedLines ls
repeated_lines l zero r w = ([], refl, tt)
repeated_lines l (suc n) r w = by (on_line l r) refl (λ s. repeated_lines l n s w)
  where
    by : (x : Result Run Refusal) → on_line l r ≡ x → ((s : Run) → (ls : List (ℕ × Line)) × (repeated n (on_line l) s ≡ after_lines ls s) × AreWellFormedLines ls) →
        (ls : List (ℕ × Line)) × (elim x as (λ x. Run) [ Ok s ↦ repeated n (on_line l) s | Err y ↦ r ] ≡ after_lines ls r) × AreWellFormedLines ls
    by (Ok s) e rest = (let g = rest s in ((0, l) ∷ g.0, g.1 ∙ ap (λ (x : Result Run Refusal). after_lines g.0 (or_refused 0 x r)) (sym e), (w, g.2)))
    by (Err y) e rest = ([], refl, tt)

copied_lines : (ns : List NsName) (r : Run) → (ls : List (ℕ × Line)) × (copied_out ns r ≡ after_lines ls r) × AreWellFormedLines ls
copied_lines [] r = ([], refl, tt)
copied_lines (n ∷ ns) r =
    (let a = repeated_lines (Copy n last_step) (suc (rows_left (map.get r.stage.rows.tables n))) r tt in
    let b = copied_lines ns (repeated (suc (rows_left (map.get r.stage.rows.tables n))) (on_line (Copy n last_step)) r) in
    (a.0 ++ b.0, b.1 ∙ (ap (after_lines b.0) a.1 ∙ sym (lines_append a.0 b.0 r)), lines_join a.0 b.0 a.2 b.2))

pub finished_lines : (r : Run) → (ls : List (ℕ × Line)) × (finished r ≡ after_lines ls (begun r.dump r)) × AreWellFormedLines ls
finished_lines r =
    (let s = begun r.dump r in
    let a = copied_lines (names_in s.dump) s in
    let t = copied_out (names_in s.dump) s in
    let b = repeated_lines Mark 1 t tt in
    let u = marked_out t in
    let c = repeated_lines (Tail last_step) (suc (length u.made)) u tt in
    (a.0 ++ (b.0 ++ c.0), c.1 ∙ (ap (after_lines c.0) (b.1 ∙ ap (after_lines b.0) a.1) ∙ (sym (lines_append b.0 c.0 (after_lines a.0 s)) ∙ sym (lines_append a.0 (b.0 ++ c.0) s))), lines_join a.0 (b.0 ++ c.0) a.2 (lines_join b.0 c.0 b.2 c.2)))

pub is_begun : (ts : Ts) (o : Option DumpState) (r : Run) → StartIs ts o → begun o r ≡ r
is_begun ts None r h = absurd h
is_begun ts (Some d) r h = refl

-- before a dump starts nothing of it comes
abbrev pub NotStarted : Run → Type 0
NotStarted r = (r.dump ≡ None) × (r.steps ≡ [])

not_yet : (i : ℕ) (g : DumpState → Run → Result Run Refusal) (r : Run) → NotStarted r → NotStarted (or_refused i (in_dump g r.dump r) r)
not_yet i g r h = subst (λ (o : Option DumpState). NotStarted (or_refused i (in_dump g o r) r)) (sym h.0) h

command_not : (i : ℕ) (k : Command) (r : Run) → NotStarted r → NotStarted (after_line (i, Cmd k) r)
command_not i k r h = by (applied k r.stage)
  where
    by : (y : Result (Stage × List Made) Refused) → NotStarted (or_refused i (commanded y r) r)
    by (Err x) = h
    by (Ok x) = h

found_start : UpdatesRecord → (c : Caps) (ls : List (ℕ × Line)) (r : Run) → AreWellFormedLines ls → RunOk c r → NotStarted r → StartedOn c (finished (after_lines ls r))
found_start sound c [] r w ok h =
    (let f = finished_lines r in record { on = r; lines = f.0; formed = f.2; ok = ok; none = h.1; whole = f.1 ∙ ap (λ (o : Option DumpState). after_lines f.0 (begun o r)) h.0 })
found_start sound c ((i, Dump) ∷ ls) r w ok h =
    (let x = after_lines ls (started r) in
    let f = finished_lines x in
    let now : after_line (i, Dump) r ≡ started r = ap (λ (o : Option DumpState). or_refused i (dumped o r) r) h.0 in
    let s = lines_start r.stage.newest ls (started r) refl in
    record {
      on = r;
      lines = ls ++ f.0;
      formed = lines_join ls f.0 w.1 f.2;
      ok = ok;
      none = h.1;
      whole = ap (λ (z : Run). finished (after_lines ls z)) now ∙ (f.1 ∙ (ap (after_lines f.0) (is_begun r.stage.newest x.dump x s) ∙ sym (lines_append ls f.0 (started r))));
    })
found_start sound c ((i, Cmd k) ∷ ls) r w ok h = found_start sound c ls (after_line (i, Cmd k) r) w.1 (lines_good sound c ((i, Cmd k) ∷ []) r (w.0, tt) ok) (command_not i k r h)
found_start sound c ((i, Copy n k) ∷ ls) r w ok h = found_start sound c ls (after_line (i, Copy n k) r) w.1 (lines_good sound c ((i, Copy n k) ∷ []) r (w.0, tt) ok) (not_yet i (copied n k) r h)
found_start sound c ((i, Mark) ∷ ls) r w ok h = found_start sound c ls (after_line (i, Mark) r) w.1 (lines_good sound c ((i, Mark) ∷ []) r (w.0, tt) ok) (not_yet i marked r h)
found_start sound c ((i, Tail n) ∷ ls) r w ok h = found_start sound c ls (after_line (i, Tail n) r) w.1 (lines_good sound c ((i, Tail n) ∷ []) r (w.0, tt) ok) (not_yet i (tailed n) r h)

pub run_started : UpdatesRecord → (s : Schedule) → AreWellFormedLines s.lines → StartedOn s.caps (run s)
run_started sound s w = found_start sound s.caps s.lines (first_run s.caps) w (first_holds s.caps, tt) (refl, refl)
