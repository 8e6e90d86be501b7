-- What one line makes of a dump that goes on beside its store.
use Rattle.std.proofs.Common.{◌≡◌, ℕ, List, [], ◌∷◌, ◌++◌, refl, sym, ap, ◌∙◌, subst, append_assoc, append-nil, Option, Result, Ok, Err}
use Rattle.std.specs.Io.KnownBytes.{Appends}
use Rattle.tool_io.specs.Causes.{AppendsFront}
use Rattle.tool_io.specs.Ends.{End}
use Rattle.tool_io.proofs.Writes.{appends_none, appends_two, front_whole, front_first, front_next}
use Rattle.state_model.specs.States.{State}
use Rattle.archive_format.specs.Written.{prelude_text}
use Rattle.coll_state.specs.Rows.{state_of}
use Rattle.schedule_model.specs.declared.command.Command.{Command}
use Rattle.schedule_model.specs.declared.line.Line.{Line}
use Rattle.schedule_model.specs.declared.line.Line.TheVariants as lines
use Rattle.history_model.specs.Stages.{Stage, Made}
use Rattle.history_model.specs.Runs.{Schedule, Run, Step, DumpState, Outcome, Done, Renamed, Rolled, Refusal, NotNow, NoCursor, started, on_line, or_refused, after_line, after_lines, dumped, finished, run}
use Rattle.history_model.specs.Histories.{reads, outcome, stopped_by, stopped, refusals_told}
use Rattle.dump_model.specs.Archives.{header, metas_of, text_of_steps, written}
use Rattle.store_core.specs.Stores.{Stored, StandsAt}
use Rattle.dump_run.specs.declared.fault.DumpFault.{DumpFault}
use Rattle.dump_run.specs.declared.fault.DumpFault.TheVariants as steps
use Rattle.dump_run.specs.Dumps.{Dumping, Meets}
use Rattle.dump_run.specs.Calls.{steps_text, Writes, ComesTo, Marks, failed_with}
use Rattle.dump_run.specs.Calls as calls
use Rattle.dump_run.proofs.Repeating.{IsTurn, taken}
use Rattle.schedule_report.specs.Lines.{refusal_line, refusals_text}
use Rattle.schedule_dump.specs.declared.fault.RunFault.{RunFault}
use Rattle.schedule_dump.specs.declared.fault.RunFault.TheVariants as faults
use Rattle.schedule_dump.specs.Lines.{IsOfReport, TellsFront, Runs, Commands, Refuses, Settles}
use Rattle.schedule_dump.specs.Progress.{start_state, AtStart, Ends, ends, DuringDump}
use Rattle.schedule_dump.specs.Outcomes.{TellsFirst, WritesAll, WritesFront, Fails, RunsOn}
use Rattle.schedule_dump.proofs.Refused.{leaves}
use Rattle.schedule_dump.proofs.Grown.{rest_grows, rest_ends, failing_writes, mark_stays}
use Rattle.schedule_dump.proofs.Started.{starts_on}
use Rattle.schedule_dump.proofs.Reaching.{Beside, command_beside, refused_beside, refused_runs, refused_front, reached_on, line_stops, told_first, first_front}

-- ---- what is written

-- steps that write more
more_text : (t : State) (ss rs : List Step) (text : List ℕ) → steps_text ss ≡ steps_text rs ++ text → text_of_steps t ss ≡ text_of_steps t rs ++ text
more_text t ss rs text e = ap (λ (z : List ℕ). prelude_text header (metas_of t) ++ z) e ∙ sym (append_assoc (prelude_text header (metas_of t)) (steps_text rs) text)

-- a front of what was to be written behind these steps
pub written_front : (s : Schedule) (at : Run) (text more : List ℕ) (a b c : Option (List ℕ)) → Appends a b (text_of_steps (start_state s) at.steps) → steps_text (reads s) ≡ (steps_text at.steps ++ text) ++ more → AppendsFront b c text → AppendsFront a c (written s)
written_front s at text more a b c w e f =
    subst (AppendsFront a c) (sym (more_text (start_state s) (reads s) at.steps (text ++ more) (e ∙ append_assoc (steps_text at.steps) text more)))
    (front_next a b c (text_of_steps (start_state s) at.steps) (text ++ more) w (front_first b c text more f))

pub written_all : (s : Schedule) (at : Run) (text : List ℕ) (a b c : Option (List ℕ)) → Appends a b (text_of_steps (start_state s) at.steps) → steps_text (reads s) ≡ steps_text at.steps ++ text → Appends b c text → Appends a c (written s)
written_all s at text a b c w e f = subst (Appends a c) (sym (more_text (start_state s) (reads s) at.steps text e)) (appends_two a b c (text_of_steps (start_state s) at.steps) text w f)

-- what was written so far is a front of it
pub so_far : (s : Schedule) (at : Run) (rest : List (ℕ × Line)) (a b : Option (List ℕ)) → run s ≡ finished (after_lines rest at) → Appends a b (text_of_steps (start_state s) at.steps) → AppendsFront a b (written s)
so_far s at rest a b whole w =
    (let g = rest_grows rest at in
    subst (AppendsFront a b) (sym (more_text (start_state s) (reads s) at.steps g.0 (ap (λ (z : Run). steps_text z.steps) whole ∙ g.1)))
    (front_first a b (text_of_steps (start_state s) at.steps) g.0 (front_whole a b (text_of_steps (start_state s) at.steps) w)))

-- a dump stands where a command or a refused line leads
meets_rest : (d : Dumping) (r : Run) (st : Stage) (ms : List Made) (xs : List (ℕ × Refusal)) → Meets d r → Meets d (record r { stage = st; made = ms; refused = xs })
meets_rest d r st ms xs m =
    record {
      there = m.there;
      done = m.done;
      going = m.going;
      writers = m.writers;
      others = m.others;
      oplog_writer = m.oplog_writer;
      documents = m.documents;
      entries = m.entries;
      few = m.few;
    }

meets_beside : (d : Dumping) (r s : Run) → Beside r s → Meets d r → Meets d s
meets_beside d r s b m = subst (Meets d) (sym b.is) (meets_rest d r b.stage b.made b.refused m)

-- ---- the start

-- the state of the rows at the start
at_start : (s : Schedule) (store : Stored) (rest : List (ℕ × Line)) (first now : Option (List ℕ)) (w : AtStart s store rest first now) → state_of store.rows ≡ start_state s
at_start s store rest first now w = ap state_of w.reached.stands.rows ∙ starts_on s w.on rest w.ok w.reached.whole

pub goes_first : (s : Schedule) (store : Stored) (dump : Dumping) (rest : List (ℕ × Line)) (a b c d : Option (List ℕ)) → ((r : Run) → StandsAt store r.stage → r.steps ≡ [] → r.outcome ≡ Done → Meets dump (started r)) → Appends a b (prelude_text header (metas_of (state_of store.rows))) →
    AtStart s store rest c d → DuringDump s store dump rest (record { output = a; report = c }) (record { output = b; report = d })
goes_first s store dump rest a b c d begun p w =
    record {
      at = started w.on;
      meets = begun w.on w.reached.stands w.empty w.done;
      wrote = subst (Appends a b) (ap (λ (t : State). prelude_text header (metas_of t)) (at_start s store rest c d w) ∙ (sym (append-nil (prelude_text header (metas_of (start_state s)))) ∙ ap (text_of_steps (start_state s)) (sym w.empty))) p;
      reached = w.reached;
    }

-- some front of the prelude was written
pub start_front : (s : Schedule) (store : Stored) (rest : List (ℕ × Line)) (a b c d : Option (List ℕ)) → AppendsFront a b (prelude_text header (metas_of (state_of store.rows))) → AtStart s store rest c d → AppendsFront a b (written s)
start_front s store rest a b c d p w =
    front_first a b (prelude_text header (metas_of (start_state s))) (steps_text (reads s)) (subst (λ (t : State). AppendsFront a b (prelude_text header (metas_of t))) (at_start s store rest c d w) p)

pub start_told : (s : Schedule) (store : Stored) (rest : List (ℕ × Line)) (c d : Option (List ℕ)) → AtStart s store rest c d → TellsFirst s c d
start_told s store rest c d w = told_first s store (started w.on) rest c d w.reached

-- ---- one line

module _ (s : Schedule) (old : Stored) (dump : Dumping) (i : ℕ) (l : Line) (rest : List (ℕ × Line)) (first before : Ends) (g : DuringDump s old dump ((i, l) ∷ rest) first before) where
  -- a command or a refused line
  goes_by : (new : Stored) (after : Option (List ℕ)) → Beside g.at (after_line (i, l) g.at) → Runs (i, l) g.at new before.report after → DuringDump s new dump rest first (record { output = before.output; report = after })
  goes_by new after b runs =
      record {
        at = after_line (i, l) g.at;
        meets = meets_beside dump g.at (after_line (i, l) g.at) b g.meets;
        wrote = subst (λ (z : List Step). Appends first.output before.output (text_of_steps (start_state s) z)) (sym (ap (λ (z : Run). z.steps) b.is)) g.wrote;
        reached = reached_on s old (i, l) rest g.at first.report before.report after g.reached new (ap (λ (z : Run). z.outcome) b.is ∙ g.meets.done) runs;
      }

  -- the telling of it failed
  goes_stops : (f : RunFault) (after : Option (List ℕ)) → IsOfReport f → TellsFront (i, l) g.at before.report after → Fails f s first (record { output = before.output; report = after })
  goes_stops f after is w = by f is
    where
      fronts : WritesFront s first (record { output = before.output; report = after })
      fronts = (so_far s g.at ((i, l) ∷ rest) first.output before.output g.reached.whole g.wrote, line_stops s old (i, l) rest g.at first.report before.report after g.reached w)

      by : (f : RunFault) → IsOfReport f → Fails f s first (record { output = before.output; report = after })
      by faults.ReportFault h = fronts
      by faults.NoMemory h = fronts
      by faults.OutputFault h = absurd h
      by (faults.Renamed ts) h = absurd h
      by (faults.Rolled a b) h = absurd h

  pub refused_goes : (x : Refusal) (after : Option (List ℕ)) → on_line l g.at ≡ Err x → Appends before.report after (refusal_line (i, x)) → DuringDump s old dump rest first (record { output = before.output; report = after })
  refused_goes x after e a = goes_by old after (refused_beside i l x g.at e) (refused_runs i l x g.at old before.report after e g.reached.stands a)

  pub refused_fails : (x : Refusal) (f : RunFault) (after : Option (List ℕ)) → on_line l g.at ≡ Err x → IsOfReport f → AppendsFront before.report after (refusal_line (i, x)) → Fails f s first (record { output = before.output; report = after })
  refused_fails x f after e is a = goes_stops f after is (refused_front i l x g.at before.report after e a)

  -- a step of the dump
  module _ (turn : IsTurn l) where
    line_is : (t : Run) → on_line l g.at ≡ Ok t → after_line (i, l) g.at ≡ t
    line_is t e = ap (λ (y : Result Run Refusal). or_refused i y g.at) e

    pub step_goes : (new : Dumping) (after : Option (List ℕ)) → (t : Run) × (on_line l g.at ≡ Ok t) × Meets new t × Writes g.at t before.output after → DuringDump s old new rest first (record { output = after; report = before.report })
    step_goes new after w =
        (let is = line_is w.0 w.1 in
        record {
          at = after_line (i, l) g.at;
          meets = subst (Meets new) (sym is) w.2;
          wrote = subst (Appends first.output after) (sym (more_text (start_state s) (after_line (i, l) g.at).steps g.at.steps w.3.0 (ap (λ (z : Run). steps_text z.steps) is ∙ w.3.1)))
              (appends_two first.output before.output after (text_of_steps (start_state s) g.at.steps) w.3.0 g.wrote w.3.2);
          reached = reached_on s old (i, l) rest g.at first.report before.report before.report g.reached old (ap (λ (z : Run). z.outcome) is ∙ w.2.done) (
            subst (λ (z : Stage). StandsAt old z) (sym (ap (λ (z : Run). z.stage) is ∙ (taken s.caps l g.at w.0 turn w.1).later.stage)) g.reached.stands,
            ([], ap (λ (z : Run). z.refused) is ∙ (leaves l g.at w.0 w.1 ∙ sym (append-nil g.at.refused)), appends_none before.report),
          );
        })

    -- the run of the schedule goes on from it
    goes_to : (t : Run) → on_line l g.at ≡ Ok t → run s ≡ finished (after_lines rest t)
    goes_to t e = g.reached.whole ∙ ap (λ (z : Run). finished (after_lines rest z)) (line_is t e)

    -- a step that fails: all that the dump writes is written, and all refusals up to it are told
    failed_all : (t : Run) → on_line l g.at ≡ Ok t → (t.outcome ≡ Done → ⊥) → (outcome s ≡ t.outcome) × WritesAll s first before
    failed_all t e failed =
        (let ends = rest_ends rest t failed in
        let whole = goes_to t e in
        let same : reads s ≡ g.at.steps = ap (λ (z : Run). z.steps) whole ∙ (ends.1 ∙ failing_writes l g.at t turn e failed) in
        let told : refusals_told s ≡ g.at.refused = ap (λ (z : Run). z.refused) (g.reached.stops ∙ (ap (λ (z : Run). stopped_by z.outcome z (stopped rest z)) (line_is t e) ∙ stopped_here t.outcome t (stopped rest t) failed)) ∙ leaves l g.at t e in (
          ap (λ (z : Run). z.outcome) whole ∙ ends.0,
          (
            subst (λ (z : List Step). Appends first.output before.output (text_of_steps (start_state s) z)) (sym same) g.wrote,
            subst (λ (z : List (ℕ × Refusal)). Appends first.report before.report (refusals_text z)) (sym told) g.reached.told,
          ),
        ))
      where
        stopped_here : (o : Outcome) (r going : Run) → (o ≡ Done → ⊥) → stopped_by o r going ≡ r
        stopped_here Done r going f = absurd (f refl)
        stopped_here (Renamed ts) r going f = refl
        stopped_here (Rolled a b) r going f = refl

    pub renamed_fails : (ts : _) (t : Run) → on_line l g.at ≡ Ok t → t.outcome ≡ Renamed ts → Fails (faults.Renamed ts) s first before
    renamed_fails ts t e o = (let f = failed_all t e (λ h. not_done (sym o ∙ h)) in (f.0 ∙ o, f.1))
      where
        not_done : Renamed ts ≡ Done → ⊥
        not_done e = cc

    pub rolled_fails : (a b : _) (t : Run) → on_line l g.at ≡ Ok t → t.outcome ≡ Rolled a b → Fails (faults.Rolled a b) s first before
    rolled_fails a b t e o = (let f = failed_all t e (λ h. not_done (sym o ∙ h)) in (f.0 ∙ o, f.1))
      where
        not_done : Rolled a b ≡ Done → ⊥
        not_done e = cc

    -- the output failed, or there was no memory
    pub stopped_writes : (t : Run) (after : Option (List ℕ)) → on_line l g.at ≡ Ok t → calls.WritesFront g.at t before.output after → AppendsFront first.output after (written s)
    stopped_writes t after e w =
        (let more = rest_grows rest t in
        written_front s g.at w.0 more.0 first.output before.output after g.wrote (ap (λ (z : Run). steps_text z.steps) (goes_to t e) ∙ (more.1 ∙ ap (λ (z : List ℕ). z ++ more.0) w.1)) w.2)

    pub told_so_far : TellsFirst s first.report before.report
    told_so_far = told_first s old g.at ((i, l) ∷ rest) first.report before.report g.reached

-- what a step came to, and what the report is told of it
module _ (s : Schedule) (old : Stored) (dump : Dumping) (i : ℕ) (l : Line) (turn : IsTurn l) (rest : List (ℕ × Line)) (first : Ends) (o q : End) (g : DuringDump s old dump ((i, l) ∷ rest) first (ends o q)) where
  same_ends : (p v : End) → p ≡ o → v.bytes ≡ q.bytes → ends p v ≡ ends o q
  same_ends p v e f = λ j. record { output = (e j).bytes; report = f j }

  refused_says : (x : Refusal) (result : Result (Unit {0}) RunFault) (v : End) → on_line l g.at ≡ Err x → Refuses (i, x) result q.bytes v.bytes → RunsOn result s old dump rest first (ends o v)
  refused_says x (Ok u) v e t = refused_goes s old dump i l rest first (ends o q) g x v.bytes e t
  refused_says x (Err f) v e t = refused_fails s old dump i l rest first (ends o q) g x f v.bytes e t.0 t.1

  refused_settles : (x : Refusal) (result : Result (Unit {0}) RunFault) (new : Dumping) (p v : End) → on_line l g.at ≡ Err x → new ≡ dump → p ≡ o → Refuses (i, x) result q.bytes v.bytes → RunsOn result s old new rest first (ends p v)
  refused_settles x result new p v e n k t =
      subst (λ (z : Dumping). RunsOn result s old z rest first (ends p v)) (sym n) (subst (λ (z : End). RunsOn result s old dump rest first (ends z v)) (sym k) (refused_says x result v e t))

  failed_settles : (f : RunFault) (result : Result (Unit {0}) RunFault) (new : Dumping) (p v : End) → Fails f s first (ends p v) → result ≡ Err f → RunsOn result s old new rest first (ends p v)
  failed_settles f result new p v h e = subst (λ (z : Result (Unit {0}) RunFault). RunsOn z s old new rest first (ends p v)) (sym e) h

  pub settled : (step : Result (Unit {0}) DumpFault) (result : Result (Unit {0}) RunFault) (new : Dumping) (p v : End) → ComesTo step (on_line l g.at) g.at dump new o p → Settles i step result q.bytes v.bytes → RunsOn result s old new rest first (ends p v)
  settled (Ok u) result new p v c t =
      subst (λ (z : Result (Unit {0}) RunFault). RunsOn z s old new rest first (ends p v)) (sym t.0)
      (subst (λ (z : Option (List ℕ)). DuringDump s old new rest first (record { output = p.bytes; report = z })) (sym t.1) (step_goes s old dump i l rest first (ends o q) g turn new p.bytes c))
  settled (Err steps.NotNow) result new p v c t = refused_settles NotNow result new p v c.0 c.1 c.2 t
  settled (Err steps.NoCursor) result new p v c t = refused_settles NoCursor result new p v c.0 c.1 c.2 t
  settled (Err (steps.Renamed ts)) result new p v c t =
      failed_settles (faults.Renamed ts) result new p v (subst (Fails (faults.Renamed ts) s first) (sym (same_ends p v c.4 t.1)) (renamed_fails s old dump i l rest first (ends o q) g turn ts c.0 c.1 c.2)) t.0
  settled (Err (steps.Rolled a b)) result new p v c t =
      failed_settles (faults.Rolled a b) result new p v (subst (Fails (faults.Rolled a b) s first) (sym (same_ends p v c.4 t.1)) (rolled_fails s old dump i l rest first (ends o q) g turn a b c.0 c.1 c.2)) t.0
  settled (Err steps.WriteFault) result new p v c t =
      failed_settles faults.OutputFault result new p v (
        stopped_writes s old dump i l rest first (ends o q) g turn c.0 p.bytes c.1 c.3,
        subst (TellsFirst s first.report) (sym t.1) (told_so_far s old dump i l rest first (ends o q) g turn),
      ) t.0
  settled (Err steps.NoMemory) result new p v c t =
      failed_settles faults.NoMemory result new p v (
        stopped_writes s old dump i l rest first (ends o q) g turn c.0 p.bytes c.1 c.3,
        first_front s first.report v.bytes (subst (TellsFirst s first.report) (sym t.1) (told_so_far s old dump i l rest first (ends o q) g turn)),
      ) t.0

-- the mark as a step that writes nothing
pub marks_come : (step : Result (Unit {0}) DumpFault) (r : Run) (old new : Dumping) (o : End) → Marks step (on_line lines.Mark r) old new → ComesTo step (on_line lines.Mark r) r old new o o
marks_come (Ok u) r old new o m = (m.0, m.1, m.2, ([], ap steps_text (mark_stays r m.0 m.1) ∙ sym (append-nil (steps_text r.steps)), appends_none o.bytes))
marks_come (Err steps.NotNow) r old new o m = (m.0, m.1, refl)
marks_come (Err (steps.Renamed ts)) r old new o m = (m.0, m.1, m.2, m.3, refl)
marks_come (Err (steps.Rolled a b)) r old new o m = (m.0, m.1, m.2, m.3, refl)
marks_come (Err steps.NoCursor) r old new o m = absurd m
marks_come (Err steps.WriteFault) r old new o m = absurd m
marks_come (Err steps.NoMemory) r old new o m = absurd m

-- a command, and a second start
pub command_says : (s : Schedule) (old new : Stored) (dump : Dumping) (i : ℕ) (c : Command) (rest : List (ℕ × Line)) (first : Ends) (o q v : End) (result : Result (Unit {0}) RunFault) → Commands (i, lines.Cmd c) result old new q.bytes v.bytes → DuringDump s old dump ((i, lines.Cmd c) ∷ rest) first (ends o q) → RunsOn result s new dump rest first (ends o v)
command_says s old new dump i c rest first o q v (Ok u) f g = goes_by s old dump i (lines.Cmd c) rest first (ends o q) g new v.bytes (command_beside i c g.at) (f g.at g.reached.stands)
command_says s old new dump i c rest first o q v (Err f) h g = goes_stops s old dump i (lines.Cmd c) rest first (ends o q) g f v.bytes h.0 (h.1 g.at g.reached.stands)

pub second_start : (s : Schedule) (old : Stored) (dump : Dumping) (i : ℕ) (rest : List (ℕ × Line)) (first : Ends) (o q v : End) (result : Result (Unit {0}) RunFault) → Refuses (i, NotNow) result q.bytes v.bytes → DuringDump s old dump ((i, lines.Dump) ∷ rest) first (ends o q) → RunsOn result s old dump rest first (ends o v)
second_start s old dump i rest first o q v result t g = by result t
  where
    not_now : on_line lines.Dump g.at ≡ Err NotNow
    not_now = ap (λ (x : Option DumpState). dumped x g.at) g.meets.there

    by : (result : Result (Unit {0}) RunFault) → Refuses (i, NotNow) result q.bytes v.bytes → RunsOn result s old dump rest first (ends o v)
    by (Ok u) t = refused_goes s old dump i lines.Dump rest first (ends o q) g NotNow v.bytes not_now t
    by (Err f) t = refused_fails s old dump i lines.Dump rest first (ends o q) g NotNow f v.bytes not_now t.0 t.1
