-- What one line makes of how far lines were run.
use Rattle.std.proofs.Common.{◌≡◌, ℕ, List, [], ◌∷◌, ◌++◌, refl, sym, ap, ◌∙◌, subst, append_assoc, append-nil, Option, None, Result, Ok, Err, inl, inr}
use Rattle.std.specs.Prelude.{◌⊎◌}
use Rattle.bson_value.specs.declared.namespace.NsName.{NsName}
use Rattle.std.specs.Io.KnownBytes.{Appends}
use Rattle.std.proofs.lemmas.Grind.{flat_map-append}
use Rattle.tool_io.specs.Causes.{AppendsFront}
use Rattle.tool_io.proofs.Writes.{appends_none, appends_two, front_none, front_whole, front_first, front_next}
use Rattle.schedule_model.specs.declared.command.Command.{Command}
use Rattle.schedule_model.specs.declared.line.Line.{Line}
use Rattle.schedule_model.specs.declared.line.Line.TheVariants as lines
use Rattle.schedule_model.specs.declared.refused.Refused.{Refused}
use Rattle.history_model.specs.Stages.{Stage, Made}
use Rattle.history_model.specs.WellFormed.{AreWellFormedLines}
use Rattle.history_model.specs.Invariants.{RunOk}
use Rattle.history_model.specs.Laws.{RunsStayOk}
use Rattle.history_model.specs.Commands.{applied}
use Rattle.history_model.specs.Runs.{Schedule, Run, DumpState, Outcome, Done, Refusal, NotTaken, NotNow, first_run, first_stage, started, on_line, or_refused, after_line, after_lines, in_dump, copied, marked, tailed, dumped, commanded, names_in, copied_out, marked_out, tailed_out, begun, finished}
use Rattle.history_model.specs.Histories.{stopped_by, stopped, refusals_told}
use Rattle.history_model.proofs.WellFormed.{lines_front}
use Rattle.history_model.proofs.Inductive.{first_holds}
use Rattle.store_core.specs.Stores.{Stored, StandsAt}
use Rattle.store_core.specs.Applying.{AppliesAt, RefusesAt}
use Rattle.store_core.specs.declared.fault.StoreFault.{StoreFault}
use Rattle.store_core.specs.declared.fault.StoreFault.TheVariants as store_faults
use Rattle.schedule_report.specs.Lines.{refusal_line, refusals_text}
use Rattle.schedule_dump.specs.declared.fault.RunFault.{RunFault}
use Rattle.schedule_dump.specs.Lines.{TellsFront, Runs, Commands, Refuses}
use Rattle.schedule_dump.specs.Progress.{Progress, BeforeStart, AtStart}
use Rattle.schedule_dump.specs.Outcomes.{TellsFirst}
use Rattle.schedule_dump.proofs.Refused.{stopped_more, line_more}

-- ---- a line that is refused

refused_is : (i : ℕ) (l : Line) (x : Refusal) (r : Run) → on_line l r ≡ Err x → after_line (i, l) r ≡ record r { refused = r.refused ++ ((i, x) ∷ []) }
refused_is i l x r e = ap (λ (y : Result Run Refusal). or_refused i y r) e

one_text : (x : ℕ × Refusal) → refusal_line x ≡ refusals_text (x ∷ [])
one_text x = sym (append-nil (refusal_line x))

pub refused_runs : (i : ℕ) (l : Line) (x : Refusal) (r : Run) (store : Stored) (before after : Option (List ℕ)) → on_line l r ≡ Err x → StandsAt store r.stage → Appends before after (refusal_line (i, x)) → Runs (i, l) r store before after
refused_runs i l x r store before after e at a = (
  subst (λ (z : Run). StandsAt store z.stage) (sym (refused_is i l x r e)) at,
  ((i, x) ∷ [], ap (λ (z : Run). z.refused) (refused_is i l x r e), subst (Appends before after) (one_text (i, x)) a),
)

pub refused_front : (i : ℕ) (l : Line) (x : Refusal) (r : Run) (before after : Option (List ℕ)) → on_line l r ≡ Err x → AppendsFront before after (refusal_line (i, x)) → TellsFront (i, l) r before after
refused_front i l x r before after e a = ((i, x) ∷ [], ap (λ (z : Run). z.refused) (refused_is i l x r e), subst (AppendsFront before after) (one_text (i, x)) a)

-- ---- a command

pub applied_runs : (i n : ℕ) (c : Command) (r : Run) (store : Stored) (before : Option (List ℕ)) → AppliesAt c r.stage n store → Runs (i, lines.Cmd c) r store before before
applied_runs i n c r store before a = (
  subst (λ (z : Run). StandsAt store z.stage) (sym is) a.stands,
  ([], ap (λ (z : Run). z.refused) is ∙ sym (append-nil r.refused), appends_none before),
)
  where
    is : after_line (i, lines.Cmd c) r ≡ record r { stage = a.after; made = r.made ++ a.made }
    is = ap (λ (y : Result (Stage × List Made) Refused). or_refused i (commanded y r) r) a.accepted

pub row_refuses : (c : Command) (row : Refused) (r : Run) → applied c r.stage ≡ Err row → on_line (lines.Cmd c) r ≡ Err (NotTaken row)
row_refuses c row r e = ap (λ (y : Result (Stage × List Made) Refused). commanded y r) e

-- nothing of a command was done
pub command_front : (i : ℕ) (c : Command) (r : Run) (before : Option (List ℕ)) → TellsFront (i, lines.Cmd c) r before before
command_front i c r before = by (applied c r.stage)
  where
    by : (y : Result (Stage × List Made) Refused) → (now : List (ℕ × Refusal)) × ((or_refused i (commanded y r) r).refused ≡ r.refused ++ now) × AppendsFront before before (refusals_text now)
    by (Ok x) = ([], sym (append-nil r.refused), front_none before [])
    by (Err x) = ((i, NotTaken x) ∷ [], refl, front_none before (refusals_text ((i, NotTaken x) ∷ [])))

-- a command that the store refused
pub refused_command : (i : ℕ) (c : Command) (row : Refused) (fault : StoreFault) (old new : Stored) (before after : Option (List ℕ)) (result : Result (Unit {0}) RunFault) → fault ≡ store_faults.Refused row → ((st : Stage) → StandsAt old st → RefusesAt c st fault) → new ≡ old →
    Refuses (i, NotTaken row) result before after → Commands (i, lines.Cmd c) result old new before after
refused_command i c row fault old new before after result is f same t = by result t
  where
    line : (r : Run) → StandsAt old r.stage → on_line (lines.Cmd c) r ≡ Err (NotTaken row)
    line r at = row_refuses c row r (subst (RefusesAt c r.stage) is (f r.stage at))

    by : (result : Result (Unit {0}) RunFault) → Refuses (i, NotTaken row) result before after → Commands (i, lines.Cmd c) result old new before after
    by (Ok u) t = λ r at. refused_runs i (lines.Cmd c) (NotTaken row) r new before after (line r at) (subst (λ (z : Stored). StandsAt z r.stage) (sym same) at) t
    by (Err e) t = (t.0, λ r at. refused_front i (lines.Cmd c) (NotTaken row) r before after (line r at) t.1)

-- a command and a refused line leave the dump as it stands
pub record Beside (r s : Run) : Type 0 where
  pub stage : Stage
  pub made : List Made
  pub refused : List (ℕ × Refusal)
  pub is : s ≡ record r { stage = stage; made = made; refused = refused }

pub command_beside : (i : ℕ) (c : Command) (r : Run) → Beside r (after_line (i, lines.Cmd c) r)
command_beside i c r = by (applied c r.stage)
  where
    by : (y : Result (Stage × List Made) Refused) → Beside r (or_refused i (commanded y r) r)
    by (Ok x) = record { stage = x.0; made = r.made ++ x.1; refused = r.refused; is = refl }
    by (Err x) = record { stage = r.stage; made = r.made; refused = r.refused ++ ((i, NotTaken x) ∷ []); is = refl }

pub refused_beside : (i : ℕ) (l : Line) (x : Refusal) (r : Run) → on_line l r ≡ Err x → Beside r (after_line (i, l) r)
refused_beside i l x r e = record { stage = r.stage; made = r.made; refused = r.refused ++ ((i, x) ∷ []); is = refused_is i l x r e }

-- ---- how far

told_two : (xs ys : List (ℕ × Refusal)) → refusals_text (xs ++ ys) ≡ refusals_text xs ++ refusals_text ys
told_two xs ys = flat_map-append refusal_line xs ys

module _ (s : Schedule) (old : Stored) (line : ℕ × Line) (rest : List (ℕ × Line)) (at : Run) (first before after : Option (List ℕ)) (r : Progress s old at (line ∷ rest) first before) where
  pub reached_on : (new : Stored) → (after_line line at).outcome ≡ Done → Runs line at new before after → Progress s new (after_line line at) rest first after
  reached_on new done w =
      record {
        stands = w.0;
        good = λ front back e. r.good (line ∷ front) back (ap (λ (z : List (ℕ × Line)). line ∷ z) e);
        whole = r.whole;
        stops = r.stops ∙ ap (λ (o : Outcome). stopped_by o (after_line line at) (stopped rest (after_line line at))) done;
        told = subst (Appends first after) (sym (ap refusals_text w.1.1 ∙ told_two at.refused w.1.0)) (appends_two first before after (refusals_text at.refused) (refusals_text w.1.0) r.told w.1.2);
      }

  -- the telling of it failed
  pub line_stops : TellsFront line at before after → AppendsFront first after (refusals_text (refusals_told s))
  line_stops w =
      (let more = line_more line rest at in
      let is : refusals_told s ≡ at.refused ++ (w.0 ++ more.0) = ap (λ (z : Run). z.refused) r.stops ∙ (more.1 ∙ (ap (λ (z : List (ℕ × Refusal)). z ++ more.0) w.1 ∙ append_assoc at.refused w.0 more.0)) in
      subst (AppendsFront first after) (sym (ap refusals_text is ∙ (told_two at.refused (w.0 ++ more.0) ∙ ap (λ (z : List ℕ). refusals_text at.refused ++ z) (told_two w.0 more.0))))
      (front_next first before after (refusals_text at.refused) (refusals_text w.0 ++ refusals_text more.0) r.told (front_first before after (refusals_text w.0) (refusals_text more.0) w.2)))

-- some first lines of those that are refused are told
pub told_first : (s : Schedule) (store : Stored) (at : Run) (rest : List (ℕ × Line)) (first now : Option (List ℕ)) → Progress s store at rest first now → TellsFirst s first now
told_first s store at rest first now r =
    (let more = stopped_more rest at in
    (at.refused, more.0, ap (λ (z : Run). z.refused) r.stops ∙ more.1, r.told))

pub first_front : (s : Schedule) (first now : Option (List ℕ)) → TellsFirst s first now → AppendsFront first now (refusals_text (refusals_told s))
first_front s first now w =
    subst (AppendsFront first now) (sym (ap refusals_text w.2 ∙ told_two w.0 w.1)) (front_first first now (refusals_text w.0) (refusals_text w.1) (front_whole first now (refusals_text w.0) w.3))

-- ---- before the dump starts

-- a step of it
abbrev pub IsEarly : Line → Type 0
IsEarly l = ((n : NsName) × (k : ℕ) × (l ≡ lines.Copy n k)) ⊎ ((l ≡ lines.Mark) ⊎ ((n : ℕ) × (l ≡ lines.Tail n)))

early : (l : Line) (r : Run) → IsEarly l → r.dump ≡ None → on_line l r ≡ Err NotNow
early l r (inl h) e = ap (λ (x : Line). on_line x r) h.2 ∙ ap (λ (o : Option DumpState). in_dump (copied h.0 h.1) o r) e
early l r (inr (inl h)) e = ap (λ (x : Line). on_line x r) h ∙ ap (λ (o : Option DumpState). in_dump marked o r) e
early l r (inr (inr h)) e = ap (λ (x : Line). on_line x r) h.1 ∙ ap (λ (o : Option DumpState). in_dump (tailed h.0) o r) e

pub at_first : (s : Schedule) (store : Stored) (a : Option (List ℕ)) → RunsStayOk → AreWellFormedLines s.lines → StandsAt store (first_stage s.caps) → BeforeStart s store s.lines a a
at_first s store a stay formed stands =
    record {
      at = first_run s.caps;
      none = refl;
      empty = refl;
      done = refl;
      reached = record {
        stands = stands;
        good = λ front back e. stay s.caps front (first_run s.caps) (lines_front front back (subst AreWellFormedLines e formed)) (first_holds s.caps, tt);
        whole = refl;
        stops = refl;
        told = appends_none a;
      };
    }

module _ (s : Schedule) (old : Stored) (i : ℕ) (l : Line) (rest : List (ℕ × Line)) (first before after : Option (List ℕ)) (w : BeforeStart s old ((i, l) ∷ rest) first before) where
  waits_by : (new : Stored) → Beside w.at (after_line (i, l) w.at) → Runs (i, l) w.at new before after → BeforeStart s new rest first after
  waits_by new b runs =
      record {
        at = after_line (i, l) w.at;
        none = ap (λ (z : Run). z.dump) b.is ∙ w.none;
        empty = ap (λ (z : Run). z.steps) b.is ∙ w.empty;
        done = ap (λ (z : Run). z.outcome) b.is ∙ w.done;
        reached = reached_on s old (i, l) rest w.at first before after w.reached new (ap (λ (z : Run). z.outcome) b.is ∙ w.done) runs;
      }

  not_now : IsEarly l → on_line l w.at ≡ Err NotNow
  not_now h = early l w.at h w.none

  -- a step of the dump has no place
  pub waits_refused : IsEarly l → Appends before after (refusal_line (i, NotNow)) → BeforeStart s old rest first after
  waits_refused h a = waits_by old (refused_beside i l NotNow w.at (not_now h)) (refused_runs i l NotNow w.at old before after (not_now h) w.reached.stands a)

  pub waits_stops : IsEarly l → AppendsFront before after (refusal_line (i, NotNow)) → AppendsFront first after (refusals_text (refusals_told s))
  waits_stops h a = line_stops s old (i, l) rest w.at first before after w.reached (refused_front i l NotNow w.at before after (not_now h) a)

pub waits_command : (s : Schedule) (old new : Stored) (i : ℕ) (c : Command) (rest : List (ℕ × Line)) (first before after : Option (List ℕ)) → ((r : Run) → StandsAt old r.stage → Runs (i, lines.Cmd c) r new before after) → BeforeStart s old ((i, lines.Cmd c) ∷ rest) first before → BeforeStart s new rest first after
waits_command s old new i c rest first before after f w = waits_by s old i (lines.Cmd c) rest first before after w new (command_beside i c w.at) (f w.at w.reached.stands)

pub waits_command_stops : (s : Schedule) (old : Stored) (i : ℕ) (c : Command) (rest : List (ℕ × Line)) (first before after : Option (List ℕ)) → ((r : Run) → StandsAt old r.stage → TellsFront (i, lines.Cmd c) r before after) → BeforeStart s old ((i, lines.Cmd c) ∷ rest) first before →
    AppendsFront first after (refusals_text (refusals_told s))
waits_command_stops s old i c rest first before after f w = line_stops s old (i, lines.Cmd c) rest w.at first before after w.reached (f w.at w.reached.stands)

-- ---- the start

pub starts_here : (s : Schedule) (store : Stored) (i : ℕ) (rest : List (ℕ × Line)) (first now : Option (List ℕ)) → BeforeStart s store ((i, lines.Dump) ∷ rest) first now → AtStart s store rest first now
starts_here s store i rest first now w =
    (let r = w.reached in
    let is : after_line (i, lines.Dump) w.at ≡ started w.at = ap (λ (o : Option DumpState). or_refused i (dumped o w.at) w.at) w.none in
    record {
      on = w.at;
      empty = w.empty;
      done = w.done;
      ok = r.good [] ((i, lines.Dump) ∷ rest) refl;
      reached = record {
        stands = r.stands;
        good = λ front back e. subst (λ (z : Run). RunOk s.caps (after_lines front z)) is (r.good ((i, lines.Dump) ∷ front) back (ap (λ (z : List (ℕ × Line)). (i, lines.Dump) ∷ z) e));
        whole = r.whole ∙ ap (λ (z : Run). finished (after_lines rest z)) is;
        stops = r.stops ∙ (ap (λ (z : Run). stopped_by z.outcome z (stopped rest z)) is ∙ ap (λ (o : Outcome). stopped_by o (started w.at) (stopped rest (started w.at))) w.done);
        told = r.told;
      };
    })

ends_good : (s : Schedule) (at : Run) → RunOk s.caps at → (front back : List (ℕ × Line)) → [] ≡ front ++ back → RunOk s.caps (after_lines front (started at))
ends_good s at ok [] back e = (ok.0, tt)
ends_good s at ok (l ∷ ls) back e = cc

starts_at_none : (s : Schedule) (store : Stored) (first now : Option (List ℕ)) → BeforeStart s store [] first now → AtStart s store [] first now
starts_at_none s store first now w =
    (let r = w.reached in
    let is : finished w.at ≡ finished (started w.at) = ap (λ (o : Option DumpState). tailed_out (marked_out (copied_out (names_in (begun o w.at).dump) (begun o w.at)))) w.none in
    let ok : RunOk s.caps w.at = r.good [] [] refl in
    record {
      on = w.at;
      empty = w.empty;
      done = w.done;
      ok = ok;
      reached = record {
        stands = r.stands;
        good = λ front back e. ends_good s w.at ok front back e;
        whole = r.whole ∙ is;
        stops = r.stops ∙ is;
        told = r.told;
      };
    })

pub starts_at_end : (s : Schedule) (store : Stored) (rest : List (ℕ × Line)) (first now : Option (List ℕ)) → rest ≡ [] → BeforeStart s store rest first now → AtStart s store rest first now
starts_at_end s store rest first now e w =
    subst (λ (z : List (ℕ × Line)). AtStart s store z first now) (sym e) (starts_at_none s store first now (subst (λ (z : List (ℕ × Line)). BeforeStart s store z first now) e w))
