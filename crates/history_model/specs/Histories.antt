-- What a schedule means: projections of its run.
use Rattle.std.specs.Prelude.{ℕ, ◌+◌, length, List, [], ◌∷◌, ◌++◌, map as each, filter, Bool, true, false, ◌&&◌, Option, Some, None, Result, Ok, Err}
use Rattle.std.specs.List.{list_all}
use Rattle.std.specs.FinMap as map
use Rattle.bson_value.specs.declared.value.Ts.{Ts}
use Rattle.state_model.specs.States.{State}
use Rattle.schedule_model.specs.declared.line.Line.{Line}
use Rattle.schedule_model.specs.declared.line.Line.TheVariants.{Cmd}
use Rattle.schedule_model.specs.declared.refused.Refused.{Refused}
use Rattle.history_model.specs.Entries.{OplogEntry}
use Rattle.history_model.specs.Stages.{Stage, Made, Write, earlier, not_later, changed_by}
use Rattle.history_model.specs.Commands.{applied}
use Rattle.history_model.specs.Runs.{Schedule, Refusal, NotTaken, Run, DumpState, Outcome, Done, Renamed, Rolled, first_run, first_stage, after_line, finished, Step, Documents, Entries, run}

abbrev pub history_of : List Made → List (Ts × Write)
history_of ms = each (λ (m : Made). (m.ts, m.write)) ms

abbrev pub history : Schedule → List (Ts × Write)
history s = history_of (run s).made

abbrev pub refusals : Schedule → List (ℕ × Refusal)
refusals s = (run s).refused

-- the state of a history: its fold
abbrev pub state_from : State → List (Ts × Write) → State
state_from s [] = s
state_from s (e ∷ es) = state_from (changed_by e.1 s) es

abbrev pub state : List (Ts × Write) → State
state h = state_from map.empty h

abbrev pub is_before : Option Ts → Ts → Bool
is_before None ts = true
is_before (Some l) ts = earlier ts l

abbrev pub is_up_to : Option Ts → Ts → Bool
is_up_to None ts = true
is_up_to (Some e) ts = not_later ts e

-- the state of the writes before a limit, and of those not past the end of the window
abbrev pub before : Schedule → Option Ts → State
before s l = state (filter (λ (e : Ts × Write). is_before l e.0) (history s))

-- the moments, where the dump has come so far
pub record Moments : Type 0 where
  pub start : Option Ts
  pub last_read : Option Ts
  pub end_ts : Option Ts

abbrev pub moments_of : Option DumpState → Moments
moments_of None = record { start = None; last_read = None; end_ts = None }
moments_of (Some d) = record { start = Some d.start; last_read = Some d.last_read; end_ts = d.mark }

abbrev pub moments : Schedule → Moments
moments s = moments_of (run s).dump

abbrev pub at : Schedule → Option Ts → State
at s l = state (filter (λ (e : Ts × Write). is_before l e.0 && is_up_to (moments s).end_ts e.0) (history s))

abbrev pub outcome : Schedule → Outcome
outcome s = (run s).outcome

-- all steps of the dump in their order
abbrev pub reads : Schedule → List Step
reads s = (run s).steps

abbrev pub documents_in : List Step → ℕ
documents_in [] = 0
documents_in (Documents n rs b ∷ ss) = length rs + documents_in ss
documents_in (Entries es b ∷ ss) = documents_in ss

abbrev pub entries_in : List Step → ℕ
entries_in [] = 0
entries_in (Documents n rs b ∷ ss) = entries_in ss
entries_in (Entries es b ∷ ss) = length es + entries_in ss

-- the entries that were sent, in order
abbrev pub sent_in : List Step → List OplogEntry
sent_in [] = []
sent_in (Documents n rs b ∷ ss) = sent_in ss
sent_in (Entries es b ∷ ss) = es ++ sent_in ss

-- what a dump reports
pub record Report : Type 0 where
  pub came : Outcome
  pub at : Moments
  pub documents : ℕ
  pub entries : ℕ
  pub refused : List (ℕ × Refusal)

abbrev pub report_of : Run → Report
report_of r = record { came = r.outcome; at = moments_of r.dump; documents = documents_in r.steps; entries = entries_in r.steps; refused = r.refused }

abbrev pub report : Schedule → Report
report s = report_of (run s)

-- a dump that fails stops there: of the lines it has those up to the step that failed
abbrev pub stopped_by : Outcome → Run → Run → Run
stopped_by Done r going = going
stopped_by (Renamed ts) r going = r
stopped_by (Rolled a b) r going = r

abbrev pub stopped : List (ℕ × Line) → Run → Run
stopped [] r = finished r
stopped (l ∷ ls) r = stopped_by (after_line l r).outcome (after_line l r) (stopped ls (after_line l r))

abbrev pub refusals_told : Schedule → List (ℕ × Refusal)
refusals_told s = (stopped s.lines (first_run s.caps)).refused

-- what `source` makes and reports: the commands up to the first one that would record an entry that isn't before the limit, and of that one the entries that are
pub record Source : Type 0 where
  pub made : List Made
  pub refused : List (ℕ × Refusal)

abbrev pub after_made : List Made → Source → Source
after_made ms s = record { made = ms ++ s.made; refused = s.refused }

abbrev pub after_refusal : ℕ → Refused → Source → Source
after_refusal i x s = record { made = s.made; refused = (i, NotTaken x) ∷ s.refused }

abbrev pub all_before : Option Ts → List Made → Bool
all_before l ms = list_all (λ (m : Made). is_before l m.ts) ms

abbrev pub or_stop : Bool → Option Ts → List Made → Source → Source
or_stop true l ms rest = after_made ms rest
or_stop false l ms rest = record { made = filter (λ (m : Made). is_before l m.ts) ms; refused = [] }

abbrev pub source_by : Option Ts → ℕ → Result (Stage × List Made) Refused → Source → Source
source_by l i (Err x) rest = after_refusal i x rest
source_by l i (Ok x) rest = or_stop (all_before l x.1) l x.1 rest

abbrev pub stage_or : Stage → Result (Stage × List Made) Refused → Stage
stage_or st (Err x) = st
stage_or st (Ok x) = x.0

abbrev pub source_from : Option Ts → List (ℕ × Line) → Stage → Source
source_from l [] st = record { made = []; refused = [] }
source_from l ((i, Cmd k) ∷ ls) st = source_by l i (applied k st) (source_from l ls (stage_or st (applied k st)))
source_from l ((i, _) ∷ ls) st = source_from l ls st

abbrev pub source : Option Ts → Schedule → Source
source l s = source_from l s.lines (first_stage s.caps)
