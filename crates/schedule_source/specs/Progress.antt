-- How far the lines of a schedule were run up to a limit.
use Rattle.std.specs.Prelude.{◌≡◌, ℕ, List, [], ◌∷◌, ◌++◌, map as each, Bool, true, false, Option, Result, Ok, Err, if◌then◌else◌}
use Rattle.bson_value.specs.declared.value.Ts.{Ts}
use Rattle.coll_state.specs.Rows.{state_of}
use Rattle.schedule_model.specs.declared.line.Line.{Line}
use Rattle.schedule_model.specs.declared.line.Line.TheVariants.{Cmd}
use Rattle.schedule_model.specs.declared.refused.Refused.{Refused}
use Rattle.history_model.specs.Commands.{applied}
use Rattle.history_model.specs.Stages.{Caps, Stage, Made}
use Rattle.history_model.specs.Runs.{Schedule, Refusal, NotTaken, first_stage}
use Rattle.history_model.specs.Histories.{all_before, before, history_of, source, state}
use Rattle.store_core.specs.Stores.{StandsAt}
use Rattle.schedule_source.specs.declared.run.RefusedLine.{RefusedLine}
use Rattle.schedule_source.specs.declared.run.SourceRun.{SourceRun}
use Rattle.schedule_source.specs.Commands.{made_before}

-- what was made so far, and which lines were refused; it goes on where further commands are run
pub record Progress : Type 0 where
  pub goes : Bool
  pub stage : Stage
  pub made : List Made
  pub refused : List (ℕ × Refusal)

abbrev pub at_first : Caps → Progress
at_first c = record { goes = true; stage = first_stage c; made = []; refused = [] }

-- a command was made whole, or as far as it is before the limit
abbrev pub with_made : Bool → Option Ts → Stage → List Made → Progress → Progress
with_made true l st ms p = record { goes = p.goes; stage = st; made = p.made ++ ms; refused = p.refused }
with_made false l st ms p = record { goes = false; stage = p.stage; made = p.made ++ made_before l ms; refused = p.refused }

abbrev pub behind_command : Option Ts → ℕ → Result (Stage × List Made) Refused → Progress → Progress
behind_command l i (Ok x) p = with_made (all_before l x.1) l x.0 x.1 p
behind_command l i (Err x) p = record { goes = p.goes; stage = p.stage; made = p.made; refused = p.refused ++ ((i, NotTaken x) ∷ []) }

-- lines of the dump are passed over
unfoldable pub behind_line : Option Ts → ℕ × Line → Progress → Progress
behind_line l (i, Cmd c) p = if p.goes then behind_command l i (applied c p.stage) p else p
behind_line l (i, _) p = p

abbrev pub behind_lines : Option Ts → List (ℕ × Line) → Progress → Progress
behind_lines l [] p = p
behind_lines l (x ∷ xs) p = behind_lines l xs (behind_line l x p)

abbrev pub refusal_in : RefusedLine → ℕ × Refusal
refusal_in x = (x.number, NotTaken x.row)

-- a run came so far
pub record Reached (r : SourceRun) (p : Progress) : Type 0 where
  pub goes : r.goes_on ≡ p.goes
  pub refuses : each refusal_in r.refused ≡ p.refused
  pub makes : state_of r.store.rows ≡ state (history_of p.made)
  pub stands : p.goes ≡ true → StandsAt r.store p.stage

unfoldable pub RunsTo : SourceRun → Progress → Type 0
RunsTo r p = Reached r p

-- a line more was run
unfoldable pub Advances : Option Ts → ℕ × Line → SourceRun → SourceRun → Type 0
Advances l line old new = (p : Progress) → RunsTo old p → RunsTo new (behind_line l line p)

-- a run made and refused what the schedule makes and refuses up to the limit
pub record Makes (l : Option Ts) (s : Schedule) (r : SourceRun) : Type 0 where
  pub makes : state_of r.store.rows ≡ before s l
  pub refuses : each refusal_in r.refused ≡ (source l s).refused
