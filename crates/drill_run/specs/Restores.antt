-- The replay of an archive in memory, and what it makes of the dump of a drill.
use Rattle.std.specs.Prelude.{◌≡◌, ◌≤◌, ℕ, List, [], true, None}
use Rattle.state_model.specs.States.{State}
use Rattle.document_lines.specs.declared.form.ListForm.TheVariants.{Hex}
use Rattle.state_listing.specs.Listing.{listing}
use Rattle.restore_plan.specs.declared.plan.Plan.{Plan}
use Rattle.restore_plan.specs.Outcome.{restores, IsOutcome}
use Rattle.history_model.specs.Runs.{Done}
use Rattle.history_model.specs.Histories.{before, outcome}
use Rattle.dump_model.specs.Archives.{written}
use Rattle.drill_run.specs.Drills.{drilled}

-- all entries are replayed on all collections
abbrev pub whole_plan : Plan
whole_plan = record { filter = record { include = []; exclude = []; renames = [] }; replaying = true; limit = None }

-- the archive restores to a state
abbrev pub Restores : List ℕ → Type 0
Restores archive = (made : State) × IsOutcome whole_plan archive (restores made)

-- and this is the listing of such a state
abbrev pub IsListed : List ℕ → List ℕ → Type 0
IsListed archive text = (made : State) × IsOutcome whole_plan archive (restores made) × (text ≡ listing Hex made)

-- the dump is done, its archive restores to a state, and each such state is listed as the source
pub record Heals (n : ℕ) : Type 0 where
  pub done : outcome (drilled n) ≡ Done
  pub restored : Restores (written (drilled n))
  pub listed : (text : List ℕ) → IsListed (written (drilled n)) text → text ≡ listing Hex (before (drilled n) None)

abbrev pub DrillsHeal : Type 0
DrillsHeal = (n : ℕ) → 1 ≤ n → n ≤ 100000 → Heals n
