-- Tests of an index over documents: whether two of them have a key in common, and whether in one of them two fields meet an array.
use Rattle.std.specs.Prelude.{◌≡◌, ℕ, List, [], ◌∷◌, Bool, true, false, ◌&&◌, ◌||◌, Option, Some, None, is_some}
use Rattle.std.specs.List.{list_any}
use Rattle.index_keys.specs.declared.plan.Plan.{Plan}
use Rattle.index_keys.specs.Keys.{Fields, parallel}
use Rattle.index_keys.specs.Texts.{key_texts}
use Rattle.index_build.specs.declared.fault.CountFault.{CountFault}
use Rattle.index_build.specs.declared.fault.CountFault.TheVariants as faults
use Rattle.history_model.specs.Refusals.{meet}
use Rattle.command_refusals.specs.declared.clashes.Verdict.{Verdict}
use Rattle.command_refusals.specs.declared.clashes.Verdict.TheVariants as verdicts

abbrev pub is_parallel : Plan → Fields → Bool
is_parallel plan d = is_some (parallel plan d)

-- the keys as texts; a document in which two fields meet an array has none
abbrev pub texts : Plan → Fields → List (List ℕ)
texts plan d = elim (is_parallel plan d) [ true ↦ [] | false ↦ key_texts plan d ]

abbrev pub clashes : Plan → List Fields → Bool
clashes plan [] = false
clashes plan (d ∷ ds) = list_any (λ e. meet (texts plan d) (texts plan e)) ds || clashes plan ds

-- an index that isn't built refuses nothing
abbrev pub unique_clash : Option Plan → List Fields → Bool
unique_clash None ds = false
unique_clash (Some plan) ds = plan.unique && clashes plan ds

abbrev pub any_parallel : Option Plan → List Fields → Bool
any_parallel None ds = false
any_parallel (Some plan) ds = list_any (is_parallel plan) ds

-- of one document
abbrev pub parallel_alone : Option Plan → Fields → Bool
parallel_alone None d = false
parallel_alone (Some plan) d = is_parallel plan d

-- what a fault says; want of memory says nothing
abbrev pub told_by : CountFault → Option Verdict
told_by (faults.Parallel n i a) = Some verdicts.Parallel
told_by (faults.Duplicate n i a b) = Some verdicts.Shared
told_by faults.NoMemory = None

abbrev pub is_shared : Verdict → Bool
is_shared verdicts.Shared = true
is_shared _ = false

-- the first that is told: a document in which two fields meet an array, or else two with a key in common
abbrev pub Says : Verdict → Option Plan → List Fields → Type 0
Says verdicts.Apart o ds = (any_parallel o ds ≡ false) × (unique_clash o ds ≡ false)
Says verdicts.Parallel o ds = any_parallel o ds ≡ true
Says verdicts.Shared o ds = (any_parallel o ds ≡ false) × (unique_clash o ds ≡ true)
