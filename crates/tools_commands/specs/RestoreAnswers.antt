-- What `restore` says of the ends, by its status.
use Rattle.std.specs.Prelude.{◌≡◌, ◌⊎◌, ℕ, List, [], Some}
use Rattle.state_model.specs.States.{State}
use Rattle.state_listing.specs.Listing.{listing}
use Rattle.restore_plan.specs.declared.plan.Plan.{Plan}
use Rattle.restore_plan.specs.declared.fault.RestoreFault.{RestoreFault}
use Rattle.restore_plan.specs.Outcome.{Outcome, restores, refuses, fails, IsOutcome, IsReadTo, IsRefused, IsMet, IsUnsettled, OnInput}
use Rattle.tools_words.specs.declared.order.RestoreOrder.{RestoreOrder}
use Rattle.tools_commands.specs.declared.status.Status.{Status}
use Rattle.tools_commands.specs.declared.status.Status.TheVariants as is
use Rattle.tools_commands.specs.Statuses.{Gives, restore_code}
use Rattle.tools_commands.specs.Ends.{Turn, Same, Untouched, Failed, Writes, WritesFront}

-- What was read, where the input is known: all of it, or no more than the window behind what was taken.

abbrev pub ReadsAll : Turn → Type 0
ReadsAll input = OnInput input.before.bytes (λ all. input.after.bytes ≡ Some [])

abbrev pub ReadsSome : Plan → Turn → Type 0
ReadsSome plan input = OnInput input.before.bytes (λ all. (input.after.bytes ≡ Some []) ⊎ IsReadTo plan all input.after.bytes)

-- an input that is refused, and how far it was read
abbrev pub Refused : Plan → Turn → Outcome → Type 0
Refused plan input o = OnInput input.before.bytes (λ all. IsRefused plan all input.after.bytes o)

-- an input that isn't restored for this fault, and how far it was read
abbrev pub Fails : Plan → Turn → RestoreFault → Type 0
Fails plan input f = OnInput input.before.bytes (λ all. IsMet plan all input.after.bytes f)

-- no refusal lies in what was read
abbrev pub Unsettled : Plan → Turn → Type 0
Unsettled plan input = OnInput input.before.bytes (λ all. IsUnsettled plan all input.after.bytes)

abbrev pub HasOutcome : Plan → Turn → Outcome → Type 0
HasOutcome plan input o = OnInput input.before.bytes (λ all. IsOutcome plan all o)

-- What is written: the listing of the state that the input restores to.

abbrev pub IsListing : RestoreOrder → Turn → List ℕ → Type 0
IsListing order input text = (s : State) × HasOutcome order.plan input (restores s) × (text ≡ listing order.form s)

abbrev pub Lists : RestoreOrder → Turn → Turn → Type 0
Lists order input output = (text : List ℕ) × IsListing order input text × Writes output text

abbrev pub ListsFront : RestoreOrder → Turn → Turn → Type 0
ListsFront order input output = (text : List ℕ) × IsListing order input text × WritesFront output text

abbrev pub RestoreSays : RestoreOrder → Status → Turn → Turn → Type 0
RestoreSays order is.Done input output = ReadsAll input × Lists order input output
RestoreSays order (is.Usage at) input output = ⊥
RestoreSays order (is.BadSchedule line kind) input output = ⊥
RestoreSays order (is.Rolled start oldest) input output = ⊥
RestoreSays order (is.Renamed ts) input output = ⊥
RestoreSays order (is.BadArchive f) input output = Refused order.plan input (refuses f) × Same output
RestoreSays order (is.NotRestored f) input output = Fails order.plan input f × Same output
RestoreSays order is.ReadFault input output = Failed input × Unsettled order.plan input × Same output
RestoreSays order is.WriteFault input output = Failed output × ReadsAll input × ListsFront order input output
RestoreSays order is.NoMemory input output = ReadsSome order.plan input × (Same output ⊎ ListsFront order input output)

-- the number of the status that is due for an outcome
abbrev pub outcome_code : Outcome → ℕ
outcome_code (restores s) = 0
outcome_code (refuses f) = 3
outcome_code (fails f) = restore_code f

pub record RestoreAnswers (order : RestoreOrder) (status : Status) (input output report : Turn) : Type 0 where
  pub says : RestoreSays order status input output
  -- nothing is told while it runs
  pub silent : Untouched report
  pub due : (all : List ℕ) (o : Outcome) → input.before.bytes ≡ Some all → IsOutcome order.plan all o → Gives status (outcome_code o)
