-- What is listed of the archive of a dump that is restored.
use Rattle.std.specs.Prelude.{◌≡◌, List, true, Some}
use Rattle.bson_value.specs.declared.namespace.NsName.{NsName}
use Rattle.bson_value.specs.declared.value.Ts.{Ts}
use Rattle.state_model.specs.States.{State}
use Rattle.state_model.specs.Agreement.{SameStates}
use Rattle.state_model.specs.Cut.{cut}
use Rattle.document_lines.specs.declared.form.ListForm.{ListForm}
use Rattle.state_listing.specs.Listing.{listing}
use Rattle.restore_filter.specs.Names.{takes}
use Rattle.restore_plan.specs.declared.plan.Plan.{Plan}
use Rattle.restore_plan.specs.Outcome.{restores, IsOutcome}
use Rattle.copy_model.specs.Writes.{SingleWrite}
use Rattle.history_model.specs.Stages.{Write, Txn}
use Rattle.history_model.specs.Runs.{Schedule}
use Rattle.history_model.specs.Histories.{moments, at}
use Rattle.dump_model.specs.Archives.{written}
use Rattle.dump_content.specs.Laws.{Dumped}
use Rattle.archive_heals.specs.Laws.{Replays}
use Rattle.whole_transactions.specs.Laws.{IsWhole, IsCommitted}

abbrev pub SameAreListedAlike : Type 0
SameAreListedAlike = (form : ListForm) (a b : State) → SameStates a b → listing form a ≡ listing form b

-- the dump of this schedule is done, and a restore by this plan replays up to a limit later than LastRead, and gives no new names
pub record ReplaysDump (s : Schedule) (p : Plan) : Type 0 where
  pub dumped : Dumped s
  pub last_read : Ts
  pub read : (moments s).last_read ≡ Some last_read
  pub replays : Replays p last_read

-- the state of the source just before the limit, or at End: of the collections that the filter takes
abbrev pub source_taken : Schedule → Plan → State
source_taken s p = cut (takes p.filter) (at s p.limit)

-- the state that the dump's archive restores to has the listing of that state
abbrev pub ListsSource : Type 0
ListsSource = (s : Schedule) (p : Plan) → ReplaysDump s p → (made : State) → IsOutcome p (written s) (restores made) → (form : ListForm) → listing form made ≡ listing form (source_taken s p)

-- of all of it, where the filter takes each name
abbrev pub ListsWholeSource : Type 0
ListsWholeSource = (s : Schedule) (p : Plan) → ReplaysDump s p → ((n : NsName) → takes p.filter n ≡ true) → (made : State) → IsOutcome p (written s) (restores made) → (form : ListForm) → listing form made ≡ listing form (at s p.limit)

-- what is restored is listed as a state that has all writes of a committed transaction or none, cut to what the filter takes
abbrev pub ListsWholeTransactions : Type 0
ListsWholeTransactions = (s : Schedule) (p : Plan) → ReplaysDump s p → (made : State) → IsOutcome p (written s) (restores made) →
    (earlier : List (Ts × Write)) (ts : Ts) (ws : List SingleWrite) (later : List (Ts × Write)) → IsCommitted s earlier ts ws later →
    (form : ListForm) → (x : State) × IsWhole earlier (ts, Txn ws) later x × (listing form made ≡ listing form (cut (takes p.filter) x))
