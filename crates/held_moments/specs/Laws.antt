-- Indexes at each moment of a history.
use Rattle.std.specs.Prelude.{◌≡◌, Bool, Option, None}
use Rattle.bson_value.specs.declared.namespace.NsName.{NsName}
use Rattle.bson_value.specs.declared.value.Ts.{Ts}
use Rattle.state_model.specs.States.{State}
use Rattle.state_model.specs.Cut.{cut}
use Rattle.index_build.specs.Faults.{fault}
use Rattle.history_model.specs.Runs.{Schedule}
use Rattle.history_model.specs.Histories.{at}

-- the state just before a limit, or at End, has no fault
abbrev pub MomentsAreFaultless : Type 0
MomentsAreFaultless = (s : Schedule) (l : Option Ts) → fault (at s l) ≡ None

-- nor has what a filter takes of a state that has none
abbrev pub TakenAreFaultless : Type 0
TakenAreFaultless = (f : NsName → Bool) (s : State) → fault s ≡ None → fault (cut f s) ≡ None
