-- Indexes that hold have no fault.
use Rattle.std.specs.Prelude.{◌≡◌, None}
use Rattle.coll_state.specs.Rows.{Rows, state_of}
use Rattle.index_build.specs.Faults.{fault}
use Rattle.history_model.specs.Indexes.{IndexesHold}

-- where the indexes of rows hold, what counts them finds no fault
abbrev pub HeldAreFaultless : Type 0
HeldAreFaultless = (r : Rows) → IndexesHold r → fault (state_of r) ≡ None
