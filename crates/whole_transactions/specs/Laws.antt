-- All writes of a transaction stand, or none.
use Rattle.std.specs.Prelude.{◌≡◌, ◌⊎◌, List, ◌∷◌, ◌++◌, Option}
use Rattle.bson_value.specs.declared.value.Ts.{Ts}
use Rattle.state_model.specs.States.{State}
use Rattle.copy_model.specs.Writes.{SingleWrite}
use Rattle.history_model.specs.Stages.{Write, Txn}
use Rattle.history_model.specs.Runs.{Schedule}
use Rattle.history_model.specs.Histories.{history, state, before, at}
use Rattle.history_model.specs.WellFormed.{AreWellFormedLines}

-- the state has a front of these writes, and none behind them
abbrev pub HasNone : List (Ts × Write) → State → Type 0
HasNone earlier x = (front rest : List (Ts × Write)) × (earlier ≡ front ++ rest) × (x ≡ state front)

-- it has all of these writes, the next one, and a front of those behind it
abbrev pub HasAll : List (Ts × Write) → Ts × Write → List (Ts × Write) → State → Type 0
HasAll earlier w later x = (front rest : List (Ts × Write)) × (later ≡ front ++ rest) × (x ≡ state (earlier ++ (w ∷ front)))

abbrev pub IsWhole : List (Ts × Write) → Ts × Write → List (Ts × Write) → State → Type 0
IsWhole earlier w later x = HasNone earlier x ⊎ HasAll earlier w later x

-- the transaction was committed behind those writes and in front of these
abbrev pub IsCommitted : Schedule → List (Ts × Write) → Ts → List SingleWrite → List (Ts × Write) → Type 0
IsCommitted s earlier ts ws later = history s ≡ earlier ++ ((ts, Txn ws) ∷ later)

abbrev pub BeforeIsWhole : Type 0
BeforeIsWhole = (s : Schedule) → AreWellFormedLines s.lines → (earlier : List (Ts × Write)) (ts : Ts) (ws : List SingleWrite) (later : List (Ts × Write)) → IsCommitted s earlier ts ws later → (l : Option Ts) → IsWhole earlier (ts, Txn ws) later (before s l)

abbrev pub AtIsWhole : Type 0
AtIsWhole = (s : Schedule) → AreWellFormedLines s.lines → (earlier : List (Ts × Write)) (ts : Ts) (ws : List SingleWrite) (later : List (Ts × Write)) → IsCommitted s earlier ts ws later → (l : Option Ts) → IsWhole earlier (ts, Txn ws) later (at s l)
