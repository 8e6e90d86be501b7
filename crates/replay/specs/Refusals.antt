-- Which entries aren't played: a rename and an unknown command, also within a group.
use Rattle.std.specs.Prelude.{⊤, ◌≡◌, List, [], ◌∷◌, if◌then◌else◌, Option, Some, None, Result, Ok, Err}
use Rattle.bson_value.specs.declared.value.Ts.{Ts}
use Rattle.entry_model.specs.declared.entry.Entry.{Entry, fold-Entry}
use Rattle.entry_model.specs.declared.entry.Action.TheOpen.{Action-F}
use Rattle.replay.specs.declared.fault.ReplayFault.{ReplayFault}
use Rattle.replay.specs.declared.fault.ReplayFault.TheVariants.{NoMemory, Rename, OtherCommand}
use Rattle.replay.specs.Moves.{is_config}

-- the first that there is
abbrev pub first : List (Option ReplayFault) → Option ReplayFault
first [] = None
first (None ∷ os) = first os
first (Some f ∷ os) = Some f

abbrev pub refused_at : {A : Type 0} → Ts → Action-F A (Option ReplayFault) → Option ReplayFault
refused_at ts (Action-F.Rename from to) = Some (Rename ts)
refused_at ts (Action-F.Other name) = Some (OtherCommand ts name)
refused_at ts (Action-F.Group items) = first items
refused_at ts a = None

-- the first refusal of an entry
unfoldable pub first_refused : Entry → Option ReplayFault
first_refused = fold-Entry (Ts → Option ReplayFault) (Option ReplayFault) (λ a ts. refused_at ts a) (λ e. if is_config e.ns then None else e.action e.ts)

-- an answer that is Ok exactly where nothing is refused, and else that refusal; or memory ran out
abbrev pub Answers : Result ⊤ ReplayFault → Option ReplayFault → Type 0
Answers (Ok u) o = o ≡ None
Answers (Err NoMemory) o = ⊤
Answers (Err f) o = o ≡ Some f

-- this fault, or memory ran out
abbrev pub IsFault : ReplayFault → ReplayFault → Type 0
IsFault NoMemory e = ⊤
IsFault f e = f ≡ e
