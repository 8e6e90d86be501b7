-- What is kept of an entry stands for the moves of the entry that the filter takes.
use Rattle.std.specs.Prelude.{⊤, ◌≡◌, List, [], ◌∷◌, if◌then◌else◌}
use Rattle.entry_model.specs.declared.entry.Entry.{Entry}
use Rattle.entry_model.specs.declared.entry.Action.{Action, out-Action}
use Rattle.entry_model.specs.declared.entry.Action.TheOpen.{Action-F}
use Rattle.state_model.specs.Cut.{taken}
use Rattle.replay.specs.Moves.{moves_of}
use Rattle.restore_filter.specs.Rules.{Rules}
use Rattle.restore_filter.specs.Names.{takes}
use Rattle.restore_entries.specs.Cut.{takes_entry, cut_entry}

-- no group
abbrev pub IsSingle : Action-F Action Entry → Type 0
IsSingle (Action-F.Group items) = ⊥
IsSingle a = ⊤

abbrev pub AreSingle : List Entry → Type 0
AreSingle [] = ⊤
AreSingle (e ∷ es) = IsSingle (out-Action e.action) × AreSingle es

-- a group has no group in it
abbrev pub IsFlat : Action-F Action Entry → Type 0
IsFlat (Action-F.Group items) = AreSingle items
IsFlat a = ⊤

abbrev pub CutIsTaken : Type 0
CutIsTaken = (r : Rules) (e : Entry) → IsFlat (out-Action e.action) → taken (takes r) (moves_of e) ≡ (if takes_entry r e then moves_of (cut_entry r e) else [])
