-- The law of definitions.
use Rattle.std.specs.Prelude.{◌≡◌, ℕ, List}
use Rattle.std.specs.FinMap as map
use Rattle.coll_state.specs.Changes.{under_names}
use Rattle.restore_plan.specs.Base.{definitions_taken}

-- the definitions that a metadata text has, in normal form, stand in a state in the order in which the text gives them
abbrev pub DefinitionsStand : Type 0
DefinitionsStand = (text : List ℕ) → map.values (under_names (definitions_taken text)) ≡ definitions_taken text
