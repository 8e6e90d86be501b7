-- What the indexes of a collection refuse of its rows after a command.
use Rattle.std.specs.Prelude.{List, Bool, Option, Some, None, if◌then◌else◌}
use Rattle.std.specs.List.{list_any}
use Rattle.json_tree.specs.declared.tree.Tree.{Tree}
use Rattle.state_model.specs.Keys.{Key}
use Rattle.coll_state.specs.Rows.{Document, Row}
use Rattle.index_keys.specs.Definition.{plan_of}
use Rattle.schedule_model.specs.declared.refused.Refused.{Refused}
use Rattle.schedule_model.specs.declared.refused.Refused.TheVariants.{DuplicateKey, ParallelArrays}
use Rattle.history_model.specs.Refusals.{any_definition}
use Rattle.history_model.specs.Refusals as rules
use Rattle.command_refusals.specs.Clashes.{any_parallel, unique_clash}

-- two documents with a key in common go before one in which two fields meet an array
abbrev pub refusal_by : Bool → Bool → Option Refused
refusal_by clash parallel = if clash then Some DuplicateKey else if parallel then Some ParallelArrays else None

abbrev pub rows_refusal : Option (List Row) → List (Key × Tree) → Option Refused
rows_refusal rs ds = refusal_by (any_definition rules.unique_clash rs ds) (any_definition rules.any_parallel rs ds)

-- of any of the definitions
abbrev pub some_clash : List Tree → List Document → Bool
some_clash defs docs = list_any (λ d. unique_clash (plan_of d) docs) defs

abbrev pub some_parallel : List Tree → List Document → Bool
some_parallel defs docs = list_any (λ d. any_parallel (plan_of d) docs) defs
