-- The first row that refuses a command on a collection.
use Rattle.std.specs.Prelude.{ℕ, List, [], ◌∷◌, codes, Bool, true, false, not, ◌||◌, nat_le, Option, Some, None}
use Rattle.std.specs.List.{list_any}
use Rattle.std.specs.FinMap as map
use Rattle.bson_value.specs.declared.namespace.NsName.{NsName}
use Rattle.state_model.specs.Keys.{Key, same_key}
use Rattle.json_tree.specs.declared.tree.Tree.{Tree}
use Rattle.coll_state.specs.Rows.{Document as Fields, Row, Rows}
use Rattle.coll_state.specs.Definitions.{definition_name}
use Rattle.schedule_model.specs.declared.refused.Refused.{Refused}
use Rattle.schedule_model.specs.declared.refused.Refused.TheVariants.{NoSuchNamespace, NamespaceExists, IndexExists, NoSuchIndex, BadDocument, BadName, TooManyIndexes}
use Rattle.history_model.specs.Documents.{are_good_options, is_bad_name}
use Rattle.history_model.specs.Refusals.{is_there, first_of, definitions_in, plan_in}
use Rattle.history_model.specs.Refusals as rules
use Rattle.history_model.specs.Commands.{has_definition}
use Rattle.command_refusals.specs.Tests.{refusal_by}
use Rattle.command_refusals.specs.Conditions.{row_if, or_later}

abbrev pub create_row : NsName → Fields → Rows → Option Refused
create_row n o r = first_of ((is_there n r, NamespaceExists) ∷ (not (are_good_options o), BadDocument) ∷ (is_bad_name n, BadName) ∷ [])

abbrev pub rename_row : NsName → NsName → Rows → Option Refused
rename_row a b r = first_of ((not (is_there a r), NoSuchNamespace) ∷ (is_there b r, NamespaceExists) ∷ (is_bad_name b || not (same_key a.db b.db), BadName) ∷ [])

-- one of these collections is of the database
abbrev pub any_in_database : List ℕ → List NsName → Bool
any_in_database db ns = list_any (λ (n : NsName). same_key n.db db) ns

-- ---- indexes

-- one of these definitions has the name
abbrev pub is_among : Key → List Tree → Bool
is_among k defs = list_any (λ d. same_key k (definition_name d)) defs

abbrev pub is_taken : Option Key → List Tree → Bool
is_taken None defs = false
is_taken (Some k) defs = same_key k (codes "_id_") || is_among k defs

-- what the index of a normal form refuses of rows
abbrev pub form_refusal : Option Tree → List Row → Option Refused
form_refusal form rs = refusal_by (rules.unique_clash rs (plan_in form)) (rules.any_parallel rs (plan_in form))

-- a definition that isn't good is tested for nothing
abbrev pub form_refusal_if : Bool → Option Tree → List Row → Option Refused
form_refusal_if true form rs = form_refusal form rs
form_refusal_if false form rs = None

abbrev pub index_row : Option Refused → Bool → Bool → ℕ → Option Refused
index_row tested taken good count = or_later tested (row_if taken IndexExists (row_if (not good) BadDocument (row_if (nat_le 63 count) TooManyIndexes None)))

abbrev pub drop_index_row : NsName → Key → Rows → Option Refused
drop_index_row n k r = first_of ((not (is_there n r), NoSuchNamespace) ∷ (not (has_definition k (definitions_in (map.get r.tables n))), NoSuchIndex) ∷ [])
