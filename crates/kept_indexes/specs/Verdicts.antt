-- What the indexes of a collection say of a document that is to be put.
use Rattle.std.specs.Prelude.{◌≡◌, List, Bool, true, false, Option, Some, None}
use Rattle.std.specs.List.{list_any}
use Rattle.json_tree.specs.declared.tree.Tree.{Tree}
use Rattle.state_model.specs.Keys.{Key}
use Rattle.coll_state.specs.Rows.{Row}
use Rattle.index_keys.specs.Keys.{Fields}
use Rattle.index_build.specs.Owned.{Holding, Refusal, Parallel, Shared, refusal}
use Rattle.history_model.specs.Refusals.{any_definition, unique_clash, any_parallel}
use Rattle.kept_indexes.specs.declared.verdict.Verdict.{Verdict}

abbrev pub is_shared : Option Refusal → Bool
is_shared None = false
is_shared (Some Parallel) = false
is_shared (Some (Shared k)) = true

abbrev pub is_parallel : Option Refusal → Bool
is_parallel None = false
is_parallel (Some Parallel) = true
is_parallel (Some (Shared k)) = false

-- whether an index among these refuses a document as it has a key of another one, or as two of its fields meet an array
abbrev pub some_shared : List Holding → Key → Fields → Bool
some_shared hs k d = list_any (λ (h : Holding). is_shared (refusal h.plan k d h.owned)) hs

abbrev pub some_parallel : List Holding → Key → Fields → Bool
some_parallel hs k d = list_any (λ (h : Holding). is_parallel (refusal h.plan k d h.owned)) hs

-- the verdict is that of the definitions over the rows with the document
abbrev pub IsVerdict : Verdict → List Row → List (Key × Tree) → Type 0
IsVerdict v rs ds = (v.shared ≡ any_definition unique_clash (Some rs) ds) × (v.parallel ≡ any_definition any_parallel (Some rs) ds)
