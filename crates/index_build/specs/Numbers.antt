-- How many pairs of a key and an _id each index of a state has.
use Rattle.std.specs.Prelude.{ℕ, ◌+◌, List, [], ◌∷◌, map as each, length, Option, Some, None, option_map}
use Rattle.std.specs.FinMap as map
use Rattle.bson_value.specs.declared.namespace.NsName.{NsName}
use Rattle.bson_value.specs.NamespaceOrder.{namespace_cmp}
use Rattle.json_tree.specs.declared.tree.Tree.{Tree}
use Rattle.state_model.specs.Keys.{Key, key_cmp}
use Rattle.state_model.specs.States.{State, Collection}
use Rattle.index_keys.specs.declared.plan.Plan.{Plan}
use Rattle.index_keys.specs.Definition.{plan_of}
use Rattle.index_keys.specs.Keys.{Fields}
use Rattle.index_keys.specs.Texts.{key_texts}
use Rattle.index_build.specs.Documents.{documents}

-- the keys of each document
abbrev pub pair_count : Plan → List Fields → ℕ
pair_count plan [] = 0
pair_count plan (d ∷ ds) = length (key_texts plan d) + pair_count plan ds

-- None where the index isn't built
abbrev pub number : Tree → List Fields → Option ℕ
number def ds = option_map (λ plan. pair_count plan ds) (plan_of def)

-- the number of each index under its name
abbrev pub numbers_of : List (Key × Tree) → List Fields → List (Key × Option ℕ)
numbers_of es ds = each (λ e. (e.0, number e.1 ds)) es

abbrev pub numbers : Collection → List (Key × Option ℕ)
numbers c = numbers_of (map.entries c.indexes) (documents c)

abbrev pub numbers_in : Option Collection → List (Key × Option ℕ)
numbers_in None = []
numbers_in (Some c) = numbers c

-- the numbers of each collection under its name
abbrev pub Numbers : Type 0
Numbers = List (NsName × List (Key × Option ℕ))

abbrev pub counts : State → Numbers
counts s = each (λ n. (n, numbers_in (map.get s n))) (map.keys s)

abbrev pub joined : {A : Type 0} → Option (Option A) → Option A
joined None = None
joined (Some o) = o

abbrev pub number_in : Key → Option (List (Key × Option ℕ)) → Option ℕ
number_in i None = None
number_in i (Some es) = joined (map.find key_cmp i es)

-- the number under two names; None where the index isn't built, or isn't there
abbrev pub number_at : Numbers → NsName → Key → Option ℕ
number_at c n i = number_in i (map.find namespace_cmp n c)
