-- The keys of a document in an index, and when two of its fields meet arrays.
use Rattle.std.specs.Prelude.{ℕ, ◌≡◌, Bool, true, false, ◌&&◌, List, [], ◌∷◌, map, filter, Option, Some, None, IsSome, Contains, if◌then◌else◌}
use Rattle.std.specs.List.{flat_map, list_all}
use Rattle.bson_value.specs.declared.value.Value.{Value, Null, Object}
use Rattle.bson_value.specs.Alike.{ordered}
use Rattle.index_keys.specs.declared.plan.Plan.{Plan}
use Rattle.index_keys.specs.Branches.{Path, Branch, Missing, Empty, Given, branches, meets_array}

-- a document: names and values
abbrev pub Fields : Type 0
Fields = List (List ℕ × Value)

-- one field of a key: the mark of an empty array, or a value with the fields in it by name
pub data Cell : Type 0 where
  EmptyArray : Cell
  Of : Value → Cell

abbrev pub Key : Type 0
Key = List Cell

-- missing gives null
abbrev pub cell : Branch → Cell
cell Missing = Of Null
cell Empty = EmptyArray
cell (Given v) = Of (ordered v)

-- the cells of each field
abbrev pub cells : List Path → Fields → List (List Cell)
cells paths doc = map (λ p. map cell (branches p (Object doc))) paths

-- one of each
abbrev pub tuples : List (List Cell) → List Key
tuples [] = [] ∷ []
tuples (cs ∷ css) = flat_map (λ c. map (λ k. c ∷ k) (tuples css)) cs

abbrev pub is_missing : Branch → Bool
is_missing Missing = true
is_missing _ = false

-- every branch of every field is missing
abbrev pub has_none : List Path → Fields → Bool
has_none paths doc = list_all (λ p. list_all is_missing (branches p (Object doc))) paths

-- the keys of a document, where equal ones may stand several times
abbrev pub keys : Plan → Fields → List Key
keys plan doc = if plan.sparse && has_none plan.paths doc then [] else tuples (cells plan.paths doc)

-- Keys, as a set
abbrev pub IsKey : Plan → Fields → Key → Type 0
IsKey plan doc k = Contains (keys plan doc) k

-- the first two fields that meet an array
abbrev pub first_two : List Path → Option (Path × Path)
first_two (p ∷ (q ∷ ps)) = Some (p, q)
first_two _ = None

abbrev pub parallel : Plan → Fields → Option (Path × Path)
parallel plan doc = first_two (filter (λ p. meets_array p (Object doc)) plan.paths)

abbrev pub Parallel : Plan → Fields → Type 0
Parallel plan doc = IsSome (parallel plan doc)

-- documents beside their `_id`
abbrev pub Docs : Type 0
Docs = List (List ℕ × Fields)

-- no key belongs to two of the documents
abbrev pub Holds : Plan → Docs → Type 0
Holds plan docs = (d e : List ℕ × Fields) (k : Key) → Contains docs d → Contains docs e → IsKey plan d.1 k → IsKey plan e.1 k → d.0 ≡ e.0
