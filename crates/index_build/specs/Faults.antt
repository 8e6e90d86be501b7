-- What a state's indexes are refused for: two fields of one document that meet arrays, or a key of a unique index that two documents have.
use Rattle.std.specs.Prelude.{⊤, ℕ, ◌≡◌, List, [], ◌∷◌, Bool, true, false, Option, Some, None, is_some, option_map}
use Rattle.std.specs.List.{list_any}
use Rattle.std.specs.Str.{bytes_eq}
use Rattle.std.specs.FinMap as map
use Rattle.bson_value.specs.declared.namespace.NsName.{NsName}
use Rattle.json_tree.specs.declared.tree.Tree.{Tree}
use Rattle.state_model.specs.Keys.{Key}
use Rattle.state_model.specs.States.{State, Collection}
use Rattle.index_keys.specs.declared.plan.Plan.{Plan}
use Rattle.index_keys.specs.Definition.{plan_of}
use Rattle.index_keys.specs.Keys.{Fields, parallel}
use Rattle.index_keys.specs.Texts.{key_texts}
use Rattle.index_build.specs.declared.fault.CountFault.{CountFault}
use Rattle.index_build.specs.declared.fault.CountFault.TheVariants as faults
use Rattle.index_build.specs.Documents.{documents, id}
use Rattle.index_build.specs.Repeats.{first_where, repeat}

-- two lists that have a text in common
abbrev pub meet : List (List ℕ) → List (List ℕ) → Bool
meet ts us = list_any (λ t. list_any (bytes_eq t) us) ts

-- two documents that have a key in common
abbrev pub share_a_key : Plan → Fields → Fields → Bool
share_a_key plan d e = meet (key_texts plan d) (key_texts plan e)

-- the first document in which two fields meet arrays
abbrev pub first_parallel : Plan → List Fields → Option Fields
first_parallel plan ds = first_where (λ d. is_some (parallel plan d)) ds

-- the first document that has a key of an earlier one, behind the first such earlier one
abbrev pub duplicate : Plan → List Fields → Option (Fields × Fields)
duplicate plan ds = repeat (share_a_key plan) ds

abbrev pub duplicate_if : Bool → Plan → List Fields → Option (Fields × Fields)
duplicate_if true plan ds = duplicate plan ds
duplicate_if false plan ds = None

-- the one, or else the other
abbrev pub or_else : {A : Type 0} → Option A → Option A → Option A
or_else (Some x) o = Some x
or_else None o = o

abbrev pub parallel_fault : NsName → Key → Fields → CountFault
parallel_fault n i d = faults.Parallel n i (id d)

abbrev pub duplicate_fault : NsName → Key → Fields × Fields → CountFault
duplicate_fault n i two = faults.Duplicate n i (id two.0) (id two.1)

-- a document with parallel arrays goes before all keys that two documents have
abbrev pub plan_fault : NsName → Key → Plan → List Fields → Option CountFault
plan_fault n i plan ds = or_else (option_map (parallel_fault n i) (first_parallel plan ds)) (option_map (duplicate_fault n i) (duplicate_if plan.unique plan ds))

-- an index that isn't built has none
abbrev pub built_fault : NsName → Key → Option Plan → List Fields → Option CountFault
built_fault n i None ds = None
built_fault n i (Some plan) ds = plan_fault n i plan ds

-- by the names of the indexes
abbrev pub definitions_fault : NsName → List (Key × Tree) → List Fields → Option CountFault
definitions_fault n [] ds = None
definitions_fault n (e ∷ es) ds = or_else (built_fault n e.0 (plan_of e.1) ds) (definitions_fault n es ds)

abbrev pub collection_fault : NsName → Option Collection → Option CountFault
collection_fault n None = None
collection_fault n (Some c) = definitions_fault n (map.entries c.indexes) (documents c)

-- by the names of the collections
abbrev pub fault_among : State → List NsName → Option CountFault
fault_among s [] = None
fault_among s (n ∷ ns) = or_else (collection_fault n (map.get s n)) (fault_among s ns)

-- the first fault of a state's indexes
abbrev pub fault : State → Option CountFault
fault s = fault_among s (map.keys s)

-- the fault is the one that the indexes have, unless memory ran out
abbrev pub IsCountFault : CountFault → Option CountFault → Type 0
IsCountFault faults.NoMemory o = ⊤
IsCountFault (faults.Parallel n i a) o = o ≡ Some (faults.Parallel n i a)
IsCountFault (faults.Duplicate n i a b) o = o ≡ Some (faults.Duplicate n i a b)
