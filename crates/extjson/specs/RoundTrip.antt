-- The law that the tree of a value reads as the value.
use Rattle.std.specs.Prelude.{◌≡◌, ℕ, false, List, Contains, Ok}
use Rattle.bson_value.specs.WellFormed.{IsWellFormed}
use Rattle.bson_value.specs.declared.value.Value.{Value, Value-F, every-Value}
use Rattle.extjson.specs.Trees.{tree_of}
use Rattle.extjson.specs.Values.{value_of, has_wrapper}

abbrev pub HasNoZero : List ℕ → Type 0
HasNoZero t = Contains t 0 → ⊥

-- this level is no document with an outermost name of a wrapper
abbrev pub IsPlain : Value-F Value → Type 0
IsPlain (Value-F.Object fs) = has_wrapper fs ≡ false
IsPlain (Value-F.ScopedCode t fs) = has_wrapper fs ≡ false
IsPlain _ = Unit {0}

-- the tree of a value that has no document with an outermost name of a wrapper reads as the value
abbrev pub TreesReadBack : Type 0
TreesReadBack = (v : Value) → IsWellFormed v → every-Value IsPlain v → value_of (tree_of v) ≡ Ok v
