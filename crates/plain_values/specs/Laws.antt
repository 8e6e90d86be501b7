-- What Extended JSON reads: values that are well-formed, in which no document has an outermost name of a wrapper.
use Rattle.std.specs.Prelude.{◌≡◌, ℕ, List, Ok}
use Rattle.bson_value.specs.declared.value.Value.{Value, every-Value}
use Rattle.bson_value.specs.WellFormed.{IsWellFormed}
use Rattle.json_tree.specs.declared.tree.Tree.{Tree}
use Rattle.json_tree.specs.WellFormed.{IsWellFormed as IsWellFormedTree}
use Rattle.json_text.specs.Grammar.{Json}
use Rattle.extjson.specs.Values.{value_of}
use Rattle.extjson.specs.RoundTrip.{IsPlain}

-- what a JSON text spells is well-formed
abbrev pub JsonIsFormed : Type 0
JsonIsFormed = (text : List ℕ) (t : Tree) → Json text t → IsWellFormedTree t

-- what a well-formed tree is read as
abbrev pub ReadIsFormed : Type 0
ReadIsFormed = (t : Tree) (v : Value) → IsWellFormedTree t → value_of t ≡ Ok v → IsWellFormed v

abbrev pub ReadIsPlain : Type 0
ReadIsPlain = (t : Tree) (v : Value) → IsWellFormedTree t → value_of t ≡ Ok v → every-Value IsPlain v
