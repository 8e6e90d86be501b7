-- The parts of an entry's document that are read one by one.
use Rattle.std.specs.Prelude.{◌≡◌, ℕ, List, [], ◌∷◌, codes, Bool, false}
use Rattle.std.specs.Str.{bytes_eq}
use Rattle.bson_value.specs.declared.value.Value.{Value}
use Rattle.bson_value.specs.declared.namespace.NsName.{NsName}
use Rattle.entry_model.specs.Written.{Fields}
use Rattle.entry_model.specs.Reading.{Read, ◌>>=◌, field, text_in, document_in, id_of, is_nothing, namespace}

-- this name with this value is the first field
abbrev pub Begins : List ℕ → Value → Fields → Type 0
Begins n v [] = ⊥
Begins n v (f ∷ fs) = f ≡ (n, v)

-- the fields behind the first
abbrev pub further : Fields → Fields
further [] = []
further (f ∷ fs) = fs

-- whether it is an `applyOps`
abbrev pub is_group : Fields → Bool
is_group [] = false
is_group (f ∷ fs) = bytes_eq f.0 (codes "applyOps")

-- the namespace that `ns` says
abbrev pub namespace_read : Fields → Read NsName
namespace_read fs = field text_in (codes "ns") fs >>= λ text. namespace (is_nothing (field text_in (codes "op") fs)) text

-- the `_id` that `o2` has
abbrev pub updated_id : Fields → Read Value
updated_id fs = field document_in (codes "o2") fs >>= λ o2. id_of (codes "o2") o2
