-- What is under a name of a document, and of an array.
use Rattle.std.proofs.Common.{◌≡◌, ℕ, List, ap}
use Rattle.bson_value.specs.declared.value.Value.{Value, Value-F}
use Rattle.bson_value.specs.declared.value.Value.TheVariants.{Object, Array, outs-Object, outs-Array}
use Rattle.containers.specs.Entries.{lookup}
use Rattle.bson_value.specs.Digits.{index_of}
use Rattle.bson_value.specs.Place.{at_index, child_in, child}

pub child-object : (fs : List (List ℕ × Value)) (k : List ℕ) → child (Object fs) k ≡ lookup k fs
unfolding child
child-object fs k = ap (λ (f : Value-F Value). child_in f k (index_of k)) (outs-Object fs)

pub child-array : (vs : List Value) (k : List ℕ) → child (Array vs) k ≡ at_index vs (index_of k)
unfolding child
child-array vs k = ap (λ (f : Value-F Value). child_in f k (index_of k)) (outs-Array vs)
