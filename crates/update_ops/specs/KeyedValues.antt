-- Values that are found by their keys.
use Rattle.std.specs.Prelude.{◌≡◌, ℕ, List, false, None}
use Rattle.std.specs.List.{list_any}
use Rattle.std.specs.Ordering.{nat_cmp}
use Rattle.std.specs.Cmp.Lexicographic.{slice_cmp}
use Rattle.std.specs.BTreeMap.{BTreeMap, get}
use Rattle.bson_value.specs.declared.value.Value.{Value}
use Rattle.bson_encode.specs.Key.{key_of}
use Rattle.update_model.specs.Equality.{same}

abbrev pub Values : Type 0
Values = List Value

-- a value whose key has no place is equal to none of these
abbrev pub HavePlaces : Values → BTreeMap (List ℕ) ℕ → Type 0
HavePlaces vs m = (v : Value) → get (slice_cmp nat_cmp) m (key_of v) ≡ None → list_any (same v) vs ≡ false
