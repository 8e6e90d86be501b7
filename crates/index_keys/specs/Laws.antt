-- The laws of keys.
use Rattle.std.specs.Prelude.{◌≡◌}
use Rattle.bson_value.specs.Alike.{AreAlike}
use Rattle.index_keys.specs.declared.plan.Plan.{Plan}
use Rattle.index_keys.specs.Keys.{Fields, keys, parallel}

-- documents that are equal up to the order of fields have the same keys, as many of each
abbrev pub AlikeKeys : Type 0
AlikeKeys = (plan : Plan) (a b : Fields) → AreAlike a b → keys plan a ≡ keys plan b

-- and the same two fields meet arrays, if any
abbrev pub AlikeParallel : Type 0
AlikeParallel = (plan : Plan) (a b : Fields) → AreAlike a b → parallel plan a ≡ parallel plan b
