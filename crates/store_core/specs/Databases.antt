-- The collections of a database whose indexes are kept.
use Rattle.std.specs.Prelude.{◌≡◌, ℕ, List, true, Some}
use Rattle.std.specs.List.{list_any}
use Rattle.bson_value.specs.declared.namespace.NsName.{NsName}
use Rattle.state_model.specs.Keys.{same_key, same_ns}
use Rattle.index_build.specs.Owned.{Holding}
use Rattle.kept_indexes.specs.Kept.{KeptCollections, kept_at}

-- they are among these
abbrev pub AreAmong : List ℕ → KeptCollections → List NsName → Type 0
AreAmong db ks names = (n : NsName) (hs : List Holding) → kept_at ks n ≡ Some hs → same_key n.db db ≡ true → list_any (same_ns n) names ≡ true
