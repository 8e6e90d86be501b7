-- The order of namespaces.
use Rattle.std.specs.Ordering.{nat_cmp, on, then_cmp}
use Rattle.std.specs.Cmp.Lexicographic.{slice_cmp}
use Rattle.std.specs.declared.cmp.Ordering.{Ordering}
use Rattle.bson_value.specs.declared.namespace.NsName.{NsName}

-- by the bytes of the database, and then by those of the collection
abbrev pub namespace_cmp : NsName → NsName → Ordering
namespace_cmp = then_cmp (on (λ n. n.db) (slice_cmp nat_cmp)) (on (λ n. n.coll) (slice_cmp nat_cmp))
