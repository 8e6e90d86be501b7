-- Names by which documents and collections are told apart. Those of one order tie only where they are equal.
use Rattle.std.specs.Prelude.{ℕ, List, Bool}
use Rattle.std.specs.Ordering.{nat_cmp, eq_by_cmp}
use Rattle.std.specs.declared.cmp.Ordering.{Ordering}
use Rattle.std.specs.Cmp.Lexicographic.{slice_cmp}
use Rattle.bson_value.specs.declared.namespace.NsName.{NsName}
use Rattle.bson_value.specs.NamespaceOrder.{namespace_cmp}

-- the type byte and the spelling of an _id; also the name of an index
abbrev pub Key : Type 0
Key = List ℕ

-- by the bytes
abbrev pub key_cmp : Key → Key → Ordering
key_cmp = slice_cmp nat_cmp

abbrev pub same_key : Key → Key → Bool
same_key a b = eq_by_cmp key_cmp a b

abbrev pub same_ns : NsName → NsName → Bool
same_ns a b = eq_by_cmp namespace_cmp a b
