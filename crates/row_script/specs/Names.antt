-- Namespaces by their names.
use Rattle.std.specs.Prelude.{◌++◌, ℕ, List, codes}
use Rattle.bson_value.specs.Namespace.{IsSplit}
use Rattle.bson_value.specs.declared.namespace.NsName.{NsName}

-- a text names a collection
abbrev pub Names : List ℕ → NsName → Type 0
Names text ns = IsSplit text ns.db ns.coll

-- the name of a collection
abbrev pub ns_text : NsName → List ℕ
ns_text ns = ns.db ++ codes "." ++ ns.coll
