-- The laws of counts and of indexes.
use Rattle.std.specs.Prelude.{◌≡◌, Some, None, is_some}
use Rattle.std.specs.FinMap as map
use Rattle.bson_value.specs.declared.namespace.NsName.{NsName}
use Rattle.json_tree.specs.declared.tree.Tree.{Tree}
use Rattle.state_model.specs.Keys.{Key, key_cmp}
use Rattle.state_model.specs.States.{State, Collection}
use Rattle.state_model.specs.Agreement.{SameStates}
use Rattle.index_keys.specs.declared.plan.Plan.{Plan}
use Rattle.index_keys.specs.Keys.{Fields}
use Rattle.index_build.specs.Documents.{documents}
use Rattle.index_build.specs.Faults.{fault}
use Rattle.index_build.specs.Numbers.{pair_count, number, number_at, counts}
use Rattle.index_build.specs.Owned.{Owned, put_document, build, pairs_in, first_other, IsApart}
use Rattle.index_build.specs.Owners.{Texts}

-- the number that is told of an index is that of its definition over the documents of its collection
abbrev pub NumbersAreTold : Type 0
NumbersAreTold = (s : State) (n : NsName) (c : Collection) (i : Key) (d : Tree) → map.get s n ≡ Some c → map.get c.indexes i ≡ Some d → number_at (counts s) n i ≡ number d (documents c)

-- documents under the keys of their _ids
abbrev pub Stored : Type 0
Stored = map.FinMap key_cmp Fields

-- an index built over documents
abbrev pub index_over : Plan → Stored → Owned
index_over plan docs = build plan (map.entries docs)

-- what an index makes of a document that comes or goes is what a build makes of the documents that are in then
abbrev pub BuiltEmpty : Type 0
BuiltEmpty = (plan : Plan) → index_over plan map.empty ≡ map.empty

abbrev pub BuiltWith : Type 0
BuiltWith = (plan : Plan) (docs : Stored) (k : Key) (d : Fields) → index_over plan (map.insert docs k d) ≡ put_document plan (index_over plan docs) (k, d)

abbrev pub BuiltWithout : Type 0
BuiltWithout = (plan : Plan) (docs : Stored) (k : Key) → index_over plan (map.remove docs k) ≡ map.remove (index_over plan docs) k

-- a build has as many pairs as are counted
abbrev pub BuildsAreCounted : Type 0
BuildsAreCounted = (plan : Plan) (docs : Stored) → pairs_in (index_over plan docs) ≡ pair_count plan (map.values docs)

-- a unique index holds on, where no other document has a key of one that is taken in
abbrev pub StaysApart : Type 0
StaysApart = (m : Owned) (k : Key) (ts : Texts) → IsApart m → first_other k ts m ≡ None → IsApart (map.insert m k ts)

abbrev pub ApartWithout : Type 0
ApartWithout = (m : Owned) (k : Key) → IsApart m → IsApart (map.remove m k)

-- states that are equal up to the order of fields have the same numbers, and a fault in both or in neither
abbrev pub SameCounts : Type 0
SameCounts = (a b : State) → SameStates a b → counts a ≡ counts b

abbrev pub SameFaults : Type 0
SameFaults = (a b : State) → SameStates a b → is_some (fault a) ≡ is_some (fault b)
