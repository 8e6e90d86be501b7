-- What is kept of the indexes of collections, and when it is what an index over their documents has.
use Rattle.std.specs.Prelude.{⊤, ◌≡◌, ◌⊎◌, List, [], ◌∷◌, map as each, true, false, Option, Some, None, is_some}
use Rattle.std.specs.BTreeMap.{is_at}
use Rattle.std.specs.Map.{lookup}
use Rattle.std.specs.FinMap as map
use Rattle.bson_value.specs.declared.namespace.NsName.{NsName}
use Rattle.bson_value.specs.NamespaceOrder.{namespace_cmp}
use Rattle.json_tree.specs.declared.tree.Tree.{Tree}
use Rattle.state_model.specs.Keys.{same_ns}
use Rattle.coll_state.specs.Rows.{Row, Table, Rows, Rising, key_in, id_of}
use Rattle.index_keys.specs.declared.plan.Plan.{Plan}
use Rattle.index_keys.specs.Definition.{plan_of}
use Rattle.index_keys.specs.Keys.{Fields, Docs}
use Rattle.index_build.specs.Owned.{Holding, build}
use Rattle.history_model.specs.Indexes.{IndexesOf}
use Rattle.history_model.specs.Refusals.{definitions_in}

-- the documents of rows under their keys
abbrev pub paired : List Row → Docs
paired rs = each (λ (r : Row). (r.key, r.document)) rs

-- documents under the keys of their _ids
abbrev pub keyed : List Fields → Docs
keyed ds = each (λ (d : Fields). (key_in (id_of d), d)) ds

abbrev pub with_plan : Option Plan → List Plan → List Plan
with_plan None ps = ps
with_plan (Some p) ps = p ∷ ps

-- the plans of those definitions that are built
abbrev pub plans_of : List Tree → List Plan
plans_of [] = []
plans_of (d ∷ ds) = with_plan (plan_of d) (plans_of ds)

-- an index of each plan, over these documents
abbrev pub AreOver : Docs → List Holding → List Plan → Type 0
AreOver ds [] [] = ⊤
AreOver ds [] (p ∷ ps) = ⊥
AreOver ds (h ∷ hs) [] = ⊥
AreOver ds (h ∷ hs) (p ∷ ps) = (h.plan ≡ p) × (h.owned ≡ build p ds) × AreOver ds hs ps

-- these are the built indexes of a collection, and they hold
pub record IsKept (t : Table) (hs : List Holding) : Type 0 where
  pub over : AreOver (paired t.rows) hs (plans_of (map.values t.indexes))
  pub hold : IndexesOf t
  pub rising : Rising 0 t.rows

-- the built indexes of a collection; none where it has no definitions
abbrev pub AreBuilt : Option Table → Option (List Holding) → Type 0
AreBuilt o None = definitions_in o ≡ []
AreBuilt o (Some hs) = (t : Table) × (o ≡ Some t) × IsKept t hs

-- indexes of collections, by the names of the collections
abbrev pub KeptCollections : Type 0
KeptCollections = List (NsName × List Holding)

-- what is kept of a collection
abbrev pub kept_at : KeptCollections → NsName → Option (List Holding)
kept_at cs n = lookup (is_at (namespace_cmp n)) cs

-- what is kept of each collection are its built indexes
abbrev pub AreKept : KeptCollections → Rows → Type 0
AreKept cs r = (n : NsName) (hs : List Holding) → kept_at cs n ≡ Some hs → (t : Table) × (map.get r.tables n ≡ Some t) × IsKept t hs

-- the indexes of a collection are kept, where it has any definitions
abbrev pub HasIndexes : KeptCollections → NsName → Rows → Type 0
HasIndexes cs n r = (definitions_in (map.get r.tables n) ≡ []) ⊎ (is_some (kept_at cs n) ≡ true)

-- all other collections stand as before
abbrev pub AreElsewhere : NsName → Rows → Rows → Type 0
AreElsewhere n r s = (m : NsName) → same_ns n m ≡ false → map.get s.tables m ≡ map.get r.tables m
