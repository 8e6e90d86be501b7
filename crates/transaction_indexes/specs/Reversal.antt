-- Indexes that stand again where they stood before changes: the documents that were put are taken out of them, and those that stand are put in again.
use Rattle.std.specs.Prelude.{⊤, ◌≡◌, List, [], ◌∷◌, ◌&&◌, Bool, true, false, Option, Some, None, option_map, if◌then◌else◌}
use Rattle.std.specs.FinMap as map
use Rattle.bson_value.specs.declared.namespace.NsName.{NsName}
use Rattle.bson_encode.specs.Key.{key_of}
use Rattle.state_model.specs.Keys.{Key, same_key, same_ns}
use Rattle.coll_state.specs.declared.change.Change.{Change}
use Rattle.coll_state.specs.Changes.{document_at}
use Rattle.coll_state.specs.Rows.{Document, Rows, Table}
use Rattle.index_keys.specs.declared.plan.Plan.{Plan}
use Rattle.index_keys.specs.Texts.{key_texts}
use Rattle.index_build.specs.Owned.{Holding}
use Rattle.kept_indexes.specs.Kept.{KeptCollections, kept_at, plans_of}

-- which document stands under a key of a collection
abbrev pub Documents : Type 0
Documents = NsName → Key → Option Document

abbrev pub documents_of : Rows → Documents
documents_of r n k = document_at n k r.tables

-- an index of each plan, which has of these documents their keys
abbrev pub AreOf : (Key → Option Document) → List Holding → List Plan → Type 0
AreOf f [] [] = ⊤
AreOf f [] (p ∷ ps) = ⊥
AreOf f (h ∷ hs) [] = ⊥
AreOf f (h ∷ hs) (p ∷ ps) = (h.plan ≡ p) × ((k : Key) → map.get h.owned k ≡ option_map (key_texts p) (f k)) × AreOf f hs ps

-- what is kept has the keys of these documents, by the definitions that stand
unfoldable pub HaveKeysOf : Documents → KeptCollections → Rows → Type 0
HaveKeysOf f ks r = (n : NsName) (hs : List Holding) → kept_at ks n ≡ Some hs → (t : Table) × (map.get r.tables n ≡ Some t) × AreOf (f n) hs (plans_of (map.values t.indexes))

-- the document that a change names
abbrev pub is_named : Change → NsName → Key → Bool
is_named c n k = same_ns n c.ns && same_key k (key_of c.id)

abbrev pub any_names : List Change → NsName → Key → Bool
any_names [] n k = false
any_names (c ∷ cs) n k = if is_named c n k then true else any_names cs n k

-- without the documents that changes name
abbrev pub without : List Change → Documents → Documents
without cs f n k = if any_names cs n k then None else f n k

-- those that changes name as these rows have them
abbrev pub as_in : Rows → List Change → Documents → Documents
as_in r cs f n k = if any_names cs n k then document_at n k r.tables else f n k

-- no change is of the collection
abbrev pub NoneOf : List Change → NsName → Type 0
NoneOf [] n = ⊤
NoneOf (c ∷ cs) n = (same_ns c.ns n ≡ false) × NoneOf cs n
