-- What an index has: the keys of each document that is in, under the key of its _id. A pair of a key and an _id is in where the document of that _id has the key.
use Rattle.std.specs.Prelude.{⊤, ℕ, ◌≡◌, ◌+◌, List, [], ◌∷◌, Bool, true, false, not, ◌&&◌, Option, Some, None, is_some, length, fold, refl}
use Rattle.std.specs.Coded.{Coded, code_by, coded×, coded_ℕ, coded_list}
use Rattle.std.specs.FinMap as map
use Rattle.bson_value.specs.declared.value.Value.{Value}
use Rattle.bson_encode.specs.Key.{key_of}
use Rattle.state_model.specs.Keys.{Key, key_cmp, same_key}
use Rattle.coll_state.specs.Codes.{bytes_code}
use Rattle.index_keys.specs.declared.plan.Plan.{Plan}
use Rattle.index_keys.specs.contracts.plan.Plan as plans
use Rattle.index_keys.specs.Keys.{Fields, Docs, parallel}
use Rattle.index_keys.specs.Texts.{key_texts}
use Rattle.index_build.specs.Faults.{meet}
use Rattle.index_build.specs.Owners.{Texts}
use Rattle.index_build.specs.Repeats.{first_where}
use Rattle.index_build.specs.declared.index_fault.IndexFault.{IndexFault}
use Rattle.index_build.specs.declared.index_fault.IndexFault.TheVariants as faults

abbrev pub Owned : Type 0
Owned = map.FinMap key_cmp Texts

-- a plan, what is in, and how many documents more there is room for
pub record Holding : Type 0 where
  pub plan : Plan
  pub owned : Owned
  pub spare : ℕ

abbrev pub holding_code : Coded Holding
holding_code = code_by (Plan × (Owned × ℕ)) (coded× plans.the_row.coded (coded× (map.code bytes_code (coded_list bytes_code)) coded_ℕ))
    (λ h. (h.plan, (h.owned, h.spare))) (λ p. record { plan = p.0; owned = p.1.0; spare = p.1.1 }) (λ _. refl)

-- the keys of a document, in the place of those that its _id had
abbrev pub put_document : Plan → Owned → Key × Fields → Owned
put_document plan m d = map.insert m d.0 (key_texts plan d.1)

-- an index over documents
abbrev pub build : Plan → Docs → Owned
build plan docs = fold (put_document plan) map.empty docs

abbrev pub texts_count : List (Key × Texts) → ℕ
texts_count [] = 0
texts_count (e ∷ es) = length e.1 + texts_count es

-- how many pairs are in
abbrev pub pairs_in : Owned → ℕ
pairs_in m = texts_count (map.entries m)

abbrev pub other_has : Key → Texts → Key × Texts → Bool
other_has k ts e = not (same_key e.0 k) && meet ts e.1

-- the first document of another _id that has one of the texts
abbrev pub first_other : Key → Texts → Owned → Option (Key × Texts)
first_other k ts m = first_where (other_has k ts) (map.entries m)

-- why a document isn't taken in
pub data Refusal : Type 0 where
  Parallel : Refusal
  Shared : Key → Refusal

-- two fields meet arrays, or the index is unique and another document has one of the keys
abbrev pub refusal_by : Bool → Bool → Option (Key × Texts) → Option Refusal
refusal_by true unique o = Some Parallel
refusal_by false true (Some e) = Some (Shared e.0)
refusal_by false true None = None
refusal_by false false o = None

abbrev pub refusal : Plan → Key → Fields → Owned → Option Refusal
refusal plan k d m = refusal_by (is_some (parallel plan d)) plan.unique (first_other k (key_texts plan d) m)

-- no document is refused nothing
abbrev pub refusal_if : Plan → Key → Option Fields → Owned → Option Refusal
refusal_if plan k None m = None
refusal_if plan k (Some d) m = refusal plan k d m

abbrev pub shared_fault : Value → Value → IndexFault
shared_fault first second = faults.DuplicateKey first second

-- the fault is this refusal, unless memory ran out
abbrev pub IsIndexFault : IndexFault → Value → Option Refusal → Type 0
IsIndexFault faults.NoMemory id o = ⊤
IsIndexFault (faults.ParallelArrays v) id o = (v ≡ id) × (o ≡ Some Parallel)
IsIndexFault (faults.DuplicateKey first second) id o = (second ≡ id) × (o ≡ Some (Shared (key_of first)))

-- no two documents have a key
abbrev pub IsApart : Owned → Type 0
IsApart m = (j k : Key) (ts us : Texts) → map.get m j ≡ Some ts → map.get m k ≡ Some us → meet ts us ≡ true → j ≡ k
