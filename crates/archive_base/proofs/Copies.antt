-- What a copy depends on.
use Rattle.std.proofs.Common.{◌≡◌, List, [], ◌∷◌, refl, sym, ap, ◌∙◌, Option, Some, None}
use Rattle.std.specs.Prelude.{option_map}
use Rattle.std.specs.FinMap as map
use Rattle.bson_value.specs.declared.namespace.NsName.{NsName}
use Rattle.state_model.specs.States.{State, Collection}
use Rattle.state_model.proofs.Maps.{ns_map_same, key_map_same}
use Rattle.coll_state.specs.Rows.{Table, Rows, collection_of, state_of}
use Rattle.coll_state.proofs.Links.{get_collection}
use Rattle.copy_model.specs.Cursors.{Read}
use Rattle.copy_model.specs.Copies.{copy_documents, copy_collection, copy_of}
use Rattle.copy_model.proofs.Agreed.{get_copy, get_copy_doc}
use Rattle.archive_base.proofs.ReadOrder.{AgreeIn}

-- what was read under each key
pub copy_reads : (r : Rows) (a b : List Read) → AgreeIn a b → copy_of r a ≡ copy_of r b
copy_reads r a b h = ns_map_same _ _ (λ n. get_copy r a n ∙ (by n (map.get r.tables n) ∙ sym (get_copy r b n)))
  where
    by : (n : NsName) (o : Option Table) → option_map (copy_collection a n) o ≡ option_map (copy_collection b n) o
    by n None = refl
    by n (Some t) = (let e = key_map_same (copy_collection a n t).documents (copy_collection b n t).documents (λ k. get_copy_doc a n t k ∙ (h n k ∙ sym (get_copy_doc b n t k))) in λ i. Some (record { options = t.options; indexes = t.indexes; documents = e i }))

-- and the state of the rows
abbrev with_reads : List Read → NsName → Collection → Collection
with_reads got n c = record { options = c.options; indexes = c.indexes; documents = map.from_entries (copy_documents n got) }

pub get_of_state : (r : Rows) (got : List Read) (n : NsName) → map.get (copy_of r got) n ≡ option_map (with_reads got n) (map.get (state_of r) n)
get_of_state r got n = get_copy r got n ∙ (by (map.get r.tables n) ∙ ap (option_map (with_reads got n)) (sym (get_collection r n)))
  where
    by : (o : Option Table) → option_map (copy_collection got n) o ≡ option_map (with_reads got n) (option_map collection_of o)
    by None = refl
    by (Some t) = refl

pub copy_rows : (r q : Rows) (got : List Read) → state_of r ≡ state_of q → copy_of r got ≡ copy_of q got
copy_rows r q got e = ns_map_same _ _ (λ n. get_of_state r got n ∙ (ap (λ (s : State). option_map (with_reads got n) (map.get s n)) e ∙ sym (get_of_state q got n)))
