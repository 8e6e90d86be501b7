-- Blocks, taken one after the other, make the copy.
use Rattle.std.proofs.Common.{◌≡◌, ◌≢◌, List, [], ◌∷◌, true, false, refl, sym, ap, ◌∙◌, subst, Option, Some, None, inl, inr}
use Rattle.std.specs.Prelude.{◌⊎◌, option_map}
use Rattle.std.specs.FinMap as map
use Rattle.std.proofs.lemmas.Bool.{cases_Bool}
use Rattle.bson_value.specs.declared.namespace.NsName.{NsName}
use Rattle.bson_value.specs.declared.value.Value.{Value}
use Rattle.state_model.specs.Keys.{Key, same_ns}
use Rattle.state_model.specs.States.{Collection, or_fresh}
use Rattle.state_model.specs.Replay.{put_document}
use Rattle.state_model.proofs.Keys.{ns_is, ns_refl}
use Rattle.state_model.proofs.Maps.{ns_insert_here, ns_insert_else, ns_map_same, ns_insert_same}
use Rattle.coll_state.specs.Rows.{Table, Rows}
use Rattle.copy_model.specs.Cursors.{Read}
use Rattle.copy_model.specs.Copies.{copy_collection, copy_of}
use Rattle.copy_model.specs.Blocks.{Part, Metadata, Document, End, base_step, base_from, AreOf, reads_in}
use Rattle.copy_model.proofs.Agreed.{get_copy}

copy_more : (n : NsName) (i : Key) (d : Value) (got : List Read) (t : Table) → copy_collection (record { ns = n; key = i; document = d } ∷ got) n t ≡ put_document i d (copy_collection got n t)
copy_more n i d got t = rw (ns_refl n) refl

copy_else : (n m : NsName) (i : Key) (d : Value) (got : List Read) (t : Table) → same_ns m n ≡ false → copy_collection (record { ns = n; key = i; document = d } ∷ got) m t ≡ copy_collection got m t
copy_else n m i d got t e = rw e refl

mapped_else : (n m : NsName) (i : Key) (d : Value) (got : List Read) (o : Option Table) → same_ns m n ≡ false → option_map (copy_collection (record { ns = n; key = i; document = d } ∷ got) m) o ≡ option_map (copy_collection got m) o
mapped_else n m i d got None e = refl
mapped_else n m i d got (Some t) e = ap Some (copy_else n m i d got t e)

there_is : (o : Option Table) → o ≢ None → (t : Table) × (o ≡ Some t)
there_is None h = absurd (h refl)
there_is (Some t) h = (t, refl)

held_step : (r : Rows) (n : NsName) (i : Key) (d : Value) (got : List Read) → map.get r.tables n ≢ None → base_step (copy_of r got) (Document n i d) ≡ copy_of r (record { ns = n; key = i; document = d } ∷ got)
held_step r n i d got there = ns_map_same _ _ (λ m. at m (cases_Bool (same_ns m n)))
  where
    t : (t : Table) × (map.get r.tables n ≡ Some t)
    t = there_is (map.get r.tables n) there

    at : (m : NsName) → (same_ns m n ≡ true) ⊎ (same_ns m n ≡ false) → map.get (base_step (copy_of r got) (Document n i d)) m ≡ map.get (copy_of r (record { ns = n; key = i; document = d } ∷ got)) m
    at m (inl s) = subst (λ (z : NsName). map.get (base_step (copy_of r got) (Document n i d)) z ≡ map.get (copy_of r (record { ns = n; key = i; document = d } ∷ got)) z) (sym (ns_is m n s))
        (ns_insert_here (copy_of r got) n (put_document i d (or_fresh (map.get (copy_of r got) n)))
        ∙ (ap (λ o. Some (put_document i d (or_fresh o))) (get_copy r got n ∙ ap (option_map (copy_collection got n)) t.1)
        ∙ (ap Some (sym (copy_more n i d got t.0)) ∙ sym (get_copy r (record { ns = n; key = i; document = d } ∷ got) n ∙ ap (option_map (copy_collection (record { ns = n; key = i; document = d } ∷ got) n)) t.1))))
    at m (inr s) = ns_insert_else (copy_of r got) n (put_document i d (or_fresh (map.get (copy_of r got) n))) m s
        ∙ (get_copy r got m ∙ (sym (mapped_else n m i d got (map.get r.tables m) s) ∙ sym (get_copy r (record { ns = n; key = i; document = d } ∷ got) m)))

fresh_some : (o : Option Collection) (c : Collection) → o ≡ Some c → o ≡ Some (or_fresh o)
fresh_some o c e = rw e refl

ended_step : (r : Rows) (n : NsName) (got : List Read) → map.get r.tables n ≢ None → base_step (copy_of r got) (End n) ≡ copy_of r got
ended_step r n got there =
    let t = there_is (map.get r.tables n) there in
    ns_insert_same (copy_of r got) n (or_fresh (map.get (copy_of r got) n)) (fresh_some (map.get (copy_of r got) n) (copy_collection got n t.0) (get_copy r got n ∙ ap (option_map (copy_collection got n)) t.1))

pub blocks_make_copy : (ts : List Part) (r : Rows) (got : List Read) → AreOf r ts → base_from (copy_of r got) ts ≡ copy_of r (reads_in ts got)
blocks_make_copy [] r got h = refl
blocks_make_copy (Metadata n o ds ∷ ts) r got h = absurd h
blocks_make_copy (Document n i d ∷ ts) r got h = ap (λ s. base_from s ts) (held_step r n i d got h.0) ∙ blocks_make_copy ts r (record { ns = n; key = i; document = d } ∷ got) h.1
blocks_make_copy (End n ∷ ts) r got h = ap (λ s. base_from s ts) (ended_step r n got h.0) ∙ blocks_make_copy ts r got h.1
