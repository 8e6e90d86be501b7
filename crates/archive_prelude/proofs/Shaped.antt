-- A document read field by field: a fault of a part is that of the whole.
use Rattle.std.proofs.Common.{◌≡◌, ℕ, true, false, List, refl, sym, ap, subst, ◌∙◌}
use Rattle.std.specs.Prelude.{ℤ, None, Some, Ok, Err, bytes_eq}
use Rattle.std.specs.Result.{result_err}
use Rattle.bson_value.specs.declared.value.Value.{Value}
use Rattle.archive_format.specs.Shapes.{Shaped, ◌>>=◌, wrong_version, bad_ns, string_of, int_of, field, concurrent_name, version_name, server_name, tool_name, db_name, collection_name, metadata_name, format_version, of_version, header_of, meta_of, named, is_namespace, of_namespace}
use Rattle.archive_prelude.specs.declared.fault.PreludeFault.{PreludeFault}
use Rattle.archive_prelude.specs.declared.fault.PreludeFault.TheVariants as faults
use Rattle.archive_prelude.specs.Faults.{IsPreludeFault}

later_fault : {A B : Type 0} (r : Shaped A) (g : A → Shaped B) (f : PreludeFault) → IsPreludeFault f (result_err r) → IsPreludeFault f (result_err (r >>= g))
later_fault (Ok a) g faults.NoMemory h = tt
later_fault (Ok a) g (faults.MissingField n) h = absurd cc
later_fault (Ok a) g (faults.WrongType n) h = absurd cc
later_fault (Ok a) g (faults.Version v) h = absurd cc
later_fault (Ok a) g faults.BadNs h = absurd cc
later_fault (Err e) g f h = h

bind_ok : {A B : Type 0} (r : Shaped A) (g : A → Shaped B) (a : A) → r ≡ Ok a → (r >>= g) ≡ g a
bind_ok {A = A} r g a e = ap (λ (s : Shaped A). s >>= g) e

-- a part that is there, and a fault behind it
then_fault : {A B : Type 0} (r : Shaped A) (g : A → Shaped B) (a : A) (f : PreludeFault) → r ≡ Ok a → IsPreludeFault f (result_err (g a)) → IsPreludeFault f (result_err (r >>= g))
then_fault r g a f e h = subst (λ s. IsPreludeFault f (result_err s)) (sym (bind_ok r g a e)) h

module _ (fs : List (List ℕ × Value)) where
  -- ---- the header

  module _ (f : PreludeFault) where
    pub no_concurrent : IsPreludeFault f (result_err (field int_of concurrent_name fs)) → IsPreludeFault f (result_err (header_of fs))
    unfolding header_of
    no_concurrent h = later_fault _ _ f h

    pub no_version : (c : ℤ) → field int_of concurrent_name fs ≡ Ok c → IsPreludeFault f (result_err (field string_of version_name fs)) → IsPreludeFault f (result_err (header_of fs))
    unfolding header_of
    no_version c a h = then_fault _ _ c f a (later_fault _ _ f h)

    pub no_server : (c : ℤ) (v : List ℕ) → field int_of concurrent_name fs ≡ Ok c → field string_of version_name fs ≡ Ok v → IsPreludeFault f (result_err (field string_of server_name fs)) → IsPreludeFault f (result_err (header_of fs))
    unfolding header_of
    no_server c v a b h = then_fault _ _ c f a (then_fault _ _ v f b (later_fault _ _ f h))

    pub no_tool : (c : ℤ) (v s : List ℕ) → field int_of concurrent_name fs ≡ Ok c → field string_of version_name fs ≡ Ok v → field string_of server_name fs ≡ Ok s → IsPreludeFault f (result_err (field string_of tool_name fs)) → IsPreludeFault f (result_err (header_of fs))
    unfolding header_of
    no_tool c v s a b d h = then_fault _ _ c f a (then_fault _ _ v f b (then_fault _ _ s f d (later_fault _ _ f h)))

  module _ (c : ℤ) (v s t : List ℕ) (a : field int_of concurrent_name fs ≡ Ok c) (b : field string_of version_name fs ≡ Ok v) (d : field string_of server_name fs ≡ Ok s) (e : field string_of tool_name fs ≡ Ok t) where
    all_there : header_of fs ≡ of_version v (record { concurrent = c; server = s; tool = t })
    unfolding header_of
    all_there = bind_ok _ _ c a ∙ bind_ok _ _ v b ∙ bind_ok _ _ s d ∙ bind_ok _ _ t e

    pub right_version : bytes_eq v format_version ≡ true → result_err (header_of fs) ≡ None
    right_version h = ap result_err all_there ∙ rw h refl

    pub other_version : bytes_eq v format_version ≡ false → result_err (header_of fs) ≡ Some (wrong_version v)
    other_version h = ap result_err all_there ∙ rw h refl

  -- ---- metadata

  module _ (f : PreludeFault) where
    pub no_db : IsPreludeFault f (result_err (field string_of db_name fs)) → IsPreludeFault f (result_err (meta_of fs))
    unfolding meta_of
    no_db h = later_fault _ _ f h

    pub no_coll : (db : List ℕ) → field string_of db_name fs ≡ Ok db → IsPreludeFault f (result_err (field string_of collection_name fs)) → IsPreludeFault f (result_err (meta_of fs))
    unfolding meta_of
    no_coll db a h = then_fault _ _ db f a (later_fault _ _ f h)

    pub no_text : (db coll : List ℕ) → field string_of db_name fs ≡ Ok db → field string_of collection_name fs ≡ Ok coll → IsPreludeFault f (result_err (field string_of metadata_name fs)) → IsPreludeFault f (result_err (meta_of fs))
    unfolding meta_of
    no_text db coll a b h = then_fault _ _ db f a (then_fault _ _ coll f b (later_fault _ _ f h))

  module _ (db coll text : List ℕ) (a : field string_of db_name fs ≡ Ok db) (b : field string_of collection_name fs ≡ Ok coll) (d : field string_of metadata_name fs ≡ Ok text) where
    all_read : meta_of fs ≡ of_namespace (named db coll) (record { ns = named db coll; text = text })
    unfolding meta_of
    all_read = bind_ok _ _ db a ∙ bind_ok _ _ coll b ∙ bind_ok _ _ text d

    pub right_ns : is_namespace (named db coll) ≡ true → meta_of fs ≡ Ok (record { ns = named db coll; text = text })
    right_ns h = all_read ∙ rw h refl

    pub wrong_ns : is_namespace (named db coll) ≡ false → result_err (meta_of fs) ≡ Some bad_ns
    wrong_ns h = ap result_err all_read ∙ rw h refl
