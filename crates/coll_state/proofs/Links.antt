-- What a call makes of the rows, without numbers.
use Rattle.std.proofs.Common.{◌≡◌, ℕ, ◌+◌, List, [], ◌∷◌, Bool, true, false, cond, not, refl, sym, ap, ◌∙◌, subst, Option, Some, None, inl, inr}
use Rattle.std.specs.Prelude.{◌⊎◌, option_map, if◌then◌else◌}
use Rattle.std.specs.Ordering.{eq_by_cmp}
use Rattle.std.specs.FinMap as map
use Rattle.std.specs.declared.cmp.Ordering.TheVariants.{Equal}
use Rattle.std.proofs.lemmas.Bool.{cases_Bool}
use Rattle.bson_value.specs.declared.namespace.NsName.{NsName}
use Rattle.bson_value.specs.declared.value.Value.{Value, Object}
use Rattle.bson_value.specs.NamespaceOrder.{namespace_cmp}
use Rattle.json_tree.specs.declared.tree.Tree.{Tree}
use Rattle.state_model.specs.Keys.{Key, key_cmp, same_key, same_ns}
use Rattle.state_model.specs.States.{State, Collection, fresh_collection, or_fresh}
use Rattle.state_model.specs.Moves.{Put, Remove, Create, DropColl, DropDb, AddIndex, DropIndex}
use Rattle.state_model.specs.Replay.{put_document, remove_document, on_there, on_collection, replay, add_index as index_added, drop_index as index_dropped}
use Rattle.state_model.proofs.Keys.{key_total, ns_total, ns_anti}
use Rattle.state_model.proofs.Maps.{key_map_same, ns_map_same, key_at_insert, ns_at_insert, key_at_remove, ns_at_remove, key_insert_else, key_remove_else}
use Rattle.coll_state.specs.Rows.{Document, Row, Table, Rows, row_of, Rising, AreSound, documents_of, collection_of, collections_of, state_of}
use Rattle.coll_state.specs.Changes.{Tables, put_table, drop_table, put_row, drop_row, fresh_table, put_under, remove, create, drop_ns, drop_db, rename, add_index, drop_index, put_index, take_index, with_incarnation, describe, described, under_names, on_found, renamed_in, or_fresh as or_fresh_table, on_there as on_there_table}
use Rattle.coll_state.specs.Definitions.{definition_name}
use Rattle.coll_state.proofs.RowLists.{same_id, row_put_doc, row_put_else, row_drop_else, row_drop_here}

abbrev pub collection_in : Option Table → Option Collection
collection_in o = option_map collection_of o

find_collections : (es : List (NsName × Table)) (n : NsName) → map.find namespace_cmp n (collections_of es) ≡ collection_in (map.find namespace_cmp n es)
find_collections [] n = refl
find_collections (e ∷ es) n = by (eq_by_cmp namespace_cmp n e.0) (find_collections es n)
  where
    by : (b : Bool) → map.find namespace_cmp n (collections_of es) ≡ collection_in (map.find namespace_cmp n es) → cond b (Some (collection_of e.1)) (map.find namespace_cmp n (collections_of es)) ≡ collection_in (cond b (Some e.1) (map.find namespace_cmp n es))
    by true h = refl
    by false h = h

pub get_collection : (s : Rows) (n : NsName) → map.get (state_of s) n ≡ collection_in (map.get s.tables n)
get_collection s n = map.get-from_entries ns_total (collections_of (map.entries s.tables)) n ∙ (find_collections (map.entries s.tables) n ∙ ap collection_in (sym (map.get-entries s.tables n)))

abbrev value_in : Option Row → Option Value
value_in o = option_map (λ (r : Row). Object r.document) o

find_documents : (rs : List Row) (k : Key) → map.find key_cmp k (documents_of rs) ≡ value_in (row_of rs k)
find_documents [] k = refl
find_documents (r ∷ rs) k = by (same_key k r.key) (find_documents rs k)
  where
    by : (b : Bool) → map.find key_cmp k (documents_of rs) ≡ value_in (row_of rs k) → cond b (Some (Object r.document)) (map.find key_cmp k (documents_of rs)) ≡ value_in (if b then Some r else row_of rs k)
    by true h = refl
    by false h = h

pub get_document : (t : Table) (k : Key) → map.get (collection_of t).documents k ≡ value_in (row_of t.rows k)
get_document t k = map.get-from_entries key_total (documents_of t.rows) k ∙ find_documents t.rows k

-- states of changed tables
insert_link : (ts : Tables) (count other : ℕ) (n : NsName) (t : Table) → state_of (record { tables = map.insert ts n t; count = count }) ≡ map.insert (state_of (record { tables = ts; count = other })) n (collection_of t)
insert_link ts count other n t = ns_map_same _ _ (λ m. get_collection (record { tables = map.insert ts n t; count = count }) m
    ∙ (ap collection_in (ns_at_insert ts n t m) ∙ (by (map.get ts m) (same_ns m n) ∙ sym (ns_at_insert (state_of (record { tables = ts; count = other })) n (collection_of t) m ∙ ap (cond (same_ns m n) (Some (collection_of t))) (get_collection (record { tables = ts; count = other }) m)))))
  where
    by : (o : Option Table) (b : Bool) → collection_in (cond b (Some t) o) ≡ cond b (Some (collection_of t)) (collection_in o)
    by o true = refl
    by o false = refl

none_link : (o : Option Table) (b : Bool) → collection_in (cond b None o) ≡ cond b None (collection_in o)
none_link o true = refl
none_link o false = refl

remove_tables : (ts : Tables) (count other : ℕ) (n : NsName) → state_of (record { tables = map.remove ts n; count = count }) ≡ map.remove (state_of (record { tables = ts; count = other })) n
remove_tables ts count other n = ns_map_same _ _ (λ m. get_collection (record { tables = map.remove ts n; count = count }) m
    ∙ (ap collection_in (ns_at_remove ts n m) ∙ (none_link (map.get ts m) (same_ns m n) ∙ sym (ns_at_remove (state_of (record { tables = ts; count = other })) n m ∙ ap (cond (same_ns m n) None) (get_collection (record { tables = ts; count = other }) m)))))

some_link : (o : Option Table) (b : Bool) → collection_in (cond b o None) ≡ cond b (collection_in o) None
some_link o true = refl
some_link o false = refl

retain_tables : (s : Rows) (p : NsName → Bool) → state_of (record { tables = map.retain_keys s.tables p; count = s.count }) ≡ map.retain_keys (state_of s) p
retain_tables s p = ns_map_same _ _ (λ m.
    let alike = λ (x : NsName) (e : namespace_cmp m x ≡ Equal). ap p (sym (ns_anti m x e)) in
    get_collection (record { tables = map.retain_keys s.tables p; count = s.count }) m
    ∙ (ap collection_in (map.get-retain_keys s.tables p m alike) ∙ (some_link (map.get s.tables m) (p m) ∙ sym (map.get-retain_keys (state_of s) p m alike ∙ ap (λ (o : Option Collection). cond (p m) o None) (get_collection s m)))))

-- one collection that is there is changed
found_link : (s : Rows) (n : NsName) (g : Table → Table) (h : Collection → Collection) (o : Option Table) → map.get s.tables n ≡ o → ((t : Table) → o ≡ Some t → collection_of (g t) ≡ h (collection_of t)) →
    state_of (record { tables = on_found g n o s.tables; count = s.count }) ≡ on_there h n (collection_in o) (state_of s)
found_link s n g h None e f = refl
found_link s n g h (Some t) e f = insert_link s.tables s.count s.count n (g t) ∙ ap (map.insert (state_of s) n) (f t refl)

on_link : (s : Rows) (n : NsName) (g : Table → Table) (h : Collection → Collection) → ((t : Table) → map.get s.tables n ≡ Some t → collection_of (g t) ≡ h (collection_of t)) →
    state_of (record { tables = on_there_table g n s.tables; count = s.count }) ≡ on_collection n h (state_of s)
on_link s n g h f = found_link s n g h (map.get s.tables n) refl f ∙ ap (λ (o : Option Collection). on_there h n o (state_of s)) (sym (get_collection s n))

with_documents : (t : Table) (m n : map.FinMap key_cmp Value) → m ≡ n → ◌≡◌ {A = Collection} (record { options = t.options; indexes = t.indexes; documents = m }) (record { options = t.options; indexes = t.indexes; documents = n })
with_documents t m n e = λ i. record { options = t.options; indexes = t.indexes; documents = e i }

put_collection : (k : Key) (d : Document) (t : Table) → collection_of (put_table k d t) ≡ put_document k (Object d) (collection_of t)
put_collection k d t = with_documents t _ _ (key_map_same _ _ (λ j. at j (cases_Bool (same_key j k))))
  where
    put_here : option_map (λ (r : Row). Object r.document) (row_of (put_row t.next k d t.rows) k) ≡ Some (Object d)
    put_here = some_of (row_of (put_row t.next k d t.rows) k) (row_put_doc t.rows t.next k d)
      where
        some_of : (o : Option Row) → option_map (λ (r : Row). r.document) o ≡ Some d → value_in o ≡ Some (Object d)
        some_of None e = cc
        some_of (Some r) e = ap (option_map (λ (x : Document). Object x)) e

    at : (j : Key) → (same_key j k ≡ true) ⊎ (same_key j k ≡ false) → map.get (collection_of (put_table k d t)).documents j ≡ map.get (map.insert (collection_of t).documents k (Object d)) j
    at j (inl s) = get_document (put_table k d t) j ∙ (subst (λ (z : Key). value_in (row_of (put_row t.next k d t.rows) z) ≡ Some (Object d)) (sym (same_id j k s)) put_here
        ∙ sym (key_at_insert (collection_of t).documents k (Object d) j ∙ ap (λ (b : Bool). cond b (Some (Object d)) (map.get (collection_of t).documents j)) s))
    at j (inr s) = get_document (put_table k d t) j ∙ (ap value_in (row_put_else t.rows t.next k j d s) ∙ sym (key_insert_else (collection_of t).documents k (Object d) j s ∙ get_document t j))

drop_collection : (k : Key) (t : Table) → Rising 0 t.rows → collection_of (drop_table k t) ≡ remove_document k (collection_of t)
drop_collection k t up = with_documents t _ _ (key_map_same _ _ (λ j. at j (cases_Bool (same_key j k))))
  where
    at : (j : Key) → (same_key j k ≡ true) ⊎ (same_key j k ≡ false) → map.get (collection_of (drop_table k t)).documents j ≡ map.get (map.remove (collection_of t).documents k) j
    at j (inl s) = get_document (drop_table k t) j ∙ (ap value_in (subst (λ (z : Key). row_of (drop_row k t.rows) z ≡ None) (sym (same_id j k s)) (row_drop_here 0 t.rows k up))
        ∙ sym (key_at_remove (collection_of t).documents k j ∙ ap (λ (b : Bool). cond b None (map.get (collection_of t).documents j)) s))
    at j (inr s) = get_document (drop_table k t) j ∙ (ap value_in (row_drop_else t.rows k j s) ∙ sym (key_remove_else (collection_of t).documents k j s ∙ get_document t j))

fresh_of : (count : ℕ) (o : Tree) → collection_of (fresh_table count o) ≡ fresh_collection o
fresh_of count o = refl

or_fresh_link : (count : ℕ) (o : Option Table) → collection_of (or_fresh_table count o) ≡ or_fresh (collection_in o)
or_fresh_link count None = refl
or_fresh_link count (Some t) = refl

pub put_link : (n : NsName) (k : Key) (d : Document) (s : Rows) → state_of (put_under n k d s) ≡ replay (Put n k (Object d)) (state_of s)
put_link n k d s =
    insert_link s.tables (s.count + 1) s.count n (put_table k d (or_fresh_table s.count (map.get s.tables n)))
    ∙ ap (map.insert (state_of s) n) (put_collection k d (or_fresh_table s.count (map.get s.tables n)) ∙ ap (put_document k (Object d)) (or_fresh_link s.count (map.get s.tables n) ∙ ap or_fresh (sym (get_collection s n))))

pub describe_link : (n : NsName) (o : Tree) (ds : List Tree) (s : Rows) → state_of (describe n o ds s) ≡ map.insert (state_of s) n (record { options = o; indexes = under_names ds; documents = (or_fresh (map.get (state_of s) n)).documents })
describe_link n o ds s =
    let documents = ap (λ (c : Collection). c.documents) (or_fresh_link s.count (map.get s.tables n) ∙ ap or_fresh (sym (get_collection s n))) in
    insert_link s.tables (s.count + 1) s.count n (described o (under_names ds) (or_fresh_table s.count (map.get s.tables n)))
    ∙ ap (λ (m : map.FinMap key_cmp Value). map.insert (state_of s) n (record { options = o; indexes = under_names ds; documents = m })) documents

pub remove_link : (n : NsName) (k : Key) (s : Rows) → AreSound s → state_of (remove n k s) ≡ replay (Remove n k) (state_of s)
remove_link n k s sound = on_link s n (drop_table k) (remove_document k) (λ t e. drop_collection k t (sound n t e).0.0)

pub create_link : (n : NsName) (o : Tree) (s : Rows) → state_of (create n o s) ≡ replay (Create n o) (state_of s)
create_link n o s = insert_link s.tables (s.count + 1) s.count n (fresh_table s.count o) ∙ ap (map.insert (state_of s) n) (fresh_of s.count o)

pub drop_link : (n : NsName) (s : Rows) → state_of (drop_ns n s) ≡ replay (DropColl n) (state_of s)
drop_link n s = remove_tables s.tables s.count s.count n

pub drop_db_link : (d : List ℕ) (s : Rows) → state_of (drop_db d s) ≡ replay (DropDb d) (state_of s)
drop_db_link d s = retain_tables s (λ n. not (same_key n.db d))

pub add_index_link : (n : NsName) (d : Tree) (s : Rows) → state_of (add_index n d s) ≡ replay (AddIndex n (definition_name d) d) (state_of s)
add_index_link n d s = on_link s n (put_index (definition_name d) d) (index_added (definition_name d) d) (λ t e. refl)

pub drop_index_link : (n : NsName) (i : Key) (s : Rows) → state_of (drop_index n i s) ≡ replay (DropIndex n i) (state_of s)
drop_index_link n i s = on_link s n (take_index i) (index_dropped i) (λ t e. refl)

pub rename_link : (from to : NsName) (t : Table) (s : Rows) → map.get s.tables from ≡ Some t → state_of (rename from to s) ≡ map.insert (map.remove (state_of s) from) to (collection_of t)
rename_link from to t s e =
    ap (λ (o : Option Table). state_of (record { tables = renamed_in from o to s.count s.tables; count = s.count + 1 })) e
    ∙ (insert_link (map.remove s.tables from) (s.count + 1) s.count to (with_incarnation s.count t)
    ∙ ap (λ (z : State). map.insert z to (collection_of t)) (remove_tables s.tables s.count s.count from))
