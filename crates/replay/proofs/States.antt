-- Calls on collections make the moves of an entry.
use Rattle.std.proofs.Common.{◌≡◌, true, false, List, [], ◌∷◌, map, refl, sym, ap, ◌∙◌, subst, inl, inr, Option, Some, None}
use Rattle.std.specs.Prelude.{◌⊎◌, option_map, is_some}
use Rattle.std.specs.FinMap as map
use Rattle.std.proofs.lemmas.Bool.{cases_Bool}
use Rattle.bson_value.specs.declared.value.Value.{Value}
use Rattle.bson_value.specs.declared.value.Value.TheVariants.{Object}
use Rattle.bson_value.specs.declared.namespace.NsName.{NsName}
use Rattle.bson_value.specs.NamespaceOrder.{namespace_cmp}
use Rattle.bson_encode.specs.Key.{key_of}
use Rattle.doc_path.specs.declared.parts.Form.{Form}
use Rattle.doc_path.specs.declared.touches.Touch.{Touch}
use Rattle.doc_path.specs.Played.{played, played_all, touch_of}
use Rattle.state_model.specs.Keys.{Key, key_cmp, same_key, same_ns}
use Rattle.state_model.specs.States.{State, Collection}
use Rattle.state_model.specs.Moves as moves
use Rattle.state_model.specs.Replay.{put_document, changed, change_document, on_there, on_collection, replay, replay_all}
use Rattle.state_model.proofs.Keys.{key_is, ns_is}
use Rattle.state_model.proofs.Maps.{key_map_same, ns_map_same, key_insert_here, ns_insert_here, key_insert_else, ns_insert_else, key_insert_same, ns_insert_same}
use Rattle.coll_state.specs.Rows.{Document, Row, Table, Rows, row_of, id_of, key_in, collection_of, state_of}
use Rattle.coll_state.specs.Changes.{put, put_under, document_of, document_in, document_at}
use Rattle.coll_state.proofs.Links.{collection_in, get_collection, get_document, put_link}
use Rattle.replay.specs.Moves.{put_moves, deltas}

-- ---- what is put twice

key_twice : {X : Type 0} (m : map.FinMap key_cmp X) (k : Key) (a b : X) → map.insert (map.insert m k a) k b ≡ map.insert m k b
key_twice m k a b = key_map_same _ _ (λ q. at q (cases_Bool (same_key q k)))
  where
    at : (q : Key) → (same_key q k ≡ true) ⊎ (same_key q k ≡ false) → map.get (map.insert (map.insert m k a) k b) q ≡ map.get (map.insert m k b) q
    at q (inl s) = subst (λ (z : Key). map.get (map.insert (map.insert m k a) k b) z ≡ map.get (map.insert m k b) z) (sym (key_is q k s)) (key_insert_here (map.insert m k a) k b ∙ sym (key_insert_here m k b))
    at q (inr s) = key_insert_else (map.insert m k a) k b q s ∙ (key_insert_else m k a q s ∙ sym (key_insert_else m k b q s))

ns_twice : {X : Type 0} (m : map.FinMap namespace_cmp X) (k : NsName) (a b : X) → map.insert (map.insert m k a) k b ≡ map.insert m k b
ns_twice m k a b = ns_map_same _ _ (λ q. at q (cases_Bool (same_ns q k)))
  where
    at : (q : NsName) → (same_ns q k ≡ true) ⊎ (same_ns q k ≡ false) → map.get (map.insert (map.insert m k a) k b) q ≡ map.get (map.insert m k b) q
    at q (inl s) = subst (λ (z : NsName). map.get (map.insert (map.insert m k a) k b) z ≡ map.get (map.insert m k b) z) (sym (ns_is q k s)) (ns_insert_here (map.insert m k a) k b ∙ sym (ns_insert_here m k b))
    at q (inr s) = ns_insert_else (map.insert m k a) k b q s ∙ (ns_insert_else m k a q s ∙ sym (ns_insert_else m k b q s))

put_twice : (k : Key) (v w : Value) (c : Collection) → put_document k w (put_document k v c) ≡ put_document k w c
put_twice k v w c = ap (λ (m : map.FinMap key_cmp Value). record { options = c.options; indexes = c.indexes; documents = m }) (key_twice c.documents k v w)

put_same : (k : Key) (v : Value) (c : Collection) → map.get c.documents k ≡ Some v → put_document k v c ≡ c
put_same k v c e = ap (λ (m : map.FinMap key_cmp Value). record { options = c.options; indexes = c.indexes; documents = m }) (key_insert_same c.documents k v e)

-- ---- a document that is there

-- with this document in this collection
abbrev with_document : NsName → Key → Value → Collection → State → State
with_document n k v c s = map.insert s n (put_document k v c)

there_changed : (n : NsName) (k : Key) (g : Value → Value) (s : State) (c : Collection) (v : Value) → map.get s n ≡ Some c → map.get c.documents k ≡ Some v →
    on_collection n (change_document k g) s ≡ with_document n k (g v) c s
there_changed n k g s c v e f = ap (λ (o : Option Collection). on_there (change_document k g) n o s) e ∙ ap (λ (o : Option Value). map.insert s n (changed g k o c)) f

put_there : (n : NsName) (k : Key) (v : Value) (s : State) (c : Collection) → map.get s n ≡ Some c → replay (moves.Put n k v) s ≡ with_document n k v c s
put_there n k v s c e = rw e refl

deltas_there : (n : NsName) (k : Key) (f : Form) (ts : List Touch) (s : State) (c : Collection) (v : Value) → map.get s n ≡ Some c → map.get c.documents k ≡ Some v →
    replay_all (deltas n k f ts) s ≡ with_document n k (played_all f (map touch_of ts) v) c s
deltas_there n k f [] s c v e g = sym (ap (map.insert s n) (put_same k v c g) ∙ ns_insert_same s n c e)
deltas_there n k f (t ∷ ts) s c v e g =
    let w = played f (touch_of t) v in
    let d = put_document k w c in
    ap (replay_all (deltas n k f ts)) (there_changed n k (played f (touch_of t)) s c v e g)
    ∙ (deltas_there n k f ts (map.insert s n d) d w (ns_insert_here s n d) (key_insert_here c.documents k w)
    ∙ (ns_twice s n d (put_document k (played_all f (map touch_of ts) w) d)
    ∙ ap (map.insert s n) (put_twice k w (played_all f (map touch_of ts) w) c)))

-- ---- a document that isn't there

none_changed : (n : NsName) (k : Key) (g : Value → Value) (s : State) (o : Option Collection) → map.get s n ≡ o → ((c : Collection) → o ≡ Some c → map.get c.documents k ≡ None) → on_there (change_document k g) n o s ≡ s
none_changed n k g s None e f = refl
none_changed n k g s (Some c) e f = ap (λ (o : Option Value). map.insert s n (changed g k o c)) (f c refl) ∙ ns_insert_same s n c e

-- the collection of a table has the documents of its rows
abbrev IsHere : NsName → Key → Option Document → Rows → Type 0
IsHere n k o s = document_at n k s.tables ≡ o

no_value : (o : Option Row) → document_of o ≡ None → option_map (λ (r : Row). Object r.document) o ≡ None
no_value None e = refl
no_value (Some r) e = cc

absent_in : (s : Rows) (n : NsName) (k : Key) (o : Option Table) → document_in k o ≡ None → (c : Collection) → collection_in o ≡ Some c → map.get c.documents k ≡ None
absent_in s n k None h c e = cc
absent_in s n k (Some t) h c e =
    let is : collection_of t ≡ c = cc in
    subst (λ (z : Collection). map.get z.documents k ≡ None) is (get_document t k ∙ no_value (row_of t.rows k) h)

pub absent_change : (s : Rows) (n : NsName) (k : Key) (g : Value → Value) → IsHere n k None s → on_collection n (change_document k g) (state_of s) ≡ state_of s
absent_change s n k g h =
    none_changed n k g (state_of s) (map.get (state_of s) n) refl (λ c e. absent_in s n k (map.get s.tables n) h c (sym (get_collection s n) ∙ e))

pub absent_deltas : (s : Rows) (n : NsName) (k : Key) (f : Form) (ts : List Touch) → IsHere n k None s → replay_all (deltas n k f ts) (state_of s) ≡ state_of s
absent_deltas s n k f [] h = refl
absent_deltas s n k f (t ∷ ts) h = ap (replay_all (deltas n k f ts)) (absent_change s n k (played f (touch_of t)) h) ∙ absent_deltas s n k f ts h

-- ---- the same by rows

record IsThere (s : Rows) (n : NsName) (k : Key) (d : Document) : Type 0 where
  collection : Collection
  here : map.get (state_of s) n ≡ Some collection
  document : map.get collection.documents k ≡ Some (Object d)

some_value : (o : Option Row) (d : Document) → document_of o ≡ Some d → option_map (λ (r : Row). Object r.document) o ≡ Some (Object d)
some_value None d e = cc
some_value (Some r) d e = ap (option_map (λ (x : Document). Object x)) e

there_in : (s : Rows) (n : NsName) (k : Key) (d : Document) (o : Option Table) → map.get s.tables n ≡ o → document_in k o ≡ Some d → IsThere s n k d
there_in s n k d None e h = cc
there_in s n k d (Some t) e h = record {
  collection = collection_of t;
  here = get_collection s n ∙ ap collection_in e;
  document = get_document t k ∙ some_value (row_of t.rows k) d h;
}

there : (s : Rows) (n : NsName) (k : Key) (d : Document) → IsHere n k (Some d) s → IsThere s n k d
there s n k d h = there_in s n k d (map.get s.tables n) refl h

-- the document that is put in the place of one
pub change_made : (s : Rows) (n : NsName) (k : Key) (g : Value → Value) (d e : Document) → IsHere n k (Some d) s → Object e ≡ g (Object d) → state_of (put_under n k e s) ≡ on_collection n (change_document k g) (state_of s)
change_made s n k g d e h is =
    let t = there s n k d h in
    put_link n k e s ∙ (put_there n k (Object e) (state_of s) t.collection t.here ∙ (ap (λ (v : Value). with_document n k v t.collection (state_of s)) is
    ∙ sym (there_changed n k g (state_of s) t.collection (Object d) t.here t.document)))

pub deltas_made : (s : Rows) (n : NsName) (k : Key) (f : Form) (ts : List Touch) (d e : Document) → IsHere n k (Some d) s → Object e ≡ played_all f (map touch_of ts) (Object d) → state_of (put_under n k e s) ≡ replay_all (deltas n k f ts) (state_of s)
deltas_made s n k f ts d e h is =
    let t = there s n k d h in
    put_link n k e s ∙ (put_there n k (Object e) (state_of s) t.collection t.here ∙ (ap (λ (v : Value). with_document n k v t.collection (state_of s)) is
    ∙ sym (deltas_there n k f ts (state_of s) t.collection (Object d) t.here t.document)))

-- ---- a document that is put by its own `_id`

put_by : (n : NsName) (d : Document) (o : Option Value) (s : Rows) → id_of d ≡ o → is_some o ≡ true → state_of (put n d s) ≡ replay_all (put_moves n d o) (state_of s)
put_by n d None s e h = cc
put_by n d (Some id) s e h = ap (λ (i : Option Value). state_of (put_under n (key_in i) d s)) e ∙ put_link n (key_of id) d s

pub put_made : (n : NsName) (d : Document) (s : Rows) → is_some (id_of d) ≡ true → state_of (put n d s) ≡ replay_all (put_moves n d (id_of d)) (state_of s)
put_made n d s h = put_by n d (id_of d) s refl h
