-- Rows that show commands the same still do after the same write of a document, and have the same definitions.
use Rattle.std.proofs.Common.{◌≡◌, ℕ, List, [], ◌∷◌, Bool, true, false, refl, sym, ap, ◌∙◌, subst, Option, Some, None}
use Rattle.std.specs.Prelude.{⊤, is_some, option_map, if◌then◌else◌}
use Rattle.std.specs.FinMap as map
use Rattle.bson_value.specs.declared.namespace.NsName.{NsName}
use Rattle.bson_value.specs.declared.value.Value.{Value, Object}
use Rattle.bson_encode.specs.Key.{key_of}
use Rattle.doc_path.specs.declared.parts.Form.{Form}
use Rattle.state_model.specs.Keys.{Key, same_key, same_ns}
use Rattle.state_model.proofs.Keys.{ns_is, key_is}
use Rattle.state_model.proofs.Maps.{ns_insert_here, ns_insert_else}
use Rattle.coll_state.specs.Changes.{Tables, document_of, put_row, drop_row, put_table, drop_table, or_fresh, on_found}
use Rattle.coll_state.specs.Rows.{Document, Row, Rows, Table, Rising, AreSound, row_of, id_of}
use Rattle.coll_state.proofs.RowLists.{row_put_doc, row_put_else, row_drop_else, row_drop_here}
use Rattle.copy_model.specs.Writes.{SingleWrite, change_rows}
use Rattle.copy_model.specs.Writes as writes
use Rattle.schedule_model.specs.declared.command.DocumentCommand.{DocumentCommand}
use Rattle.schedule_model.specs.declared.command.DocumentCommand.TheVariants.{Insert, Replace, Update, Delete}
use Rattle.update_model.specs.declared.updated.Updated.{Updated}
use Rattle.update_model.specs.Equality.{same}
use Rattle.history_model.specs.Documents.{id_first}
use Rattle.history_model.specs.Refusals.{is_there, definitions_in, row_at, update_of, namespace_of, document_refusal}
use Rattle.history_model.specs.Commands.{RecordedWrite, unless_same, insert_changes, replace_changes, update_changes, under_id, document_changes}
use Rattle.transaction_indexes.specs.Shown.{id_in, ShowsIn}
use Rattle.transaction_indexes.proofs.Refusing.{missing_refused}
use Rattle.transactions.specs.Shown.{ShowAll}

-- ---- in one collection

document_mapped : (o : Option Row) → option_map (λ (r : Row). r.document) o ≡ document_of o
document_mapped None = refl
document_mapped (Some r) = refl

pub put_document_at : (next : ℕ) (k j : Key) (d : Document) (rs : List Row) → document_of (row_of (put_row next k d rs) j) ≡ (if same_key j k then Some d else document_of (row_of rs j))
put_document_at next k j d rs = by (same_key j k) refl
  where
    by : (b : Bool) → same_key j k ≡ b → document_of (row_of (put_row next k d rs) j) ≡ (if b then Some d else document_of (row_of rs j))
    by true e = ap (λ (z : Key). document_of (row_of (put_row next k d rs) z)) (key_is j k e) ∙ (sym (document_mapped (row_of (put_row next k d rs) k)) ∙ row_put_doc rs next k d)
    by false e = ap document_of (row_put_else rs next k j d e)

drop_document_at : (low : ℕ) (k j : Key) (rs : List Row) → Rising low rs → document_of (row_of (drop_row k rs) j) ≡ (if same_key j k then None else document_of (row_of rs j))
drop_document_at low k j rs h = by (same_key j k) refl
  where
    by : (b : Bool) → same_key j k ≡ b → document_of (row_of (drop_row k rs) j) ≡ (if b then None else document_of (row_of rs j))
    by true e = ap document_of (ap (row_of (drop_row k rs)) (key_is j k e) ∙ row_drop_here low rs k h)
    by false e = ap document_of (row_drop_else rs k j e)

put_shows : (v : Option Value) (k : Key) (d : Document) (a b : Table) → ShowsIn v (Some a) (Some b) → ShowsIn v (Some (put_table k d a)) (Some (put_table k d b))
put_shows v k d a b h = record {
  there = refl;
  document = λ id e.
      put_document_at a.next k (key_of id) d a.rows ∙ (ap (λ (o : Option Document). if same_key (key_of id) k then Some d else o) (h.document id e) ∙ sym (put_document_at b.next k (key_of id) d b.rows));
}

drop_shows : (v : Option Value) (k : Key) (a b : Table) → Rising 0 a.rows → Rising 0 b.rows → ShowsIn v (Some a) (Some b) → ShowsIn v (Some (drop_table k a)) (Some (drop_table k b))
drop_shows v k a b r s h = record {
  there = refl;
  document = λ id e.
      drop_document_at 0 k (key_of id) a.rows r ∙ (ap (λ (o : Option Document). if same_key (key_of id) k then None else o) (h.document id e) ∙ sym (drop_document_at 0 k (key_of id) b.rows s));
}

-- ---- in all of them

abbrev Both : (Table → Table) → Type 0
Both g = (v : Option Value) (a b : Table) → ShowsIn v (Some a) (Some b) → ShowsIn v (Some (g a)) (Some (g b))

set_shows : (n : NsName) (s r : Tables) (x y a b : Table) (v : Option Value) (m : NsName) → map.get s n ≡ Some a → map.get r n ≡ Some b → (ShowsIn v (Some a) (Some b) → ShowsIn v (Some x) (Some y)) →
    ShowsIn v (map.get s m) (map.get r m) → ShowsIn v (map.get (map.insert s n x) m) (map.get (map.insert r n y) m)
set_shows n s r x y a b v m p q g h = by (same_ns m n) refl
  where
    by : (c : Bool) → same_ns m n ≡ c → ShowsIn v (map.get (map.insert s n x) m) (map.get (map.insert r n y) m)
    by true e =
        (let one : m ≡ n = ns_is m n e in
        let here : ShowsIn v (Some a) (Some b) =
        subst (λ (o : Option Table). ShowsIn v o (Some b)) (ap (map.get s) one ∙ p) (subst (λ (o : Option Table). ShowsIn v (map.get s m) o) (ap (map.get r) one ∙ q) h) in
        subst (λ (o : Option Table). ShowsIn v o (map.get (map.insert r n y) m)) (sym (ap (map.get (map.insert s n x)) one ∙ ns_insert_here s n x))
        (subst (λ (o : Option Table). ShowsIn v (Some x) o) (sym (ap (map.get (map.insert r n y)) one ∙ ns_insert_here r n y)) (g here)))
    by false e =
        subst (λ (o : Option Table). ShowsIn v o (map.get (map.insert r n y) m)) (sym (ns_insert_else s n x m e))
        (subst (λ (o : Option Table). ShowsIn v (map.get s m) o) (sym (ns_insert_else r n y m e)) h)

-- ---- writes of a transaction: each puts or takes out a document of this namespace

abbrev pub IsPlain : NsName → SingleWrite → Type 0
IsPlain n (writes.Put m k d) = n ≡ m
IsPlain n (writes.Remove m k) = n ≡ m
IsPlain n _ = ⊥

abbrev pub ArePlain : NsName → List RecordedWrite → Type 0
ArePlain n [] = ⊤
ArePlain n (c ∷ cs) = IsPlain n c.0 × ArePlain n cs

plain_unless : (n : NsName) (old new : Document) (cs : List RecordedWrite) → ArePlain n cs → ArePlain n (unless_same old new cs)
plain_unless n old new cs h = elim (same (Object old) (Object new)) as (λ b. ArePlain n (elim b [ true ↦ [] | false ↦ cs ])) [ true ↦ tt | false ↦ h ]

plain_replaced : (n : NsName) (id : Value) (d : Document) (o : Option Row) → ArePlain n (replace_changes n id d o)
plain_replaced n id d None = tt
plain_replaced n id d (Some w) = plain_unless n w.document d _ (refl, tt)

plain_updated : (f : Form) (n : NsName) (id : Value) (o : Option Row) (u : Option Updated) → ArePlain n (update_changes f n id o u)
plain_updated f n id None u = tt
plain_updated f n id (Some w) None = tt
plain_updated f n id (Some w) (Some u) = plain_unless n w.document u.doc _ (refl, tt)

plain_inserted : (n : NsName) (id : Value) (d : Document) (b : Bool) → b ≡ true → ArePlain n (insert_changes b n id d)
plain_inserted n id d true e = (refl, tt)
plain_inserted n id d false e = cc

plain_under : (n : NsName) (g : Value → List RecordedWrite) (o : Option Value) → ((v : Value) → ArePlain n (g v)) → ArePlain n (under_id g o)
plain_under n g None h = tt
plain_under n g (Some v) h = h v

pub plain_changes : (f : Form) (c : DocumentCommand) (r : Rows) → is_there (namespace_of c) r ≡ true → ArePlain (namespace_of c) (document_changes f c r)
plain_changes f (Insert n d) r e = plain_under n (λ id. insert_changes (is_there n r) n id (id_first d)) (id_of d) (λ id. plain_inserted n id (id_first d) (is_there n r) e)
plain_changes f (Replace n d) r e = plain_under n (λ id. replace_changes n id (id_first d) (row_at n (key_of id) r)) (id_of d) (λ id. plain_replaced n id (id_first d) (row_at n (key_of id) r))
plain_changes f (Update n id ops) r e = plain_updated f n id (row_at n (key_of id) r) (update_of (row_at n (key_of id) r) ops)
plain_changes f (Delete n id) r e = (refl, tt)

-- a collection that is there
pub the_table : (n : NsName) (r : Rows) → is_there n r ≡ true → (t : Table) × (map.get r.tables n ≡ Some t)
the_table n r e = by (map.get r.tables n) refl e
  where
    by : (o : Option Table) → map.get r.tables n ≡ o → is_some o ≡ true → (t : Table) × (map.get r.tables n ≡ Some t)
    by None p q = cc
    by (Some t) p q = (t, p)

abbrev put_in : NsName → Key → Document → Rows → Option Table → Tables
put_in n k d r o = map.insert r.tables n (put_table k d (or_fresh r.count o))

abbrev drop_in : NsName → Key → Rows → Option Table → Tables
drop_in n k r o = on_found (drop_table k) n o r.tables

-- a write keeps what is shown
write_shows : (n : NsName) (w : SingleWrite) (s r : Rows) (v : Option Value) (m : NsName) → IsPlain n w → AreSound s → AreSound r → is_there n s ≡ true → is_there n r ≡ true → ShowsIn v (map.get s.tables m) (map.get r.tables m) →
    ShowsIn v (map.get (change_rows w s).tables m) (map.get (change_rows w r).tables m)
write_shows n (writes.Put l k d) s r v m p a b e f h =
    (let t = the_table l s (subst (λ (z : NsName). is_there z s ≡ true) p e) in
    let u = the_table l r (subst (λ (z : NsName). is_there z r ≡ true) p f) in
    subst (λ (o : Option Table). ShowsIn v (map.get (put_in l k d s o) m) (map.get (put_in l k d r (map.get r.tables l)) m)) (sym t.1)
    (subst (λ (o : Option Table). ShowsIn v (map.get (put_in l k d s (Some t.0)) m) (map.get (put_in l k d r o) m)) (sym u.1)
    (set_shows l s.tables r.tables (put_table k d t.0) (put_table k d u.0) t.0 u.0 v m t.1 u.1 (put_shows v k d t.0 u.0) h)))
write_shows n (writes.Remove l k) s r v m p a b e f h =
    (let t = the_table l s (subst (λ (z : NsName). is_there z s ≡ true) p e) in
    let u = the_table l r (subst (λ (z : NsName). is_there z r ≡ true) p f) in
    subst (λ (o : Option Table). ShowsIn v (map.get (drop_in l k s o) m) (map.get (drop_in l k r (map.get r.tables l)) m)) (sym t.1)
    (subst (λ (o : Option Table). ShowsIn v (map.get (drop_in l k s (Some t.0)) m) (map.get (drop_in l k r o) m)) (sym u.1)
    (set_shows l s.tables r.tables (drop_table k t.0) (drop_table k u.0) t.0 u.0 v m t.1 u.1 (drop_shows v k t.0 u.0 (a l t.0 t.1).0.0 (b l u.0 u.1).0.0) h)))
write_shows n (writes.Create l o) s r v m p a b e f h = absurd p
write_shows n (writes.DropColl l) s r v m p a b e f h = absurd p
write_shows n (writes.DropDb d) s r v m p a b e f h = absurd p
write_shows n (writes.AddIndex l d) s r v m p a b e f h = absurd p
write_shows n (writes.DropIndex l i) s r v m p a b e f h = absurd p

pub all_show : (n : NsName) (w : SingleWrite) (cs : List DocumentCommand) (s r : Rows) → IsPlain n w → AreSound s → AreSound r → is_there n s ≡ true → is_there n r ≡ true → ShowAll cs s r → ShowAll cs (change_rows w s) (change_rows w r)
all_show n w [] s r p a b e f h = tt
all_show n w (c ∷ cs) s r p a b e f h = (write_shows n w s r (id_in c) (namespace_of c) p a b e f h.0, all_show n w cs s r p a b e f h.1)

-- and all definitions
set_definitions : (n m : NsName) (s : Tables) (x a : Table) → map.get s n ≡ Some a → map.entries x.indexes ≡ map.entries a.indexes → definitions_in (map.get (map.insert s n x) m) ≡ definitions_in (map.get s m)
set_definitions n m s x a p h = by (same_ns m n) refl
  where
    by : (b : Bool) → same_ns m n ≡ b → definitions_in (map.get (map.insert s n x) m) ≡ definitions_in (map.get s m)
    by true e =
        (let one : m ≡ n = ns_is m n e in
        ap (λ (z : NsName). definitions_in (map.get (map.insert s n x) z)) one
        ∙ (ap definitions_in (ns_insert_here s n x) ∙ (h ∙ (ap definitions_in (sym p) ∙ ap (λ (z : NsName). definitions_in (map.get s z)) (sym one)))))
    by false e = ap definitions_in (ns_insert_else s n x m e)

pub write_definitions : (n m : NsName) (w : SingleWrite) (s : Rows) → IsPlain n w → is_there n s ≡ true → definitions_in (map.get (change_rows w s).tables m) ≡ definitions_in (map.get s.tables m)
write_definitions n m (writes.Put l k d) s p e =
    (let t = the_table l s (subst (λ (z : NsName). is_there z s ≡ true) p e) in
    subst (λ (o : Option Table). definitions_in (map.get (put_in l k d s o) m) ≡ definitions_in (map.get s.tables m)) (sym t.1) (set_definitions l m s.tables (put_table k d t.0) t.0 t.1 refl))
write_definitions n m (writes.Remove l k) s p e =
    (let t = the_table l s (subst (λ (z : NsName). is_there z s ≡ true) p e) in
    subst (λ (o : Option Table). definitions_in (map.get (drop_in l k s o) m) ≡ definitions_in (map.get s.tables m)) (sym t.1) (set_definitions l m s.tables (drop_table k t.0) t.0 t.1 refl))
write_definitions n m (writes.Create l o) s p e = absurd p
write_definitions n m (writes.DropColl l) s p e = absurd p
write_definitions n m (writes.DropDb d) s p e = absurd p
write_definitions n m (writes.AddIndex l d) s p e = absurd p
write_definitions n m (writes.DropIndex l i) s p e = absurd p

-- a command that isn't refused is of a collection that is there
pub none_there : (c : DocumentCommand) (r : Rows) → document_refusal true c r ≡ None → is_there (namespace_of c) r ≡ true
none_there c r h = by (is_there (namespace_of c) r) refl
  where
    by : (b : Bool) → is_there (namespace_of c) r ≡ b → is_there (namespace_of c) r ≡ true
    by true e = e
    by false e = (let f = sym (missing_refused c r e) ∙ h in cc)
