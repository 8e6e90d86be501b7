-- What is added to a part of collections leaves a part, which shows the commands what they look at.
use Rattle.std.proofs.Common.{◌≡◌, List, [], ◌∷◌, ◌++◌, length, Bool, true, false, refl, sym, ap, ◌∙◌, subst, arith, Option, Some, None}
use Rattle.std.specs.Prelude.{⊤, is_some, if◌then◌else◌}
use Rattle.std.specs.FinMap as map
use Rattle.bson_value.specs.declared.namespace.NsName.{NsName}
use Rattle.bson_value.specs.declared.value.Value.{Value}
use Rattle.bson_value.specs.NamespaceOrder.{namespace_cmp}
use Rattle.bson_encode.specs.Key.{key_of}
use Rattle.json_tree.specs.declared.tree.Tree.{Tree}
use Rattle.state_model.specs.Keys.{Key, key_cmp, same_key, same_ns}
use Rattle.state_model.specs.States.{no_options}
use Rattle.state_model.proofs.Keys.{ns_is, key_is, key_refl}
use Rattle.state_model.proofs.Maps.{ns_insert_here, ns_insert_else}
use Rattle.coll_state.specs.Changes.{document_of, document_in, document_at, put_table, put, or_fresh, fresh_table, described, under_names, describe, no_rows}
use Rattle.coll_state.specs.Rows.{Document, Row, Rows, Table, row_of, id_of, key_in}
use Rattle.schedule_model.specs.declared.command.DocumentCommand.{DocumentCommand}
use Rattle.history_model.specs.Refusals.{is_there, rows_in, definitions_in, namespace_of}
use Rattle.command_refusals.specs.Keyed.{AllKeyed, AreKeyed}
use Rattle.transaction_indexes.specs.Shown.{id_in, ShowsIn}
use Rattle.transactions.specs.Shown.{ShowAll}
use Rattle.transactions.specs.Scratch.{GrowsIn, Grows, CoversIn, Covers, HaveNoIndexes, Others, with_collection, MayAdd, IsPart, HasCollection, IsShown}
use Rattle.transactions.proofs.Keys.{put_keyed_rows, describe_keys, no_keys}
use Rattle.transactions.proofs.Showing.{the_table, put_document_at}
use Rattle.kept_indexes.proofs.Tests.{same_truth}

-- ---- a part shows what it covers

same_option : {A : Type 0} (o p : Option A) → ((a : A) → o ≡ Some a → p ≡ Some a) → ((a : A) → p ≡ Some a → o ≡ Some a) → o ≡ p
same_option None None f g = refl
same_option None (Some a) f g = g a refl
same_option (Some a) p f g = sym (f a refl)

shows_in : (v : Option Value) (o p : Option Table) → GrowsIn o p → CoversIn v o p → ShowsIn v o p
shows_in v o p h c = record {
  there = same_truth (is_some o) (is_some p) h.there c.there;
  document = λ id e. same_option (document_in (key_of id) o) (document_in (key_of id) p) (λ d f. h.document (key_of id) d f) (λ d f. c.document id d e f);
}

abbrev pub AllCovered : List DocumentCommand → Rows → Rows → Type 0
AllCovered [] s r = ⊤
AllCovered (c ∷ cs) s r = Covers c s r × AllCovered cs s r

pub all_shown : (cs : List DocumentCommand) (s r : Rows) → Grows s r → AllCovered cs s r → ShowAll cs s r
all_shown [] s r h a = tt
all_shown (c ∷ cs) s r h a = (shows_in (id_in c) (map.get s.tables (namespace_of c)) (map.get r.tables (namespace_of c)) (h (namespace_of c)) a.0, all_shown cs s r h a.1)

covers_grown : (v : Option Value) (o q p : Option Table) → GrowsIn o q → CoversIn v o p → CoversIn v q p
covers_grown v o q p g c = record {
  there = λ e. g.there (c.there e);
  document = λ id d e f. g.document (key_of id) d (c.document id d e f);
}

all_grown : (cs : List DocumentCommand) (s t r : Rows) → Grows s t → AllCovered cs s r → AllCovered cs t r
all_grown [] s t r g a = tt
all_grown (c ∷ cs) s t r g a = (covers_grown (id_in c) (map.get s.tables (namespace_of c)) (map.get t.tables (namespace_of c)) (map.get r.tables (namespace_of c)) (g (namespace_of c)) a.0, all_grown cs s t r g a.1)

-- what holds of a part while commands are shown
pub record IsShowing (cs : List DocumentCommand) (s r : Rows) : Type 0 where
  pub part : IsPart s r
  pub covered : AllCovered cs s r

nothing_grows : (r : Rows) → Grows no_rows r
nothing_grows r n = subst (λ (o : Option Table). GrowsIn o (map.get r.tables n)) (sym (map.get-empty {X = Table} namespace_cmp n)) (record { there = λ e. cc; document = λ k d e. cc })

nothing_plain : HaveNoIndexes no_rows
nothing_plain n = ap definitions_in (map.get-empty {X = Table} namespace_cmp n)

pub showing_none : (s r : Rows) → s ≡ no_rows → IsShowing [] s r
showing_none s r e = subst (λ (z : Rows). IsShowing [] z r) (sym e) (record {
  part = record { part = nothing_grows r; plain = nothing_plain; keyed = no_keys };
  covered = tt;
})

pub showing_more : (ds : List DocumentCommand) (c : DocumentCommand) (s t r : Rows) → IsShowing ds s r → IsShown c s t r → IsShowing (ds ++ c ∷ []) t r
showing_more ds c s t r h g = record {
  part = g.part;
  covered = joined ds (all_grown ds s t r g.grows h.covered);
}
  where
    joined : (es : List DocumentCommand) → AllCovered es t r → AllCovered (es ++ c ∷ []) t r
    joined [] x = (g.covers, tt)
    joined (d ∷ es) x = (x.0, joined es x.1)

-- ---- a collection that is made

grows_same : (o q : Option Table) → q ≡ o → GrowsIn o q
grows_same o q e = record {
  there = λ f. ap is_some e ∙ f;
  document = λ k d f. ap (document_in k) e ∙ f;
}

all_same : (s : Rows) → Grows s s
all_same s m = grows_same (map.get s.tables m) (map.get s.tables m) refl

grows_none : (o q : Option Table) → is_some o ≡ false → GrowsIn o q
grows_none None q e = record { there = λ f. cc; document = λ k d f. cc }
grows_none (Some t) q e = cc

abbrev made_table : Rows → Table
made_table s = described no_options (under_names []) (fresh_table s.count no_options)

made_here : (n : NsName) (s : Rows) → is_there n s ≡ false → map.get (describe n no_options [] s).tables n ≡ Some (made_table s)
made_here n s e =
    ns_insert_here s.tables n (described no_options (under_names []) (or_fresh s.count (map.get s.tables n)))
    ∙ ap (λ (o : Option Table). Some (described no_options (under_names []) (or_fresh s.count o))) (gone (map.get s.tables n) e)
  where
    gone : (o : Option Table) → is_some o ≡ false → o ≡ None
    gone None f = refl
    gone (Some t) f = cc

made_others : (n : NsName) (s : Rows) → Others n s (describe n no_options [] s)
made_others n s m e = ns_insert_else s.tables n (described no_options (under_names []) (or_fresh s.count (map.get s.tables n))) m e

no_entries : map.entries (map.empty {X = Tree} {R = key_cmp}) ≡ []
no_entries = none (map.entries (map.empty {X = Tree} {R = key_cmp})) (sym (map.len-entries (map.empty {X = Tree} {R = key_cmp})) ∙ map.len-empty key_cmp Tree)
  where
    none : (es : List (Key × Tree)) → length es ≡ 0 → es ≡ []
    none [] e = refl
    none (x ∷ es) e = absurd (omega (arith, e))

empty_grows : (s : Rows) (p : Option Table) → is_some p ≡ true → GrowsIn (Some (made_table s)) p
empty_grows s p e = record { there = λ f. e; document = λ k d f. absurd (no_document d f) }
  where
    no_document : (d : Document) → None ≡ Some d → ⊥
    no_document d f = cc

made_grows : (n : NsName) (s : Rows) → is_there n s ≡ false → Grows s (describe n no_options [] s)
made_grows n s t m = by (same_ns m n) refl
  where
    by : (b : Bool) → same_ns m n ≡ b → GrowsIn (map.get s.tables m) (map.get (describe n no_options [] s).tables m)
    by true e = grows_none (map.get s.tables m) (map.get (describe n no_options [] s).tables m) (ap (λ (z : NsName). is_there z s) (ns_is m n e) ∙ t)
    by false e = grows_same (map.get s.tables m) (map.get (describe n no_options [] s).tables m) (made_others n s m e)

made_part : (n : NsName) (s r : Rows) → is_there n s ≡ false → is_there n r ≡ true → IsPart s r → IsPart (describe n no_options [] s) r
made_part n s r t u h = record {
  part = λ m. part m (same_ns m n) refl;
  plain = λ m. plain m (same_ns m n) refl;
  keyed = describe_keys n no_options [] s h.keyed;
}
  where
    part : (m : NsName) (b : Bool) → same_ns m n ≡ b → GrowsIn (map.get (describe n no_options [] s).tables m) (map.get r.tables m)
    part m true e =
        subst (λ (z : NsName). GrowsIn (map.get (describe n no_options [] s).tables z) (map.get r.tables z)) (sym (ns_is m n e))
        (subst (λ (o : Option Table). GrowsIn o (map.get r.tables n)) (sym (made_here n s t)) (empty_grows s (map.get r.tables n) u))
    part m false e = subst (λ (o : Option Table). GrowsIn o (map.get r.tables m)) (sym (made_others n s m e)) (h.part m)

    plain : (m : NsName) (b : Bool) → same_ns m n ≡ b → definitions_in (map.get (describe n no_options [] s).tables m) ≡ []
    plain m true e = ap (λ (z : NsName). definitions_in (map.get (describe n no_options [] s).tables z)) (ns_is m n e) ∙ (ap definitions_in (made_here n s t) ∙ no_entries)
    plain m false e = ap definitions_in (made_others n s m e) ∙ h.plain m

pub has_collection : (n : NsName) (old new r : Rows) → new ≡ with_collection n old → is_there n r ≡ true → IsPart old r → HasCollection n old new r
has_collection n old new r e u p = subst (λ (z : Rows). HasCollection n old z r) (sym e) (by (is_there n old) refl)
  where
    by : (b : Bool) → is_there n old ≡ b → HasCollection n old (if b then old else describe n no_options [] old) r
    by true f = record { part = p; grows = all_same old; there = f }
    by false f = record {
      part = made_part n old r f u p;
      grows = made_grows n old f;
      there = ap (λ (o : Option Table). is_some o) (made_here n old f);
    }

-- ---- a command

no_table_covers : (v : Option Value) (o p : Option Table) → is_some p ≡ false → CoversIn v o p
no_table_covers v o None e = record { there = λ f. cc; document = λ id d f g. cc }
no_table_covers v o (Some t) e = cc

-- of no collection
pub missing_shown : (c : DocumentCommand) (n : NsName) (s r : Rows) → n ≡ namespace_of c → IsPart s r → is_there n r ≡ false → IsShown c s s r
missing_shown c n s r e p f = record {
  part = p;
  grows = all_same s;
  covers = no_table_covers (id_in c) (map.get s.tables (namespace_of c)) (map.get r.tables (namespace_of c)) (ap (λ (m : NsName). is_there m r) (sym e) ∙ f);
}

unnamed_covers : (v : Option Value) (o p : Option Table) → v ≡ None → is_some o ≡ true → CoversIn v o p
unnamed_covers v o p e t = record { there = λ f. t; document = λ id d f g. absurd (no_id id (sym e ∙ f)) }
  where
    no_id : (id : Value) → None ≡ Some id → ⊥
    no_id id f = cc

-- of no document
pub unnamed_shown : (c : DocumentCommand) (n : NsName) (old new r : Rows) → n ≡ namespace_of c → HasCollection n old new r → id_in c ≡ None → IsShown c old new r
unnamed_shown c n old new r w h e = record {
  part = h.part;
  grows = h.grows;
  covers = unnamed_covers (id_in c) (map.get new.tables (namespace_of c)) (map.get r.tables (namespace_of c)) e (ap (λ (m : NsName). is_there m new) (sym w) ∙ h.there);
}

-- of one document, which isn't there
absent_covers : (v : Option Value) (id : Value) (o p : Option Table) → v ≡ Some id → is_some o ≡ true → document_in (key_of id) p ≡ None → CoversIn v o p
absent_covers v id o p e t n = record { there = λ f. t; document = λ w d f g. absurd (none d (sym n ∙ (ap (λ (z : Value). document_in (key_of z) p) (one id w (sym e ∙ f)) ∙ g))) }
  where
    one : (a b : Value) → Some a ≡ Some b → a ≡ b
    one a b f = cc

    none : (d : Document) → None ≡ Some d → ⊥
    none d f = cc

-- a document that stands there is put
record Adds (k : Key) (d : Document) (o q p : Option Table) : Type 0 where
  a : Table
  was : o ≡ Some a
  now : q ≡ Some (put_table k d a)
  stands : document_in k p ≡ Some d

added_document : (k j : Key) (d : Document) (o q p : Option Table) → Adds k d o q p → document_in j q ≡ (if same_key j k then Some d else document_in j o)
added_document k j d o q p h = ap (document_in j) h.now ∙ (put_document_at h.a.next k j d h.a.rows ∙ ap (λ (z : Option Table). if same_key j k then Some d else document_in j z) (sym h.was))

one_document : (d e : Document) → Some d ≡ Some e → d ≡ e
one_document d e f = cc

adds_part : (k : Key) (d : Document) (o q p : Option Table) → Adds k d o q p → GrowsIn o p → GrowsIn q p
adds_part k d o q p h g = record {
  there = λ e. g.there (ap is_some h.was);
  document = λ j e f. by j e (same_key j k) refl (sym (added_document k j d o q p h) ∙ f);
}
  where
    by : (j : Key) (e : Document) (b : Bool) → same_key j k ≡ b → (if b then Some d else document_in j o) ≡ Some e → document_in j p ≡ Some e
    by j e true f w = ap (λ (z : Key). document_in z p) (key_is j k f) ∙ (h.stands ∙ w)
    by j e false f w = g.document j e w

adds_plain : (k : Key) (d : Document) (o q p : Option Table) → Adds k d o q p → definitions_in o ≡ [] → definitions_in q ≡ []
adds_plain k d o q p h e = ap definitions_in h.now ∙ (ap definitions_in (sym h.was) ∙ e)

adds_grows : (k : Key) (d : Document) (o q p : Option Table) → Adds k d o q p → GrowsIn o p → GrowsIn o q
adds_grows k d o q p h g = record {
  there = λ e. ap is_some h.now;
  document = λ j e f. added_document k j d o q p h ∙ by j e (same_key j k) refl f;
}
  where
    by : (j : Key) (e : Document) (b : Bool) → same_key j k ≡ b → document_in j o ≡ Some e → (if b then Some d else document_in j o) ≡ Some e
    by j e true f w = sym h.stands ∙ (ap (λ (z : Key). document_in z p) (sym (key_is j k f)) ∙ g.document j e w)
    by j e false f w = w

adds_covers : (v : Option Value) (id : Value) (d : Document) (o q p : Option Table) → v ≡ Some id → Adds (key_of id) d o q p → CoversIn v q p
adds_covers v id d o q p e h = record {
  there = λ f. ap is_some h.now;
  document = λ w x f g. ap (λ (z : Value). document_in (key_of z) q) (sym (one id w (sym e ∙ f))) ∙ (here ∙ (sym h.stands ∙ (ap (λ (z : Value). document_in (key_of z) p) (one id w (sym e ∙ f)) ∙ g)));
}
  where
    one : (a b : Value) → Some a ≡ Some b → a ≡ b
    one a b f = cc

    here : document_in (key_of id) q ≡ Some d
    here = added_document (key_of id) (key_of id) d o q p h ∙ ap (λ (b : Bool). if b then Some d else document_in (key_of id) o) (key_refl (key_of id))

grows_twice : (o q p : Option Table) → GrowsIn o q → GrowsIn q p → GrowsIn o p
grows_twice o q p a b = record { there = λ e. b.there (a.there e); document = λ k d e. b.document k d (a.document k d e) }

stands_keyed : (k : Key) (d : Document) (rs : List Row) → AllKeyed rs → document_of (row_of rs k) ≡ Some d → key_in (id_of d) ≡ k
stands_keyed k d [] h e = cc
stands_keyed k d (r ∷ rs) h e = by (same_key k r.key) refl e (stands_keyed k d rs h.1)
  where
    by : (b : Bool) → same_key k r.key ≡ b → document_of (if b then Some r else row_of rs k) ≡ Some d → (document_of (row_of rs k) ≡ Some d → key_in (id_of d) ≡ k) → key_in (id_of d) ≡ k
    by true f g rest = ap (λ (z : Document). key_in (id_of z)) (sym (one_document r.document d g)) ∙ (sym h.0 ∙ sym (key_is k r.key f))
    by false f g rest = rest g

keyed_in : (r : Rows) (n : NsName) → AreKeyed r → AllKeyed (rows_in (map.get r.tables n))
keyed_in r n h = by (map.get r.tables n) refl
  where
    by : (o : Option Table) → map.get r.tables n ≡ o → AllKeyed (rows_in o)
    by None e = tt
    by (Some t) e = h n t e

rows_document : (k : Key) (o : Option Table) → document_in k o ≡ document_of (row_of (rows_in o) k)
rows_document k None = refl
rows_document k (Some t) = refl

put_others : (n : NsName) (d : Document) (r : Rows) → Others n r (put n d r)
put_others n d r m e = ns_insert_else r.tables n (put_table (key_in (id_of d)) d (or_fresh r.count (map.get r.tables n))) m e

put_adds : (n : NsName) (id : Value) (d : Document) (mid r : Rows) → AreKeyed r → is_there n mid ≡ true → document_at n (key_of id) r.tables ≡ Some d → Adds (key_of id) d (map.get mid.tables n) (map.get (put n d mid).tables n) (map.get r.tables n)
put_adds n id d mid r k t e =
    (let a = the_table n mid t in
    let key : key_in (id_of d) ≡ key_of id = stands_keyed (key_of id) d (rows_in (map.get r.tables n)) (keyed_in r n k) (sym (rows_document (key_of id) (map.get r.tables n)) ∙ e) in
    record {
      a = a.0;
      was = a.1;
      now = ns_insert_here mid.tables n (put_table (key_in (id_of d)) d (or_fresh mid.count (map.get mid.tables n))) ∙ (λ i. Some (put_table (key i) d (or_fresh mid.count (a.1 i))));
      stands = e;
    })

abbrev AddsAt : NsName → Value → Document → Rows → Rows → Type 0
AddsAt n id d mid r = Adds (key_of id) d (map.get mid.tables n) (map.get (put n d mid).tables n) (map.get r.tables n)

put_part : (n : NsName) (id : Value) (d : Document) (mid r : Rows) → AddsAt n id d mid r → IsPart mid r → IsPart (put n d mid) r
put_part n id d mid r a h = record {
  part = λ m. part m (same_ns m n) refl;
  plain = λ m. plain m (same_ns m n) refl;
  keyed = put_keyed_rows n d mid h.keyed;
}
  where
    part : (m : NsName) (b : Bool) → same_ns m n ≡ b → GrowsIn (map.get (put n d mid).tables m) (map.get r.tables m)
    part m true g =
        subst (λ (z : NsName). GrowsIn (map.get (put n d mid).tables z) (map.get r.tables z)) (sym (ns_is m n g))
        (adds_part (key_of id) d (map.get mid.tables n) (map.get (put n d mid).tables n) (map.get r.tables n) a (h.part n))
    part m false g = subst (λ (o : Option Table). GrowsIn o (map.get r.tables m)) (sym (put_others n d mid m g)) (h.part m)

    plain : (m : NsName) (b : Bool) → same_ns m n ≡ b → definitions_in (map.get (put n d mid).tables m) ≡ []
    plain m true g =
        ap (λ (z : NsName). definitions_in (map.get (put n d mid).tables z)) (ns_is m n g)
        ∙ adds_plain (key_of id) d (map.get mid.tables n) (map.get (put n d mid).tables n) (map.get r.tables n) a (h.plain n)
    plain m false g = ap definitions_in (put_others n d mid m g) ∙ h.plain m

put_grows : (n : NsName) (id : Value) (d : Document) (mid r : Rows) → AddsAt n id d mid r → Grows mid r → Grows mid (put n d mid)
put_grows n id d mid r a h m = by (same_ns m n) refl
  where
    by : (b : Bool) → same_ns m n ≡ b → GrowsIn (map.get mid.tables m) (map.get (put n d mid).tables m)
    by true g =
        subst (λ (z : NsName). GrowsIn (map.get mid.tables z) (map.get (put n d mid).tables z)) (sym (ns_is m n g))
        (adds_grows (key_of id) d (map.get mid.tables n) (map.get (put n d mid).tables n) (map.get r.tables n) a (h n))
    by false g = grows_same (map.get mid.tables m) (map.get (put n d mid).tables m) (put_others n d mid m g)

named_in : (c : DocumentCommand) (id : Value) (old mid new r : Rows) → HasCollection (namespace_of c) old mid r → AreKeyed r → id_in c ≡ Some id → MayAdd (namespace_of c) (document_at (namespace_of c) (key_of id) r.tables) mid new → IsShown c old new r
named_in c id old mid new r h k e = by (document_at (namespace_of c) (key_of id) r.tables) refl
  where
    by : (o : Option Document) → document_at (namespace_of c) (key_of id) r.tables ≡ o → MayAdd (namespace_of c) o mid new → IsShown c old new r
    by None f a = subst (λ (z : Rows). IsShown c old z r) (sym a) (record {
      part = h.part;
      grows = h.grows;
      covers = absent_covers (id_in c) id (map.get mid.tables (namespace_of c)) (map.get r.tables (namespace_of c)) e h.there f;
    })
    by (Some d) f a =
        (let n = namespace_of c in
        let adds = put_adds n id d mid r k h.there f in
        subst (λ (z : Rows). IsShown c old z r) (sym a) (record {
          part = put_part n id d mid r adds h.part;
          grows = λ m. grows_twice (map.get old.tables m) (map.get mid.tables m) (map.get (put n d mid).tables m) (h.grows m) (put_grows n id d mid r adds h.part.part m);
          covers = adds_covers (id_in c) id d (map.get mid.tables n) (map.get (put n d mid).tables n) (map.get r.tables n) e adds;
        }))

-- of one document, if it is there
pub named_shown : (c : DocumentCommand) (n : NsName) (id : Value) (old mid new r : Rows) → n ≡ namespace_of c → HasCollection n old mid r → AreKeyed r → id_in c ≡ Some id → MayAdd n (document_at n (key_of id) r.tables) mid new → IsShown c old new r
named_shown c n id old mid new r e h k i a =
    named_in c id old mid new r (subst (λ (m : NsName). HasCollection m old mid r) e h) k i (subst (λ (m : NsName). MayAdd m (document_at m (key_of id) r.tables) mid new) e a)

-- ---- answers of calls
