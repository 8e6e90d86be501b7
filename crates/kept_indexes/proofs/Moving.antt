-- What is kept of each collection as the rows of one of them move.
use Rattle.std.proofs.Common.{◌≡◌, List, true, false, refl, sym, ap, ◌∙◌, subst, Option, Some, None, Result, Ok, Err, inl, inr}
use Rattle.std.specs.Prelude.{◌⊎◌, OnOk, OnErr, is_some}
use Rattle.std.specs.FinMap as map
use Rattle.std.proofs.lemmas.Bool.{cases_Bool}
use Rattle.bson_value.specs.declared.namespace.NsName.{NsName}
use Rattle.bson_value.specs.NamespaceOrder.{namespace_cmp}
use Rattle.state_model.specs.Keys.{Key, same_ns}
use Rattle.state_model.proofs.Keys.{ns_is, ns_turn}
use Rattle.state_model.proofs.Maps.{ns_insert_here, ns_insert_else, ns_remove_else}
use Rattle.coll_state.specs.Rows.{Document, Table, Rows, AreSound, key_in, id_of}
use Rattle.coll_state.specs.Changes.{Tables, put_table, drop_table, or_fresh, on_found, put, remove}
use Rattle.coll_state.proofs.RowLists.{rising_put, rising_drop}
use Rattle.index_build.specs.Owned.{Holding}
use Rattle.history_model.specs.Indexes.{IndexesHold}
use Rattle.kept_indexes.specs.Kept.{KeptCollections, plans_of, IsKept, kept_at, AreKept, AreElsewhere, HasIndexes}
use Rattle.kept_indexes.specs.Moves.{Becomes, ArePut, AreTakenOut}
use Rattle.kept_indexes.proofs.Over.{over_put, over_taken}

-- ---- names

pub names_differ : {X : Type 0} (s : map.FinMap namespace_cmp X) (m n : NsName) (x : X) → same_ns m n ≡ false → map.get (map.insert s m x) n ≡ map.get s n
names_differ s m n x e = ns_insert_else s m x n (ns_turn m n false e)

pub names_differ_removed : {X : Type 0} (s : map.FinMap namespace_cmp X) (m n : NsName) → same_ns m n ≡ false → map.get (map.remove s m) n ≡ map.get s n
names_differ_removed s m n e = ns_remove_else s m n (ns_turn m n false e)

-- ---- what is kept of one collection

abbrev pub KeptIn : Tables → NsName → List Holding → Type 0
KeptIn ts n hs = (t : Table) × (map.get ts n ≡ Some t) × IsKept t hs

-- all but one stand as before, of which something is kept again
mostly_kept : (cs cs' : KeptCollections) (r s : Rows) (n : NsName) → AreKept cs r → AreElsewhere n r s → ((m : NsName) → same_ns n m ≡ false → kept_at cs' m ≡ kept_at cs m) →
    ((hs : List Holding) → kept_at cs' n ≡ Some hs → KeptIn s.tables n hs) → AreKept cs' s
mostly_kept cs cs' r s n kept elsewhere others here m hs at = by (cases_Bool (same_ns n m))
  where
    by : (same_ns n m ≡ true) ⊎ (same_ns n m ≡ false) → KeptIn s.tables m hs
    by (inl e) =
        let is = ns_is n m e in
        subst (λ (z : NsName). KeptIn s.tables z hs) is (here hs (ap (kept_at cs') is ∙ at))
    by (inr e) = (let k = kept m hs (sym (others m e) ∙ at) in (k.0, elsewhere m e ∙ k.1, k.2))

pub more_kept : (cs cs' : KeptCollections) (r : Rows) (n : NsName) → AreKept cs r → ((m : NsName) → same_ns n m ≡ false → kept_at cs' m ≡ kept_at cs m) →
    ((hs : List Holding) → kept_at cs' n ≡ Some hs → KeptIn r.tables n hs) → AreKept cs' r
more_kept cs cs' r n kept others here = mostly_kept cs cs' r r n kept (λ m e. refl) others here

pub elsewhere_keeps : (cs cs' : KeptCollections) (r s : Rows) (n : NsName) → AreKept cs r → AreElsewhere n r s → kept_at cs' n ≡ None → ((m : NsName) → same_ns n m ≡ false → kept_at cs' m ≡ kept_at cs m) → AreKept cs' s
elsewhere_keeps cs cs' r s n kept elsewhere none others = mostly_kept cs cs' r s n kept elsewhere others (λ hs at. absurd (no_some hs (sym none ∙ at)))
  where
    no_some : (hs : List Holding) → None ≡ Some hs → ⊥
    no_some hs e = cc

-- ---- a collection that is taken out, and in again with other indexes where there is memory

abbrev Moved : (List Holding → List Holding → Type 0) → KeptCollections → NsName → List Holding → Type 0
Moved P cs n gs = (hs : List Holding) × (kept_at cs n ≡ Some hs) × P hs gs

no_indexes : (gs : List Holding) → None ≡ Some gs → ⊥
no_indexes gs e = cc

same_indexes : (hs gs : List Holding) → Some hs ≡ Some gs → hs ≡ gs
same_indexes hs gs e = cc

-- nothing is kept
pub none_moved : (P : List Holding → List Holding → Type 0) (cs cs' : KeptCollections) (n : NsName) → kept_at cs' n ≡ None → (gs : List Holding) → kept_at cs' n ≡ Some gs → Moved P cs n gs
none_moved P cs cs' n e gs at = absurd (no_indexes gs (sym e ∙ at))

pub none_becomes : (P : List Holding → List Holding → Type 0) (o p : Option (List Holding)) → o ≡ None → p ≡ None → Becomes P o p
none_becomes P o p e f = subst (λ (x : Option (List Holding)). Becomes P x p) (sym e) (subst (Becomes P None) (sym f) tt)

-- these indexes are kept, or nothing is
pub taken_in : {E : Type 0} (P : List Holding → List Holding → Type 0) (cs mid cs' : KeptCollections) (n : NsName) (hs is : List Holding) (r : Result (Unit {0}) E) → kept_at cs n ≡ Some hs → kept_at mid n ≡ None → P hs is → OnOk r (kept_at cs' n ≡ Some is) → OnErr r (cs' ≡ mid) →
    (gs : List Holding) → kept_at cs' n ≡ Some gs → Moved P cs n gs
taken_in P cs mid cs' n hs is (Ok u) e f p ok err gs at = (hs, e, subst (P hs) (same_indexes is gs (sym ok ∙ at)) p)
taken_in P cs mid cs' n hs is (Err x) e f p ok err gs at = none_moved P cs mid n f gs (ap (λ (k : KeptCollections). kept_at k n) (sym err) ∙ at)

pub becomes : {E : Type 0} (P : List Holding → List Holding → Type 0) (o p : Option (List Holding)) (hs is : List Holding) (r : Result (Unit {0}) E) → o ≡ Some hs → P hs is → OnOk r (p ≡ Some is) → OnOk r (Becomes P o p)
becomes P o p hs is (Ok u) e h ok = subst (λ (x : Option (List Holding)). Becomes P x p) (sym e) (subst (Becomes P (Some hs)) (sym ok) h)
becomes P o p hs is (Err x) e h ok = ok

pub others_stay : {E : Type 0} (cs cs' : KeptCollections) (m : NsName) (r : Result (Unit {0}) E) → OnOk r ((n : NsName) → same_ns m n ≡ false → kept_at cs' n ≡ kept_at cs n) → OnErr r (cs' ≡ cs) → (n : NsName) → same_ns m n ≡ false → kept_at cs' n ≡ kept_at cs n
others_stay cs cs' m (Ok u) ok err n e = ok n e
others_stay cs cs' m (Err x) ok err n e = ap (λ (k : KeptCollections). kept_at k n) err

pub gone_again : {E : Type 0} (mid cs' : KeptCollections) (n : NsName) (r : Result (Unit {0}) E) → kept_at mid n ≡ None → OnErr r (cs' ≡ mid) → OnErr r (kept_at cs' n ≡ None)
gone_again mid cs' n (Ok u) f err = err
gone_again mid cs' n (Err x) f err = ap (λ (k : KeptCollections). kept_at k n) err ∙ f

-- ---- indexes that were built

pub built_in : {E : Type 0} (cs cs' : KeptCollections) (r : Rows) (n : NsName) (is : List Holding) (x : Result (Unit {0}) E) → AreKept cs r → KeptIn r.tables n is → OnOk x (kept_at cs' n ≡ Some is) → OnErr x (cs' ≡ cs) → (gs : List Holding) → kept_at cs' n ≡ Some gs → KeptIn r.tables n gs
built_in cs cs' r n is (Ok u) kept built ok err gs at = subst (KeptIn r.tables n) (same_indexes is gs (sym ok ∙ at)) built
built_in cs cs' r n is (Err e) kept built ok err gs at = kept n gs (ap (λ (k : KeptCollections). kept_at k n) (sym err) ∙ at)

pub has_built : {E : Type 0} (cs : KeptCollections) (r : Rows) (n : NsName) (is : List Holding) (x : Result (Unit {0}) E) → OnOk x (kept_at cs n ≡ Some is) → OnOk x (HasIndexes cs n r)
has_built cs r n is (Ok u) ok = inr (ap (λ (o : Option (List Holding)). is_some o) ok)
has_built cs r n is (Err e) ok = ok

-- ---- a document that is put

abbrev put_in : Key → Document → Rows → Option Table → Table
put_in k d r o = put_table k d (or_fresh r.count o)

pub put_elsewhere : (n : NsName) (d : Document) (r : Rows) → AreElsewhere n r (put n d r)
put_elsewhere n d r m e = names_differ r.tables n m (put_in (key_in (id_of d)) d r (map.get r.tables n)) e

put_there : (n : NsName) (d : Document) (r : Rows) (t : Table) → map.get r.tables n ≡ Some t → map.get (put n d r).tables n ≡ Some (put_table (key_in (id_of d)) d t)
put_there n d r t e =
    ns_insert_here r.tables n (put_in (key_in (id_of d)) d r (map.get r.tables n)) ∙ ap (λ (o : Option Table). Some (put_in (key_in (id_of d)) d r o)) e

pub put_keeps : (cs cs' : KeptCollections) (r : Rows) (n : NsName) (d : Document) → AreKept cs r → AreSound r → IndexesHold (put n d r) → ((m : NsName) → same_ns n m ≡ false → kept_at cs' m ≡ kept_at cs m) →
    ((gs : List Holding) → kept_at cs' n ≡ Some gs → (hs : List Holding) × (kept_at cs n ≡ Some hs) × ArePut (key_in (id_of d)) d hs gs) → AreKept cs' (put n d r)
put_keeps cs cs' r n d kept sound hold others here = mostly_kept cs cs' r (put n d r) n kept (put_elsewhere n d r) others again
  where
    again : (gs : List Holding) → kept_at cs' n ≡ Some gs → KeptIn (put n d r).tables n gs
    again gs at =
        let h = here gs at in
        let k = kept n h.0 h.1 in
        let t = k.0 in
        let key = key_in (id_of d) in
        let there = put_there n d r t k.1 in
        let is_sound = (sound n t k.1).0 in
        let rising = rising_put 0 t.rows t.next key d is_sound.0 is_sound.1 in
        (put_table key d t, there, record { over = over_put t.rows h.0 gs (plans_of (map.values t.indexes)) 0 0 t.next key d k.2.over h.2 k.2.rising rising; hold = hold n (put_table key d t) there; rising = rising })

-- ---- a document that is taken out

remove_elsewhere : (n : NsName) (k : Key) (r : Rows) → AreElsewhere n r (remove n k r)
remove_elsewhere n k r m e = by (map.get r.tables n)
  where
    by : (o : Option Table) → map.get (on_found (drop_table k) n o r.tables) m ≡ map.get r.tables m
    by None = refl
    by (Some t) = names_differ r.tables n m (drop_table k t) e

remove_there : (n : NsName) (k : Key) (r : Rows) (t : Table) → map.get r.tables n ≡ Some t → map.get (remove n k r).tables n ≡ Some (drop_table k t)
remove_there n k r t e = ap (λ (o : Option Table). map.get (on_found (drop_table k) n o r.tables) n) e ∙ ns_insert_here r.tables n (drop_table k t)

pub remove_keeps : (cs cs' : KeptCollections) (r : Rows) (n : NsName) (k : Key) → AreKept cs r → IndexesHold (remove n k r) → ((m : NsName) → same_ns n m ≡ false → kept_at cs' m ≡ kept_at cs m) →
    ((gs : List Holding) → kept_at cs' n ≡ Some gs → (hs : List Holding) × (kept_at cs n ≡ Some hs) × AreTakenOut k hs gs) → AreKept cs' (remove n k r)
remove_keeps cs cs' r n k kept hold others here = mostly_kept cs cs' r (remove n k r) n kept (remove_elsewhere n k r) others again
  where
    again : (gs : List Holding) → kept_at cs' n ≡ Some gs → KeptIn (remove n k r).tables n gs
    again gs at =
        let h = here gs at in
        let w = kept n h.0 h.1 in
        let t = w.0 in
        let there = remove_there n k r t w.1 in
        let rising = rising_drop 0 t.rows k w.2.rising in
        (drop_table k t, there, record { over = over_taken t.rows h.0 gs (plans_of (map.values t.indexes)) 0 0 k w.2.over h.2 w.2.rising rising; hold = hold n (drop_table k t) there; rising = rising })
