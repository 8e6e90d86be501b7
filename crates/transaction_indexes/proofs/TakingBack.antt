-- Indexes from which the documents that changes name are taken out, and which those that stand are put in again.
use Rattle.std.proofs.Common.{◌≡◌, ℕ, zero, suc, ◌<◌, List, [], ◌∷◌, ◌++◌, length, take, get_or, Bool, true, false, cond, refl, sym, ap, ◌∙◌, subst, arith, Option, Some, None}
use Rattle.std.specs.Prelude.{⊤, ◌&&◌, IfSome, is_some, option_map, if◌then◌else◌}
use Rattle.std.specs.FinMap as map
use Rattle.std.proofs.lemmas.Bool.{and_parts}
use Rattle.bson_value.specs.declared.namespace.NsName.{NsName}
use Rattle.bson_encode.specs.Key.{key_of}
use Rattle.json_tree.specs.declared.tree.Tree.{Tree}
use Rattle.state_model.specs.Keys.{Key, key_cmp, same_key, same_ns}
use Rattle.state_model.proofs.Keys.{ns_is, key_is, ns_refl, key_refl, ns_turn}
use Rattle.state_model.proofs.Maps.{key_map_same, key_at_insert, key_at_remove, ns_insert_here, ns_insert_else}
use Rattle.coll_state.specs.declared.change.Change.{Change}
use Rattle.coll_state.specs.ChangeAll.{AreThere, changed_by, change_one, change_all}
use Rattle.coll_state.specs.Changes.{Tables, document_of, document_in, document_at, put_table, drop_table, or_fresh, on_found}
use Rattle.coll_state.specs.Rows.{Document, Row, Rows, Table, Rising, AreSound, row_of, id_of, key_in}
use Rattle.coll_state.proofs.RowLists.{row_put_else, row_drop_else}
use Rattle.history_model.specs.Indexes.{IndexesHold}
use Rattle.index_keys.specs.declared.plan.Plan.{Plan}
use Rattle.index_keys.specs.Texts.{key_texts}
use Rattle.index_build.specs.Owned.{Holding, Owned, build}
use Rattle.kept_indexes.specs.Kept.{KeptCollections, kept_at, AreKept, AreOver, paired, plans_of}
use Rattle.kept_indexes.specs.Moves.{ArePut, AreTakenOut, Becomes}
use Rattle.kept_indexes.proofs.Owned.{built_get}
use Rattle.transaction_indexes.specs.Reversal.{Documents, documents_of, AreOf, HaveKeysOf, is_named, any_names, without, as_in, NoneOf}

-- ---- the indexes of one collection

abbrev Found : Type 0
Found = Key → Option Document

mapped_rows : (p : Plan) (o : Option Row) → option_map (λ (r : Row). key_texts p r.document) o ≡ option_map (key_texts p) (document_of o)
mapped_rows p None = refl
mapped_rows p (Some r) = refl

built_keys : (p : Plan) (rs : List Row) (k : Key) → Rising 0 rs → map.get (build p (paired rs)) k ≡ option_map (key_texts p) (document_of (row_of rs k))
built_keys p rs k up = built_get p rs 0 k up ∙ mapped_rows p (row_of rs k)

over_of : (rs : List Row) (hs : List Holding) (ps : List Plan) → Rising 0 rs → AreOver (paired rs) hs ps → AreOf (λ k. document_of (row_of rs k)) hs ps
over_of rs [] [] up h = tt
over_of rs [] (p ∷ ps) up h = h
over_of rs (x ∷ hs) [] up h = h
over_of rs (x ∷ hs) (p ∷ ps) up h = (h.0, (λ k. ap (λ (m : Owned). map.get m k) h.1 ∙ built_keys p rs k up), over_of rs hs ps up h.2)

of_over : (rs : List Row) (hs : List Holding) (ps : List Plan) → Rising 0 rs → AreOf (λ k. document_of (row_of rs k)) hs ps → AreOver (paired rs) hs ps
of_over rs [] [] up h = tt
of_over rs [] (p ∷ ps) up h = h
of_over rs (x ∷ hs) [] up h = h
of_over rs (x ∷ hs) (p ∷ ps) up h = (h.0, key_map_same x.owned (build p (paired rs)) (λ k. h.1 k ∙ sym (built_keys p rs k up)), of_over rs hs ps up h.2)

of_same : (f g : Found) (hs : List Holding) (ps : List Plan) → ((k : Key) → g k ≡ f k) → AreOf f hs ps → AreOf g hs ps
of_same f g [] [] e h = tt
of_same f g [] (p ∷ ps) e h = h
of_same f g (x ∷ hs) [] e h = h
of_same f g (x ∷ hs) (p ∷ ps) e h = (h.0, (λ k. h.1 k ∙ ap (option_map (key_texts p)) (sym (e k))), of_same f g hs ps e h.2)

mapped_if : (p : Plan) (b : Bool) (x y : Option Document) → cond b (option_map (key_texts p) x) (option_map (key_texts p) y) ≡ option_map (key_texts p) (if b then x else y)
mapped_if p true x y = refl
mapped_if p false x y = refl

of_taken : (f : Found) (j : Key) (hs gs : List Holding) (ps : List Plan) → AreTakenOut j hs gs → AreOf f hs ps → AreOf (λ k. if same_key k j then None else f k) gs ps
of_taken f j [] [] [] t h = tt
of_taken f j [] [] (p ∷ ps) t h = h
of_taken f j [] (y ∷ gs) ps t h = absurd t
of_taken f j (x ∷ hs) [] ps t h = absurd t
of_taken f j (x ∷ hs) (y ∷ gs) [] t h = h
of_taken f j (x ∷ hs) (y ∷ gs) (p ∷ ps) t h = (
  t.0 ∙ h.0,
  (λ k. ap (λ (m : Owned). map.get m k) t.1 ∙ (key_at_remove x.owned j k ∙ (ap (cond (same_key k j) None) (h.1 k) ∙ mapped_if p (same_key k j) None (f k)))),
  of_taken f j hs gs ps t.2 h.2,
)

of_put : (f : Found) (j : Key) (d : Document) (hs gs : List Holding) (ps : List Plan) → ArePut j d hs gs → AreOf f hs ps → AreOf (λ k. if same_key k j then Some d else f k) gs ps
of_put f j d [] [] [] t h = tt
of_put f j d [] [] (p ∷ ps) t h = h
of_put f j d [] (y ∷ gs) ps t h = absurd t
of_put f j d (x ∷ hs) [] ps t h = absurd t
of_put f j d (x ∷ hs) (y ∷ gs) [] t h = h
of_put f j d (x ∷ hs) (y ∷ gs) (p ∷ ps) t h = (
  t.0 ∙ h.0,
  (λ k.
      ap (λ (m : Owned). map.get m k) t.1
      ∙ (key_at_insert x.owned j (key_texts x.plan d) k ∙ ((λ i. cond (same_key k j) (Some (key_texts (h.0 i) d)) (h.1 k i)) ∙ mapped_if p (same_key k j) (Some d) (f k)))),
  of_put f j d hs gs ps t.2 h.2,
)

-- ---- the document of one change

-- another document, or none, where the change names it
abbrev instead : Change → Option Document → Documents → Documents
instead c o f n k = if is_named c n k then o else f n k

moved_keys : (P : List Holding → List Holding → Type 0) (c : Change) (o : Option Document) (f : Documents) (ks js : KeptCollections) (r : Rows) → HaveKeysOf f ks r → Becomes P (kept_at ks c.ns) (kept_at js c.ns) →
    ((n : NsName) → same_ns c.ns n ≡ false → kept_at js n ≡ kept_at ks n) → ((hs gs : List Holding) (ps : List Plan) → P hs gs → AreOf (f c.ns) hs ps → AreOf (λ k. if same_key k (key_of c.id) then o else f c.ns k) gs ps) → HaveKeysOf (instead c o f) js r
unfolding HaveKeysOf
moved_keys P c o f ks js r h moved others step n gs e = by (same_ns c.ns n) refl
  where
    here : (x y : Option (List Holding)) → kept_at ks c.ns ≡ x → Becomes P x y → y ≡ Some gs → (hs : List Holding) × (kept_at ks c.ns ≡ Some hs) × P hs gs
    here None None p b q = cc
    here None (Some zs) p b q = absurd b
    here (Some hs) None p b q = absurd b
    here (Some hs) (Some zs) p b q = (let z : zs ≡ gs = cc in (hs, p, subst (P hs) z b))

    same_here : (k : Key) → instead c o f c.ns k ≡ (if same_key k (key_of c.id) then o else f c.ns k)
    same_here k = ap (λ (b : Bool). if b && same_key k (key_of c.id) then o else f c.ns k) (ns_refl c.ns)

    same_else : same_ns c.ns n ≡ false → (k : Key) → instead c o f n k ≡ f n k
    same_else s k = ap (λ (b : Bool). if b && same_key k (key_of c.id) then o else f n k) (ns_turn c.ns n false s)

    there : (t : Table) × (map.get r.tables c.ns ≡ Some t) × AreOf (instead c o f c.ns) gs (plans_of (map.values t.indexes)) → c.ns ≡ n → (t : Table) × (map.get r.tables n ≡ Some t) × AreOf (instead c o f n) gs (plans_of (map.values t.indexes))
    there x w = subst (λ (m : NsName). (t : Table) × (map.get r.tables m ≡ Some t) × AreOf (instead c o f m) gs (plans_of (map.values t.indexes))) w x

    by : (b : Bool) → same_ns c.ns n ≡ b → (t : Table) × (map.get r.tables n ≡ Some t) × AreOf (instead c o f n) gs (plans_of (map.values t.indexes))
    by true s =
        (let w : c.ns ≡ n = ns_is c.ns n s in
        let x = here (kept_at ks c.ns) (kept_at js c.ns) refl moved (ap (kept_at js) w ∙ e) in
        let a = h c.ns x.0 x.1 in
        let ps = plans_of (map.values a.0.indexes) in
        there (a.0, a.1, of_same (λ k. if same_key k (key_of c.id) then o else f c.ns k) (instead c o f c.ns) gs ps same_here (step x.0 gs ps x.2 a.2)) w)
    by false s = (let a = h n gs (sym (others n s) ∙ e) in (a.0, a.1, of_same (f n) (instead c o f n) gs (plans_of (map.values a.0.indexes)) (same_else s) a.2))

keys_same : (f g : Documents) (ks : KeptCollections) (r : Rows) → ((n : NsName) (k : Key) → g n k ≡ f n k) → HaveKeysOf f ks r → HaveKeysOf g ks r
unfolding HaveKeysOf
keys_same f g ks r e h n hs at = (let a = h n hs at in (a.0, a.1, of_same (f n) (g n) hs (plans_of (map.values a.0.indexes)) (e n) a.2))

-- ---- names

named_more : (cs : List Change) (c : Change) (n : NsName) (k : Key) → any_names (cs ++ c ∷ []) n k ≡ (if is_named c n k then true else any_names cs n k)
named_more [] c n k = refl
named_more (x ∷ cs) c n k = by (is_named x n k) (is_named c n k) (named_more cs c n k)
  where
    by : (a b : Bool) → any_names (cs ++ c ∷ []) n k ≡ (if b then true else any_names cs n k) → (if a then true else any_names (cs ++ c ∷ []) n k) ≡ (if b then true else (if a then true else any_names cs n k))
    by true true h = refl
    by true false h = refl
    by false b h = h

is_itself : (c : Change) → is_named c c.ns (key_of c.id) ≡ true
is_itself c = (λ i. ns_refl c.ns i && key_refl (key_of c.id) i)

pub named_at : (cs : List Change) (i : ℕ) (c : Change) → i < length cs → c ≡ get_or cs i c → any_names cs c.ns (key_of c.id) ≡ true
named_at [] i c l e = absurd (omega (arith, l))
named_at (d ∷ cs) zero c l e = ap (λ (b : Bool). if b then true else any_names cs c.ns (key_of c.id)) (ap (λ (z : Change). is_named z c.ns (key_of c.id)) (sym e) ∙ is_itself c)
named_at (d ∷ cs) (suc i) c l e = by (is_named d c.ns (key_of c.id)) (named_at cs i c (omega (arith, l)) e)
  where
    by : (b : Bool) → any_names cs c.ns (key_of c.id) ≡ true → (if b then true else any_names cs c.ns (key_of c.id)) ≡ true
    by true h = refl
    by false h = h

pub none_of_at : (cs : List Change) (i : ℕ) (c : Change) (n : NsName) → i < length cs → c ≡ get_or cs i c → NoneOf cs n → same_ns c.ns n ≡ false
none_of_at [] i c n l e h = absurd (omega (arith, l))
none_of_at (d ∷ cs) zero c n l e h = ap (λ (z : Change). same_ns z.ns n) e ∙ h.0
none_of_at (d ∷ cs) (suc i) c n l e h = none_of_at cs i c n (omega (arith, l)) e h.1

-- ---- the documents are taken out

pub out_none : (cs : List Change) (f : Documents) (ks : KeptCollections) (r : Rows) → HaveKeysOf f ks r → HaveKeysOf (without (take 0 cs) f) ks r
out_none [] f ks r h = h
out_none (c ∷ cs) f ks r h = h

pub out_more : (cs : List Change) (c : Change) (f : Documents) (ks js : KeptCollections) (r : Rows) → HaveKeysOf (without cs f) ks r → Becomes (AreTakenOut (key_of c.id)) (kept_at ks c.ns) (kept_at js c.ns) → ((n : NsName) → same_ns c.ns n ≡ false → kept_at js n ≡ kept_at ks n) →
    HaveKeysOf (without (cs ++ c ∷ []) f) js r
out_more cs c f ks js r h moved others =
    keys_same (instead c None (without cs f)) (without (cs ++ c ∷ []) f) js r same
    (moved_keys (AreTakenOut (key_of c.id)) c None (without cs f) ks js r h moved others (λ hs gs ps t a. of_taken (without cs f c.ns) (key_of c.id) hs gs ps t a))
  where
    by : (n : NsName) (k : Key) (a b : Bool) → (if (if b then true else a) then None else f n k) ≡ (if b then None else (if a then None else f n k))
    by n k a true = refl
    by n k true false = refl
    by n k false false = refl

    same : (n : NsName) (k : Key) → without (cs ++ c ∷ []) f n k ≡ instead c None (without cs f) n k
    same n k = ap (λ (b : Bool). if b then None else f n k) (named_more cs c n k) ∙ by n k (any_names cs n k) (is_named c n k)

-- ---- and put in again

-- the first so many of the changes are taken back
abbrev pub back_to : Rows → List Change → List Change → Documents → Documents
back_to r done all f n k = if any_names done n k then document_at n k r.tables else without all f n k

abbrev Chosen : Option Document → Option Document → Bool → Bool → Option Document → Type 0
Chosen o d a b x = (if (if b then true else a) then o else x) ≡ (if b then d else (if a then o else x))

back_same : (r : Rows) (cs all : List Change) (c : Change) (f : Documents) (o : Option Document) → document_at c.ns (key_of c.id) r.tables ≡ o → (n : NsName) (k : Key) → back_to r (cs ++ c ∷ []) all f n k ≡ instead c o (back_to r cs all f) n k
back_same r cs all c f o e n k =
    ap (λ (b : Bool). if b then document_at n k r.tables else without all f n k) (named_more cs c n k) ∙ by (any_names cs n k) (is_named c n k) refl (without all f n k)
  where
    found : is_named c n k ≡ true → document_at n k r.tables ≡ o
    found s = (let p = and_parts (same_ns n c.ns) (same_key k (key_of c.id)) s in (λ i. document_at (ns_is n c.ns p.0 i) (key_is k (key_of c.id) p.1 i) r.tables) ∙ e)

    by : (a b : Bool) → is_named c n k ≡ b → (x : Option Document) → Chosen (document_at n k r.tables) o a b x
    by true true s x = found s
    by false true s x = found s
    by true false s x = refl
    by false false s x = refl

pub back_none : (cs : List Change) (f : Documents) (ks : KeptCollections) (r : Rows) → HaveKeysOf (without cs f) ks r → HaveKeysOf (back_to r (take 0 cs) cs f) ks r
back_none [] f ks r h = h
back_none (c ∷ cs) f ks r h = h

-- a document that stands
pub back_more : (cs all : List Change) (c : Change) (d : Document) (f : Documents) (ks js : KeptCollections) (r : Rows) → Some d ≡ document_at c.ns (key_of c.id) r.tables → HaveKeysOf (back_to r cs all f) ks r → Becomes (ArePut (key_of c.id) d) (kept_at ks c.ns) (kept_at js c.ns) →
    ((n : NsName) → same_ns c.ns n ≡ false → kept_at js n ≡ kept_at ks n) → HaveKeysOf (back_to r (cs ++ c ∷ []) all f) js r
back_more cs all c d f ks js r e h moved others =
    keys_same (instead c (Some d) (back_to r cs all f)) (back_to r (cs ++ c ∷ []) all f) js r (back_same r cs all c f (Some d) (sym e))
    (moved_keys (ArePut (key_of c.id) d) c (Some d) (back_to r cs all f) ks js r h moved others (λ hs gs ps t a. of_put (back_to r cs all f c.ns) (key_of c.id) d hs gs ps t a))

-- and none
pub back_same_none : (cs all : List Change) (c : Change) (f : Documents) (ks : KeptCollections) (r : Rows) → None ≡ document_at c.ns (key_of c.id) r.tables → any_names all c.ns (key_of c.id) ≡ true → HaveKeysOf (back_to r cs all f) ks r → HaveKeysOf (back_to r (cs ++ c ∷ []) all f) ks r
back_same_none cs all c f ks r e named h =
    keys_same (back_to r cs all f) (back_to r (cs ++ c ∷ []) all f) ks r (λ n k. back_same r cs all c f None (sym e) n k ∙ by n k (is_named c n k) refl) h
  where
    gone : (a : Bool) → (if a then document_at c.ns (key_of c.id) r.tables else without all f c.ns (key_of c.id)) ≡ None
    gone true = sym e
    gone false = ap (λ (b : Bool). if b then None else f c.ns (key_of c.id)) named

    by : (n : NsName) (k : Key) (b : Bool) → is_named c n k ≡ b → (if b then None else back_to r cs all f n k) ≡ back_to r cs all f n k
    by n k true s =
        (let p = and_parts (same_ns n c.ns) (same_key k (key_of c.id)) s in
        sym ((λ i. back_to r cs all f (ns_is n c.ns p.0 i) (key_is k (key_of c.id) p.1 i)) ∙ gone (any_names cs c.ns (key_of c.id))))
    by n k false s = refl

pub back_all : (cs : List Change) (f : Documents) (ks : KeptCollections) (r : Rows) → HaveKeysOf (back_to r cs cs f) ks r → HaveKeysOf (as_in r cs f) ks r
back_all cs f ks r h = keys_same (back_to r cs cs f) (as_in r cs f) ks r (λ n k. by n k (any_names cs n k) refl) h
  where
    by : (n : NsName) (k : Key) (b : Bool) → any_names cs n k ≡ b → (if b then document_at n k r.tables else f n k) ≡ (if b then document_at n k r.tables else (if any_names cs n k then None else f n k))
    by n k true e = refl
    by n k false e = sym (ap (λ (b : Bool). if b then None else f n k) e)

-- ---- what changes leave as it is

abbrev SameIndexes : Option Table → Option Table → Type 0
SameIndexes None None = ⊤
SameIndexes None (Some u) = ⊥
SameIndexes (Some t) None = ⊥
SameIndexes (Some t) (Some u) = u.indexes ≡ t.indexes

same_itself : (o : Option Table) → SameIndexes o o
same_itself None = tt
same_itself (Some t) = refl

same_twice : (o p q : Option Table) → SameIndexes o p → SameIndexes p q → SameIndexes o q
same_twice None None None a b = tt
same_twice None None (Some w) a b = b
same_twice None (Some u) q a b = absurd a
same_twice (Some t) None q a b = absurd a
same_twice (Some t) (Some u) None a b = b
same_twice (Some t) (Some u) (Some w) a b = b ∙ a

set_indexes : (l n : NsName) (ts : Tables) (t u : Table) → map.get ts l ≡ Some t → u.indexes ≡ t.indexes → SameIndexes (map.get ts n) (map.get (map.insert ts l u) n)
set_indexes l n ts t u e s = by (same_ns n l) refl
  where
    by : (b : Bool) → same_ns n l ≡ b → SameIndexes (map.get ts n) (map.get (map.insert ts l u) n)
    by true f =
        (let w : l ≡ n = sym (ns_is n l f) in
        subst (λ (m : NsName). SameIndexes (map.get ts m) (map.get (map.insert ts l u) m)) w
        (subst (λ (o : Option Table). SameIndexes o (map.get (map.insert ts l u) l)) (sym e) (subst (SameIndexes (Some t)) (sym (ns_insert_here ts l u)) s)))
    by false f = subst (SameIndexes (map.get ts n)) (sym (ns_insert_else ts l u n f)) (same_itself (map.get ts n))

the_table : (o : Option Table) → is_some o ≡ true → (t : Table) × (o ≡ Some t)
the_table None e = cc
the_table (Some t) e = (t, refl)

abbrev put_in : NsName → Key → Document → Rows → Option Table → Tables
put_in n k d r o = map.insert r.tables n (put_table k d (or_fresh r.count o))

abbrev drop_in : NsName → Key → Rows → Option Table → Tables
drop_in n k r o = on_found (drop_table k) n o r.tables

by_indexes : (l : NsName) (k : Key) (o : Option Document) (r : Rows) (n : NsName) → map.contains_key r.tables l ≡ true → SameIndexes (map.get r.tables n) (map.get (changed_by l k o r).tables n)
by_indexes l k (Some d) r n e =
    (let t = the_table (map.get r.tables l) e in
    subst (λ (o : Option Table). SameIndexes (map.get r.tables n) (map.get (put_in l k d r o) n)) (sym t.1) (set_indexes l n r.tables t.0 (put_table k d t.0) t.1 refl))
by_indexes l k None r n e =
    (let t = the_table (map.get r.tables l) e in
    subst (λ (o : Option Table). SameIndexes (map.get r.tables n) (map.get (drop_in l k r o) n)) (sym t.1) (set_indexes l n r.tables t.0 (drop_table k t.0) t.1 refl))

still_some : (o p : Option Table) → SameIndexes o p → is_some o ≡ true → is_some p ≡ true
still_some None p s e = cc
still_some (Some t) None s e = absurd s
still_some (Some t) (Some u) s e = refl

still_there : (cs : List Change) (ts us : Tables) → ((n : NsName) → SameIndexes (map.get ts n) (map.get us n)) → AreThere cs ts → AreThere cs us
still_there [] ts us s h = tt
still_there (c ∷ cs) ts us s h = (still_some (map.get ts c.ns) (map.get us c.ns) (s c.ns) h.0, still_there cs ts us s h.1)

all_indexes : (cs : List Change) (r : Rows) → AreThere cs r.tables → (n : NsName) → SameIndexes (map.get r.tables n) (map.get (change_all cs r).tables n)
all_indexes [] r h n = same_itself (map.get r.tables n)
all_indexes (c ∷ cs) r h n =
    (let one = λ (m : NsName). by_indexes c.ns (key_of c.id) c.doc r m h.0 in
    same_twice (map.get r.tables n) (map.get (change_one c r).tables n) (map.get (change_all cs (change_one c r)).tables n) (one n)
    (all_indexes cs (change_one c r) (still_there cs r.tables (change_one c r).tables one h.1) n))

-- documents that no change names
set_document : (l n : NsName) (j k : Key) (ts : Tables) (o : Option Table) (u : Table) → map.get ts l ≡ o → (same_ns n l && same_key k j) ≡ false → (same_key k j ≡ false → document_in k (Some u) ≡ document_in k o) → document_in k (map.get (map.insert ts l u) n) ≡ document_in k (map.get ts n)
set_document l n j k ts o u e s h = by (same_ns n l) refl s
  where
    by : (b : Bool) → same_ns n l ≡ b → (b && same_key k j) ≡ false → document_in k (map.get (map.insert ts l u) n) ≡ document_in k (map.get ts n)
    by true f g =
        (let w : n ≡ l = ns_is n l f in
        ap (λ (m : NsName). document_in k (map.get (map.insert ts l u) m)) w
        ∙ (ap (document_in k) (ns_insert_here ts l u) ∙ (h g ∙ (ap (document_in k) (sym e) ∙ ap (λ (m : NsName). document_in k (map.get ts m)) (sym w)))))
    by false f g = ap (document_in k) (ns_insert_else ts l u n f)

one_document : (l n : NsName) (j k : Key) (d : Option Document) (r : Rows) → (same_ns n l && same_key k j) ≡ false → document_at n k (changed_by l j d r).tables ≡ document_at n k r.tables
one_document l n j k (Some d) r s = set_document l n j k r.tables (map.get r.tables l) (put_table j d (or_fresh r.count (map.get r.tables l))) refl s (λ e. by (map.get r.tables l) e)
  where
    by : (o : Option Table) → same_key k j ≡ false → document_in k (Some (put_table j d (or_fresh r.count o))) ≡ document_in k o
    by None e = ap document_of (row_put_else [] 1 j k d e)
    by (Some t) e = ap document_of (row_put_else t.rows t.next j k d e)
one_document l n j k None r s = by (map.get r.tables l) refl
  where
    by : (o : Option Table) → map.get r.tables l ≡ o → document_in k (map.get (on_found (drop_table j) l o r.tables) n) ≡ document_in k (map.get r.tables n)
    by None e = refl
    by (Some t) e = set_document l n j k r.tables (Some t) (drop_table j t) e s (λ f. ap document_of (row_drop_else t.rows j k f))

untouched : (cs : List Change) (r : Rows) (n : NsName) (k : Key) → any_names cs n k ≡ false → document_at n k (change_all cs r).tables ≡ document_at n k r.tables
untouched [] r n k e = refl
untouched (c ∷ cs) r n k e = by (is_named c n k) refl e (untouched cs (change_one c r) n k)
  where
    by : (b : Bool) → is_named c n k ≡ b → (if b then true else any_names cs n k) ≡ false → (any_names cs n k ≡ false → document_at n k (change_all cs (change_one c r)).tables ≡ document_at n k (change_one c r).tables) →
        document_at n k (change_all cs (change_one c r)).tables ≡ document_at n k r.tables
    by true s f rest = cc
    by false s f rest = rest f ∙ one_document c.ns n (key_of c.id) k c.doc r s

-- ---- from changes back to the collections

pub changed_keys : (cs : List Change) (ks : KeptCollections) (r : Rows) → AreThere cs r.tables → AreKept ks (change_all cs r) → HaveKeysOf (documents_of (change_all cs r)) ks r
unfolding HaveKeysOf
changed_keys cs ks r there kept n hs e =
    (let a = kept n hs e in
    let f = documents_of (change_all cs r) n in
    let of = over_of a.0.rows hs (plans_of (map.values a.0.indexes)) a.2.rising a.2.over in
    let same : AreOf f hs (plans_of (map.values a.0.indexes)) = of_same (λ k. document_of (row_of a.0.rows k)) f hs (plans_of (map.values a.0.indexes)) (λ k. ap (document_in k) a.1) of in
    by (map.get r.tables n) refl a.0 (subst (SameIndexes (map.get r.tables n)) a.1 (all_indexes cs r there n)) same)
  where
    by : (o : Option Table) → map.get r.tables n ≡ o → (u : Table) → SameIndexes o (Some u) → AreOf (documents_of (change_all cs r) n) hs (plans_of (map.values u.indexes)) →
        (t : Table) × (map.get r.tables n ≡ Some t) × AreOf (documents_of (change_all cs r) n) hs (plans_of (map.values t.indexes))
    by None p u s h = absurd s
    by (Some t) p u s h = (t, p, subst (λ (m : map.FinMap key_cmp Tree). AreOf (documents_of (change_all cs r) n) hs (plans_of (map.values m))) s h)

pub keys_kept : (cs : List Change) (ks : KeptCollections) (r : Rows) → AreSound r → IndexesHold r → HaveKeysOf (as_in r cs (documents_of (change_all cs r))) ks r → AreKept ks r
unfolding HaveKeysOf
keys_kept cs ks r sound hold h n hs e =
    (let a = h n hs e in
    let rising = (sound n a.0 a.1).0.0 in
    let ps = plans_of (map.values a.0.indexes) in
    (a.0, a.1, record { over = of_over a.0.rows hs ps rising (of_same (as_in r cs (documents_of (change_all cs r)) n) (λ k. document_of (row_of a.0.rows k)) hs ps (λ k. same a.0 a.1 k (any_names cs n k) refl) a.2); hold = hold n a.0 a.1; rising = rising }))
  where
    same : (t : Table) → map.get r.tables n ≡ Some t → (k : Key) (b : Bool) → any_names cs n k ≡ b → document_of (row_of t.rows k) ≡ (if b then document_at n k r.tables else document_at n k (change_all cs r).tables)
    same t f k true g = ap (document_in k) (sym f)
    same t f k false g = ap (document_in k) (sym f) ∙ sym (untouched cs r n k g)

-- ---- as the code names a document that stands

pub named_key : (o : Option Document) (d : Document) (k : Key) → IfSome o (λ (x : Document). key_in (id_of x) ≡ k) → o ≡ Some d → key_in (id_of d) ≡ k
named_key None d k h e = cc
named_key (Some x) d k h e = (let f : x ≡ d = cc in subst (λ (z : Document). key_in (id_of z) ≡ k) f h)
