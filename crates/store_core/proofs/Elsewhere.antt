-- What a change of one collection leaves as it is, and what is kept of indexes then.
use Rattle.std.proofs.Common.{◌≡◌, ℕ, List, [], ◌∷◌, Bool, true, false, not, cond, refl, sym, ap, subst, ◌∙◌, Option, Some, None}
use Rattle.std.specs.Prelude.{◌||◌, is_some}
use Rattle.std.specs.List.{list_any}
use Rattle.std.specs.FinMap as map
use Rattle.bson_value.specs.declared.namespace.NsName.{NsName}
use Rattle.json_tree.specs.declared.tree.Tree.{Tree}
use Rattle.state_model.specs.Keys.{Key, same_key, same_ns}
use Rattle.state_model.proofs.Keys.{ns_is, ns_turn, ns_anti}
use Rattle.state_model.proofs.Maps.{ns_remove_same}
use Rattle.coll_state.specs.Rows.{Document, Table, Rows}
use Rattle.coll_state.specs.Changes.{Tables, on_found, on_there, put, create, drop_db, drop_ns, rename, renamed_in, with_incarnation, add_index, drop_index}
use Rattle.kept_indexes.specs.Kept.{KeptCollections, kept_at, AreKept, AreElsewhere}
use Rattle.store_core.specs.Databases.{AreAmong}
use Rattle.kept_indexes.proofs.Moving.{names_differ, names_differ_removed, put_elsewhere}

-- ---- the other collections

there : (g : Table → Table) (n : NsName) (s : Tables) (m : NsName) → same_ns n m ≡ false → map.get (on_there g n s) m ≡ map.get s m
there g n s m e = by (map.get s n)
  where
    by : (o : Option Table) → map.get (on_found g n o s) m ≡ map.get s m
    by None = refl
    by (Some t) = names_differ s n m (g t) e

pub as_before : (n : NsName) (r : Rows) → AreElsewhere n r r
as_before n r m e = refl

-- a put that isn't made
pub before_put : (n : NsName) (d : Document) (r : Rows) → AreElsewhere n (put n d r) r
before_put n d r m e = sym (put_elsewhere n d r m e)

pub after_create : (n : NsName) (o : Tree) (r : Rows) → AreElsewhere n r (create n o r)
after_create n o r m e = names_differ r.tables n m _ e

pub after_both : (n : NsName) (o : Tree) (d : Document) (r : Rows) → AreElsewhere n r (put n d (create n o r))
after_both n o d r m e = put_elsewhere n d (create n o r) m e ∙ after_create n o r m e

pub after_drop : (n : NsName) (r : Rows) → AreElsewhere n r (drop_ns n r)
after_drop n r m e = names_differ_removed r.tables n m e

pub after_index : (n : NsName) (d : Tree) (r : Rows) → AreElsewhere n r (add_index n d r)
after_index n d r m e = there _ n r.tables m e

pub after_taken : (n : NsName) (i : Key) (r : Rows) → AreElsewhere n r (drop_index n i r)
after_taken n i r m e = there _ n r.tables m e

-- beside the collection that went
pub after_rename : (from to : NsName) (r : Rows) → AreElsewhere to (drop_ns from r) (rename from to r)
after_rename from to r m e = by (map.get r.tables from) refl
  where
    by : (o : Option Table) → map.get r.tables from ≡ o → map.get (renamed_in from o to r.count r.tables) m ≡ map.get (map.remove r.tables from) m
    by None p = ap (λ (ts : Tables). map.get ts m) (sym (ns_remove_same r.tables from p))
    by (Some t) p = names_differ (map.remove r.tables from) to m (with_incarnation r.count t) e

-- ---- what is kept

pub kept_of : (cs : KeptCollections) (s t : Rows) → s ≡ t → AreKept cs t → AreKept cs s
kept_of cs s t e k = subst (λ (z : Rows). AreKept cs z) (sym e) k

-- ---- a database that goes

pub all_among : (db : List ℕ) (ks : KeptCollections) (r : Rows) (ns : List NsName) → AreKept ks r → ns ≡ map.keys r.tables → AreAmong db ks ns
all_among db ks r ns h e n hs at d = (let t = h n hs at in ap (list_any (same_ns n)) e ∙ (sym (map.contains_key-keys r.tables n) ∙ ap (λ (o : Option Table). is_some o) t.1))

behind : (n m : NsName) (rest : List NsName) → same_ns n m ≡ false → list_any (same_ns n) (m ∷ rest) ≡ true → list_any (same_ns n) rest ≡ true
behind n m rest f e = sym (ap (λ (b : Bool). b || list_any (same_ns n) rest) f) ∙ e

pub among_forgotten : (db : List ℕ) (ks js : KeptCollections) (m : NsName) (rest : List NsName) → AreAmong db ks (m ∷ rest) → kept_at js m ≡ None → ((n : NsName) → same_ns m n ≡ false → kept_at js n ≡ kept_at ks n) → AreAmong db js rest
among_forgotten db ks js m rest h none others n hs at d = by (same_ns m n) refl
  where
    by : (b : Bool) → same_ns m n ≡ b → list_any (same_ns n) rest ≡ true
    by true f = (let x = sym none ∙ (ap (kept_at js) (ns_is m n f) ∙ at) in cc)
    by false f = behind n m rest (ns_turn m n false f) (h n hs (sym (others n f) ∙ at) d)

pub among_passed : (db : List ℕ) (ks : KeptCollections) (m : NsName) (rest : List NsName) → AreAmong db ks (m ∷ rest) → same_key m.db db ≡ false → AreAmong db ks rest
among_passed db ks m rest h e n hs at d = by (same_ns n m) refl
  where
    by : (b : Bool) → same_ns n m ≡ b → list_any (same_ns n) rest ≡ true
    by true f = (let x = sym e ∙ (ap (λ (z : NsName). same_key z.db db) (sym (ns_is n m f)) ∙ d) in cc)
    by false f = behind n m rest f (h n hs at d)

pub without_database : (db : List ℕ) (ks : KeptCollections) (r : Rows) → AreKept ks r → AreAmong db ks [] → AreKept ks (drop_db db r)
without_database db ks r h none n hs at =
    (let t = h n hs at in
    (t.0, map.get-retain_keys r.tables other n (λ x e. ap other (sym (ns_anti n x e))) ∙ (ap (λ (b : Bool). cond b (map.get r.tables n) None) (by (same_key n.db db) refl) ∙ t.1), t.2))
  where
    other : NsName → Bool
    other m = not (same_key m.db db)

    by : (b : Bool) → same_key n.db db ≡ b → not (same_key n.db db) ≡ true
    by true f = (let x = none n hs at f in cc)
    by false f = ap not f
