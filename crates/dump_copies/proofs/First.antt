-- The copies of a dump that begins.
use Rattle.std.proofs.Common.{◌≡◌, ℕ, suc, List, [], ◌∷◌, ◌++◌, length, Bool, true, false, cond, Option, Some, None, refl, sym, ap, ◌∙◌, subst, append-nil, map as each}
use Rattle.std.specs.Prelude.{⊤, ◌&&◌, ◌||◌, T, option_map, is_some}
use Rattle.std.specs.List.{list_any}
use Rattle.std.specs.Ordering.{is_lt}
use Rattle.std.specs.FinMap as map
use Rattle.std.specs.FinMap.Entries.{below_all}
use Rattle.std.specs.declared.cmp.Ordering.{Ordering}
use Rattle.std.specs.declared.cmp.Ordering.TheVariants.{Less, Equal, Greater}
use Rattle.bson_value.specs.declared.namespace.NsName.{NsName}
use Rattle.bson_value.specs.NamespaceOrder.{namespace_cmp}
use Rattle.archive_format.specs.Written.{Writing}
use Rattle.archive_format.specs.Written as written
use Rattle.state_model.specs.Keys.{same_ns}
use Rattle.state_model.proofs.Keys.{ns_total, ns_is, ns_refl, ns_turn}
use Rattle.state_model.proofs.Maps.{ns_map_same}
use Rattle.sorted_list.specs.Order.{found}
use Rattle.coll_state.specs.Rows.{Table, Rows}
use Rattle.coll_state.specs.Stock.{AllAfter, Rise}
use Rattle.copy_model.specs.Cursors.{Cursor}
use Rattle.copy_model.specs.Copies.{begun, cursors_of}
use Rattle.copy_model.proofs.Agreed.{find_cursors}
use Rattle.dump_model.specs.Archives.{oplog}
use Rattle.dump_copies.specs.Steps.{begin, writers_of}
use Rattle.dump_copies.specs.Places.{name_of, open_count, cursor_in, writer_in, at_name, copies_in, AreCopies, IsWritable, AreWritable, FirstCopy}
use Rattle.dump_copies.specs.declared.copies.CollectionCopy.{CollectionCopy}
use Rattle.dump_copies.proofs.Named.{get_entry}

-- each is the first copy of its collection
abbrev pub AreFirst : map.FinMap namespace_cmp Table → List CollectionCopy → Type 0
AreFirst ts [] = ⊤
AreFirst ts (c ∷ cs) = FirstCopy (name_of c) (map.get ts (name_of c)) c × AreFirst ts cs

pub first_push : (ts : map.FinMap namespace_cmp Table) (cs next : List CollectionCopy) (n : NsName) (c : CollectionCopy) → next ≡ cs ++ (c ∷ []) → AreFirst ts cs → FirstCopy n (map.get ts n) c → AreFirst ts next
first_push ts cs next n c e a h = subst (AreFirst ts) (sym e) (more cs a)
  where
    here : FirstCopy (name_of c) (map.get ts (name_of c)) c
    here = subst (λ (m : NsName). FirstCopy m (map.get ts m) c) (sym h.0) h

    more : (xs : List CollectionCopy) → AreFirst ts xs → AreFirst ts (xs ++ (c ∷ []))
    more [] a = (here, tt)
    more (x ∷ xs) a = (a.0, more xs a.1)

pub writable_push : (cs next : List CollectionCopy) (n : NsName) (c : CollectionCopy) → next ≡ cs ++ (c ∷ []) → AreWritable cs → name_of c ≡ n → IsWritable n → AreWritable next
writable_push cs next n c e a f h = subst AreWritable (sym e) (more cs a)
  where
    more : (xs : List CollectionCopy) → AreWritable xs → AreWritable (xs ++ (c ∷ []))
    more [] a = (subst IsWritable (sym f) h, tt)
    more (x ∷ xs) a = (a.0, more xs a.1)

pub names_push : (cs next : List CollectionCopy) (left rest all : List NsName) (n : NsName) (c : CollectionCopy) → each name_of cs ++ left ≡ all → left ≡ n ∷ rest → next ≡ cs ++ (c ∷ []) → name_of c ≡ n → each name_of next ++ rest ≡ all
names_push cs next left rest all n c w e f g =
    ap (λ (z : List CollectionCopy). each name_of z ++ rest) f
    ∙ (more cs ∙ (ap (λ (z : List NsName). each name_of cs ++ z) (ap (λ (m : NsName). m ∷ rest) g ∙ sym e) ∙ w))
  where
    more : (xs : List CollectionCopy) → each name_of (xs ++ (c ∷ [])) ++ rest ≡ each name_of xs ++ (name_of c ∷ rest)
    more [] = refl
    more (x ∷ xs) = ap (λ (z : List NsName). name_of x ∷ z) (more xs)

pub names_init : (cs : List CollectionCopy) (left all : List NsName) → cs ≡ [] → left ≡ all → each name_of cs ++ left ≡ all
names_init cs left all e f = ap (λ (z : List CollectionCopy). each name_of z ++ left) e ∙ f

pub first_init : (ts : map.FinMap namespace_cmp Table) (cs : List CollectionCopy) → cs ≡ [] → AreFirst ts cs
first_init ts cs e = subst (AreFirst ts) (sym e) tt

pub writable_init : (cs : List CollectionCopy) → cs ≡ [] → AreWritable cs
writable_init cs e = subst AreWritable (sym e) tt

pub names_all : (cs : List CollectionCopy) (left all : List NsName) → each name_of cs ++ left ≡ all → left ≡ [] → each name_of cs ≡ all
names_all cs left all w e = sym (append-nil (each name_of cs)) ∙ (ap (λ (z : List NsName). each name_of cs ++ z) (sym e) ∙ w)

-- a name that is still to come is that of a collection
pub next_there : (ts : map.FinMap namespace_cmp Table) (cs : List CollectionCopy) (left rest : List NsName) (n : NsName) → each name_of cs ++ left ≡ map.keys ts → left ≡ n ∷ rest → map.contains_key ts n ≡ true
next_there ts cs left rest n w e = map.contains_key-keys ts n ∙ (ap (list_any (same_ns n)) (sym w ∙ ap (λ (z : List NsName). each name_of cs ++ z) e) ∙ among (each name_of cs))
  where
    or_true : (b : Bool) → (b || true) ≡ true
    or_true true = refl
    or_true false = refl

    among : (ns : List NsName) → list_any (same_ns n) (ns ++ (n ∷ rest)) ≡ true
    among [] = ap (λ (b : Bool). b || list_any (same_ns n) rest) (ns_refl n)
    among (m ∷ ns) = ap (λ (b : Bool). same_ns n m || b) (among ns) ∙ or_true (same_ns n m)

-- ---- their order

pub less_of : (o : Ordering) → T (is_lt o) → o ≡ Less
less_of Less t = refl
less_of Equal t = absurd t
less_of Greater t = absurd t

first_of : (a b : Bool) → T (a && b) → T a
first_of true b t = tt
first_of false b t = t

second_of : (a b : Bool) → T (a && b) → T b
second_of true b t = t
second_of false b t = absurd t

heads : (a b : NsName) (ns ms : List NsName) → a ∷ ns ≡ b ∷ ms → a ≡ b
heads a b ns ms e = cc

tails : (a b : NsName) (ns ms : List NsName) → a ∷ ns ≡ b ∷ ms → ns ≡ ms
tails a b ns ms e = cc

no_cons : {A : Type 0} (a : NsName) (ns : List NsName) → a ∷ ns ≡ [] → A
no_cons a ns e = cc

after_names : (n : NsName) (cs : List CollectionCopy) (es : List (NsName × Table)) → each name_of cs ≡ each (λ (e : NsName × Table). e.0) es → T (below_all namespace_cmp n es) → AllAfter namespace_cmp name_of n cs
after_names n [] es e t = tt
after_names n (c ∷ cs) [] e t = no_cons (name_of c) (each name_of cs) e
after_names n (c ∷ cs) (x ∷ es) e t = (
  subst (λ (m : NsName). namespace_cmp n m ≡ Less) (sym (heads (name_of c) x.0 (each name_of cs) (each (λ (e : NsName × Table). e.0) es) e)) (less_of (namespace_cmp n x.0) (first_of (is_lt (namespace_cmp n x.0)) (below_all namespace_cmp n es) t)),
  after_names n cs es (tails (name_of c) x.0 (each name_of cs) (each (λ (e : NsName × Table). e.0) es) e) (second_of (is_lt (namespace_cmp n x.0)) (below_all namespace_cmp n es) t),
)

rise_names : (cs : List CollectionCopy) (es : List (NsName × Table)) → each name_of cs ≡ each (λ (e : NsName × Table). e.0) es → T (map.is_sorted namespace_cmp es) → Rise namespace_cmp name_of cs
rise_names [] es e t = tt
rise_names (c ∷ cs) [] e t = no_cons (name_of c) (each name_of cs) e
rise_names (c ∷ cs) (x ∷ es) e t =
    let more = tails (name_of c) x.0 (each name_of cs) (each (λ (e : NsName × Table). e.0) es) e in (
      subst (λ (m : NsName). AllAfter namespace_cmp name_of m cs) (sym (heads (name_of c) x.0 (each name_of cs) (each (λ (e : NsName × Table). e.0) es) e)) (after_names x.0 cs es more (first_of (below_all namespace_cmp x.0 es) (map.is_sorted namespace_cmp es) t)),
      rise_names cs es more (second_of (below_all namespace_cmp x.0 es) (map.is_sorted namespace_cmp es) t),
    )

open_first : (c : CollectionCopy) (o : Option Table) → Some c.cursor.cursor ≡ option_map begun o → c.cursor.cursor.ended ≡ false
open_first c None e = cc
open_first c (Some t) e = (let f : c.cursor.cursor ≡ begun t = cc in ap (λ (x : Cursor). x.ended) f)

count_first : (ts : map.FinMap namespace_cmp Table) (cs : List CollectionCopy) → AreFirst ts cs → length cs ≡ open_count cs
count_first ts [] a = refl
count_first ts (c ∷ cs) a = rw (open_first c (map.get ts (name_of c)) a.0.1) (ap suc (count_first ts cs a.1))

pub first_copies : (ts : map.FinMap namespace_cmp Table) (cs : List CollectionCopy) (count : ℕ) → AreFirst ts cs → each name_of cs ≡ map.keys ts → count ≡ length cs → AreCopies cs count
first_copies ts cs count a e f = record { rise = rise_names cs (map.entries ts) e (map.entries_sorted ts); counted = f ∙ count_first ts cs a }

-- ---- what they are by name

is_some_found : (cs : List CollectionCopy) (q : NsName) → is_some (found (at_name q) cs) ≡ list_any (same_ns q) (each name_of cs)
is_some_found [] q = refl
is_some_found (c ∷ cs) q = by (same_ns q (name_of c)) (same_ns (name_of c) q) (sym (ns_turn q (name_of c) (same_ns q (name_of c)) refl)) (is_some_found cs q)
  where
    by : (a b : Bool) → a ≡ b → is_some (found (at_name q) cs) ≡ list_any (same_ns q) (each name_of cs) → is_some (cond b (Some c) (found (at_name q) cs)) ≡ (a || list_any (same_ns q) (each name_of cs))
    by true true e h = refl
    by false false e h = h
    by true false e h = cc
    by false true e h = cc

first_found : (ts : map.FinMap namespace_cmp Table) (cs : List CollectionCopy) (q : NsName) (c : CollectionCopy) → AreFirst ts cs → found (at_name q) cs ≡ Some c → (name_of c ≡ q) × FirstCopy (name_of c) (map.get ts (name_of c)) c
first_found ts [] q c a e = cc
first_found ts (x ∷ cs) q c a e = by (same_ns (name_of x) q) refl (λ f. first_found ts cs q c a.1 f) e
  where
    by : (b : Bool) → same_ns (name_of x) q ≡ b → (found (at_name q) cs ≡ Some c → (name_of c ≡ q) × FirstCopy (name_of c) (map.get ts (name_of c)) c) → cond b (Some x) (found (at_name q) cs) ≡ Some c → (name_of c ≡ q) × FirstCopy (name_of c) (map.get ts (name_of c)) c
    by true s h f = (let g : x ≡ c = cc in subst (λ (z : CollectionCopy). (name_of z ≡ q) × FirstCopy (name_of z) (map.get ts (name_of z)) z) g (ns_is (name_of x) q s, a.0))
    by false s h f = h f

absent : {B : Type 0} (g : Table → B) (o : Option Table) → is_some o ≡ false → None ≡ option_map g o
absent g None e = refl
absent g (Some t) e = cc

there_or_not : (ts : map.FinMap namespace_cmp Table) (cs : List CollectionCopy) (q : NsName) → each name_of cs ≡ map.keys ts → is_some (found (at_name q) cs) ≡ is_some (map.get ts q)
there_or_not ts cs q e = is_some_found cs q ∙ (ap (list_any (same_ns q)) e ∙ sym (map.contains_key-keys ts q))

cursor_found : (ts : map.FinMap namespace_cmp Table) (cs : List CollectionCopy) (q : NsName) → AreFirst ts cs → each name_of cs ≡ map.keys ts → option_map (λ (c : CollectionCopy). c.cursor.cursor) (found (at_name q) cs) ≡ option_map begun (map.get ts q)
cursor_found ts cs q a e = by (found (at_name q) cs) refl
  where
    by : (o : Option CollectionCopy) → found (at_name q) cs ≡ o → option_map (λ (c : CollectionCopy). c.cursor.cursor) o ≡ option_map begun (map.get ts q)
    by None f = absent begun (map.get ts q) (sym (there_or_not ts cs q e) ∙ ap is_some f)
    by (Some c) f = (let g = first_found ts cs q c a f in g.1.1 ∙ ap (λ (n : NsName). option_map begun (map.get ts n)) g.0)

some_there : {B : Type 0} (b : B) (o : Option Table) → is_some o ≡ true → Some b ≡ option_map (λ (t : Table). b) o
some_there b None e = cc
some_there b (Some t) e = refl

writer_found : (ts : map.FinMap namespace_cmp Table) (cs : List CollectionCopy) (q : NsName) → AreFirst ts cs → each name_of cs ≡ map.keys ts → option_map (λ (c : CollectionCopy). c.writer) (found (at_name q) cs) ≡ option_map (λ (t : Table). written.begun q) (map.get ts q)
writer_found ts cs q a e = by (found (at_name q) cs) refl
  where
    by : (o : Option CollectionCopy) → found (at_name q) cs ≡ o → option_map (λ (c : CollectionCopy). c.writer) o ≡ option_map (λ (t : Table). written.begun q) (map.get ts q)
    by None f = absent (λ (t : Table). written.begun q) (map.get ts q) (sym (there_or_not ts cs q e) ∙ ap is_some f)
    by (Some c) f = (let g = first_found ts cs q c a f in ap Some (g.1.2 ∙ ap written.begun g.0) ∙ some_there (written.begun q) (map.get ts q) (sym (there_or_not ts cs q e) ∙ ap is_some f))

pub find_writers : (es : List (NsName × Table)) (q : NsName) → map.find namespace_cmp q (writers_of es) ≡ option_map (λ (t : Table). written.begun q) (map.find namespace_cmp q es)
find_writers [] q = refl
find_writers (e ∷ es) q = by (same_ns q e.0) refl (find_writers es q)
  where
    by : (b : Bool) → same_ns q e.0 ≡ b → map.find namespace_cmp q (writers_of es) ≡ option_map (λ (t : Table). written.begun q) (map.find namespace_cmp q es) →
        cond b (Some (written.begun e.0)) (map.find namespace_cmp q (writers_of es)) ≡ option_map (λ (t : Table). written.begun q) (cond b (Some e.1) (map.find namespace_cmp q es))
    by true s h = ap (λ (n : NsName). Some (written.begun n)) (sym (ns_is q e.0 s))
    by false s h = h

cursors_are : (ts : map.FinMap namespace_cmp Table) (cs : List CollectionCopy) → AreFirst ts cs → each name_of cs ≡ map.keys ts → map.from_entries {R = namespace_cmp} (each cursor_in cs) ≡ map.from_entries (cursors_of (map.entries ts))
cursors_are ts cs a e = ns_map_same _ _ (λ q. get_entry (λ (c : CollectionCopy). c.cursor.cursor) cs q
    ∙ (cursor_found ts cs q a e
    ∙ sym (map.get-from_entries ns_total (cursors_of (map.entries ts)) q ∙ (find_cursors (map.entries ts) q ∙ ap (option_map begun) (sym (map.get-entries ts q))))))

writers_are : (ts : map.FinMap namespace_cmp Table) (cs : List CollectionCopy) → AreFirst ts cs → each name_of cs ≡ map.keys ts → map.from_entries {R = namespace_cmp} (each writer_in cs) ≡ map.from_entries (writers_of (map.entries ts))
writers_are ts cs a e = ns_map_same _ _ (λ q. get_entry (λ (c : CollectionCopy). c.writer) cs q
    ∙ (writer_found ts cs q a e
    ∙ sym (map.get-from_entries ns_total (writers_of (map.entries ts)) q ∙ (find_writers (map.entries ts) q ∙ ap (option_map (λ (t : Table). written.begun q)) (sym (map.get-entries ts q))))))

pub begun_are : (r : Rows) (cs : List CollectionCopy) → AreFirst r.tables cs → each name_of cs ≡ map.keys r.tables → copies_in cs ≡ begin r
begun_are r cs a e = (let f = cursors_are r.tables cs a e in let g = writers_are r.tables cs a e in λ i. record { cursors = f i; writers = g i })

-- none of them is the oplog's
no_oplog : (cs : List CollectionCopy) → AreWritable cs → found (at_name oplog) cs ≡ None
no_oplog [] a = refl
no_oplog (c ∷ cs) a = by (same_ns (name_of c) oplog) refl (no_oplog cs a.1)
  where
    by : (b : Bool) → same_ns (name_of c) oplog ≡ b → found (at_name oplog) cs ≡ None → cond b (Some c) (found (at_name oplog) cs) ≡ None
    by true s h = absurd (a.0.1 (ap (λ (n : NsName). n.db) (ns_is (name_of c) oplog s)))
    by false s h = h

pub none_of_oplog : (cs : List CollectionCopy) → AreWritable cs → map.get (copies_in cs).cursors oplog ≡ None
none_of_oplog cs a = get_entry (λ (c : CollectionCopy). c.cursor.cursor) cs oplog ∙ ap (option_map (λ (c : CollectionCopy). c.cursor.cursor)) (no_oplog cs a)
