-- Collections by their names, after a call of the map that holds them.
use Rattle.std.proofs.Common.{◌≡◌, ℕ, suc, List, [], ◌∷◌, Bool, true, false, cond, refl, sym, ap, ◌∙◌, subst, Option, Some, None, inl, inr}
use Rattle.std.specs.Prelude.{◌⊎◌, option_map, Result, Ok, Err, OnOk, OnErr, IsSome, is_some, T, length, map as each}
use Rattle.std.specs.Ordering.{eq_by_cmp}
use Rattle.std.specs.BTreeMap.{is_at, UpdatesBy, IsOrdered}
use Rattle.std.specs.Borrow.{Bor}
use Rattle.std.specs.Option.{option_copied}
use Rattle.std.specs.List.{filter, AllByRecursion}
use Rattle.std.specs.List.Sorted.{IsStrictlySortedBy}
use Rattle.std.specs.FinMap.Entries.{find-where_key, where_key, below_all}
use Rattle.std.specs.declared.cmp.Ordering.TheVariants.{Less, Equal}
use Rattle.std.specs.Map.{lookup}
use Rattle.std.specs.FinMap as map
use Rattle.std.proofs.lemmas.Bool.{cases_Bool}
use Rattle.bson_value.specs.declared.namespace.NsName.{NsName}
use Rattle.bson_value.specs.NamespaceOrder.{namespace_cmp}
use Rattle.state_model.specs.Keys.{Key, same_ns}
use Rattle.state_model.proofs.Keys.{ns_total, ns_anti, ns_turn, ns_is}
use Rattle.state_model.proofs.Maps.{ns_map_same, ns_at_insert, ns_at_remove, ns_insert_same, ns_insert_else, ns_insert_here, ns_remove_else}
use Rattle.coll_state.specs.Rows.{Document, Row, Table, row_of}
use Rattle.coll_state.specs.Changes.{Tables, on_found, on_there, or_fresh, put_table, number_in, number_at, document_of, document_in, document_at}
use Rattle.coll_state.specs.Stock.{Stock}
use Rattle.coll_state.specs.Tables.{Stocks, named_tables, tables_in, stock_at}
use Rattle.coll_state.proofs.Parts.{and_T}

abbrev pub table_of : Option Stock → Option Table
table_of o = option_map (λ (s : Stock). s.table) o

find_table : (es : List (NsName × Stock)) (n : NsName) → map.find namespace_cmp n (named_tables es) ≡ table_of (lookup (is_at (namespace_cmp n)) es)
find_table [] n = refl
find_table (e ∷ es) n = by (eq_by_cmp namespace_cmp n e.0) (find_table es n)
  where
    by : (b : Bool) → map.find namespace_cmp n (named_tables es) ≡ table_of (lookup (is_at (namespace_cmp n)) es) →
        cond b (Some e.1.table) (map.find namespace_cmp n (named_tables es)) ≡ table_of (cond b (Some e.1) (lookup (is_at (namespace_cmp n)) es))
    by true h = refl
    by false h = h

pub get_table : (m : Stocks) (n : NsName) → map.get (tables_in m) n ≡ table_of (stock_at m n)
get_table m n = map.get-from_entries ns_total (named_tables m.entries) n ∙ find_table m.entries n

both : (a b : Bool) (t : Table) (w : Stock) (o : Option Stock) (u : Option Table) → a ≡ b → w.table ≡ t → table_of o ≡ u → table_of (cond a (Some w) o) ≡ cond b (Some t) u
both true true t w o u e f g = ap Some f
both false false t w o u e f g = g
both true false t w o u e f g = cc
both false true t w o u e f g = cc

-- one collection was written
pub updated : (m n : Stocks) (k : NsName) (w : Stock) (t : Table) → ((q : NsName) → stock_at n q ≡ cond (is_at (namespace_cmp k) q) (Some w) (stock_at m q)) → w.table ≡ t → tables_in n ≡ map.insert (tables_in m) k t
updated m n k w t up e = ns_map_same _ _ (λ q. get_table n q ∙ (ap table_of (up q)
    ∙ (both (same_ns k q) (same_ns q k) t w (stock_at m q) (map.get (tables_in m) q) (sym (ns_turn k q (same_ns k q) refl)) e (sym (get_table m q))
    ∙ sym (ns_at_insert (tables_in m) k t q))))

none_both : (a b : Bool) (o : Option Stock) (u : Option Table) → a ≡ b → table_of o ≡ u → table_of (cond a None o) ≡ cond b None u
none_both true true o u e g = refl
none_both false false o u e g = g
none_both true false o u e g = cc
none_both false true o u e g = cc

-- one was taken out
pub taken_out : (m n : Stocks) (k : NsName) → ((q : NsName) → stock_at n q ≡ cond (is_at (namespace_cmp k) q) None (stock_at m q)) → tables_in n ≡ map.remove (tables_in m) k
taken_out m n k up = ns_map_same _ _ (λ q. get_table n q ∙ (ap table_of (up q)
    ∙ (none_both (same_ns k q) (same_ns q k) (stock_at m q) (map.get (tables_in m) q) (sym (ns_turn k q (same_ns k q) refl)) (sym (get_table m q))
    ∙ sym (ns_at_remove (tables_in m) k q))))

pub get_there : (m : Stocks) (k : NsName) (old : Stock) → stock_at m k ≡ Some old → map.get (tables_in m) k ≡ Some old.table
get_there m k old e = get_table m k ∙ ap table_of e

pub get_absent : (m : Stocks) (k : NsName) → stock_at m k ≡ None → map.get (tables_in m) k ≡ None
get_absent m k e = get_table m k ∙ ap table_of e

-- a collection that is there was changed where it stands
abbrev pub Writes : Stocks → NsName → Stocks → Stock → Type 0
Writes m k n w = IsSome (stock_at m k) → UpdatesBy namespace_cmp (namespace_cmp k) m n (Some w)

pub is_some_there : (o : Option Stock) (old : Stock) → o ≡ Some old → IsSome o
is_some_there o old e = subst IsSome (sym e) refl

pub written : (m n : Stocks) (k : NsName) (old w : Stock) (g : Table → Table) → stock_at m k ≡ Some old → Writes m k n w → w.table ≡ g old.table → tables_in n ≡ on_there g k (tables_in m)
written m n k old w g e up t =
    updated m n k w (g old.table) (up (is_some_there (stock_at m k) old e)).0 t ∙ ap (λ (o : Option Table). on_found g k o (tables_in m)) (sym (get_there m k old e))

pub left : (m n : Stocks) (k : NsName) (old w : Stock) → stock_at m k ≡ Some old → Writes m k n w → w.table ≡ old.table → tables_in n ≡ tables_in m
left m n k old w e up t =
    updated m n k w old.table (up (is_some_there (stock_at m k) old e)).0 t ∙ ns_insert_same (tables_in m) k old.table (get_there m k old e)

pub not_there : (m : Stocks) (k : NsName) (g : Table → Table) → stock_at m k ≡ None → tables_in m ≡ on_there g k (tables_in m)
not_there m k g e = ap (λ (o : Option Table). on_found g k o (tables_in m)) (sym (get_absent m k e))

-- a document that stands under a number is put into the collection that is there
pub put_there : (s : Tables) (n : NsName) (k : Key) (d : Document) (count number : ℕ) → number_at n k s ≡ Some number → on_there (put_table k d) n s ≡ map.insert s n (put_table k d (or_fresh count (map.get s n)))
put_there s n k d count number e = by (map.get s n) e
  where
    by : (o : Option Table) → number_in k o ≡ Some number → on_found (put_table k d) n o s ≡ map.insert s n (put_table k d (or_fresh count o))
    by None e = cc
    by (Some t) e = refl

pub on_ok : {A B : Type 0} {P Q : Type 0} (r : Result A B) → (P → Q) → OnOk r P → OnOk r Q
on_ok (Ok a) f h = f h
on_ok (Err b) f h = tt

pub on_err : {A B : Type 0} {P Q : Type 0} (r : Result A B) → (P → Q) → OnErr r P → OnErr r Q
on_err (Ok a) f h = tt
on_err (Err b) f h = f h

pub document_there : (m : Stocks) (n : NsName) (k : Key) (old : Stock) → stock_at m n ≡ Some old → is_some (document_at n k (tables_in m)) ≡ is_some (row_of old.table.rows k)
document_there m n k old e = ap (λ (o : Option Table). is_some (document_in k o)) (get_there m n old e) ∙ same (row_of old.table.rows k)
  where
    same : (o : Option Row) → is_some (document_of o) ≡ is_some o
    same None = refl
    same (Some r) = refl

-- the collections whose names pass a test
named_filter : (es : List (NsName × Stock)) (p : NsName → Bool) → named_tables (filter (λ e. p e.0) es) ≡ where_key namespace_cmp p (named_tables es)
named_filter [] p = refl
named_filter (e ∷ es) p = by (p e.0) (named_filter es p)
  where
    by : (b : Bool) → named_tables (filter (λ e. p e.0) es) ≡ where_key namespace_cmp p (named_tables es) → named_tables (cond b (e ∷ filter (λ e. p e.0) es) (filter (λ e. p e.0) es)) ≡ cond b ((e.0, e.1.table) ∷ where_key namespace_cmp p (named_tables es)) (where_key namespace_cmp p (named_tables es))
    by true h = ap (λ (z : List (NsName × Table)). (e.0, e.1.table) ∷ z) h
    by false h = h

pub filtered : (m n : Stocks) (p : NsName → Bool) → n.entries ≡ filter (λ e. p e.0) m.entries → tables_in n ≡ map.retain_keys (tables_in m) p
filtered m n p e = ns_map_same _ _ (λ q.
    let alike = λ (x : NsName) (t : namespace_cmp q x ≡ Equal). ap p (sym (ns_anti q x t)) in
    map.get-from_entries ns_total (named_tables n.entries) q
    ∙ (ap (λ (es : List (NsName × Stock)). map.find namespace_cmp q (named_tables es)) e
    ∙ (ap (map.find namespace_cmp q) (named_filter m.entries p)
    ∙ (find-where_key namespace_cmp p q alike (named_tables m.entries)
    ∙ (ap (λ (o : Option Table). cond (p q) o None) (sym (map.get-from_entries ns_total (named_tables m.entries) q))
    ∙ sym (map.get-retain_keys (tables_in m) p q alike))))))

-- in the order of names
below_tables : (n : NsName) (es : List (NsName × Stock)) → AllByRecursion (λ y. namespace_cmp n y ≡ Less) (each (λ e. e.0) es) → T (below_all namespace_cmp n (named_tables es))
below_tables n [] a = tt
below_tables n (e ∷ es) a = rw a.0 (below_tables n es a.1)

sorted_tables : (es : List (NsName × Stock)) → IsStrictlySortedBy namespace_cmp (each (λ e. e.0) es) → T (map.is_sorted namespace_cmp (named_tables es))
unfolding IsStrictlySortedBy
sorted_tables [] s = tt
sorted_tables (e ∷ es) s = and_T (below_all namespace_cmp e.0 (named_tables es)) (map.is_sorted namespace_cmp (named_tables es)) (below_tables e.0 es s.0) (sorted_tables es s.1)

pub entries_are : (m : Stocks) → IsOrdered namespace_cmp m → map.entries (tables_in m) ≡ named_tables m.entries
entries_are m o =
    let s = sorted_tables m.entries o in
    let is : map.from_sorted {R = namespace_cmp} (named_tables m.entries) ≡ tables_in m = ns_map_same _ _ (λ q. map.get-from_sorted namespace_cmp (named_tables m.entries) q s ∙ sym (map.get-from_entries ns_total (named_tables m.entries) q)) in
    ap map.entries (sym is) ∙ map.entries-from_sorted namespace_cmp (named_tables m.entries) s

length_named : (es : List (NsName × Stock)) → length (named_tables es) ≡ length es
length_named [] = refl
length_named (e ∷ es) = ap suc (length_named es)

pub len_is : (m : Stocks) → IsOrdered namespace_cmp m → map.len (tables_in m) ≡ length m.entries
len_is m o = map.len-entries (tables_in m) ∙ (ap length (entries_are m o) ∙ length_named m.entries)

pub seen : (o : Option (Bor Stock)) → option_map (λ (s : Bor Stock). s.now.table) o ≡ table_of (option_copied o)
seen None = refl
seen (Some s) = refl

-- a collection under another name
clash : (b : Bool) → b ≡ true → b ≡ false → ⊥
clash b t f = cc

pub apart : (s : Tables) (from to : NsName) → map.contains_key s from ≡ true → map.contains_key s to ≡ false → same_ns from to ≡ false
apart s from to there free = by (cases_Bool (same_ns from to))
  where
    by : (same_ns from to ≡ true) ⊎ (same_ns from to ≡ false) → same_ns from to ≡ false
    by (inl e) = absurd (clash (map.contains_key s to) (subst (λ (n : NsName). map.contains_key s n ≡ true) (ns_is from to e) there) free)
    by (inr e) = e

pub placed_there : (s : Tables) (from to : NsName) (p : Table) → same_ns from to ≡ false → map.contains_key (map.remove (map.insert s to p) from) to ≡ true
placed_there s from to p e = ap is_some (ns_remove_else (map.insert s to p) from to (ns_turn from to false e) ∙ ns_insert_here s to p)

pub get_moved : (s : Tables) (from to : NsName) (p : Table) → same_ns from to ≡ false → map.get (map.insert s to p) from ≡ map.get s from
get_moved s from to p e = ns_insert_else s to p from e

pub moved : (s : Tables) (from to : NsName) (p w : Table) → map.insert (map.remove (map.insert s to p) from) to w ≡ map.insert (map.remove s from) to w
moved s from to p w = ns_map_same _ _ (λ q. ns_at_insert (map.remove (map.insert s to p) from) to w q
    ∙ (by _ _ (map.get s q) _ (same_ns q to) (same_ns q from) (ns_at_remove (map.insert s to p) from q) (ns_at_insert s to p q) (ns_at_remove s from q) ∙ sym (ns_at_insert (map.remove s from) to w q)))
  where
    by : (x y z v : Option Table) (a b : Bool) → x ≡ cond b None y → y ≡ cond a (Some p) z → v ≡ cond b None z → cond a (Some w) x ≡ cond a (Some w) v
    by x y z v true b e f g = refl
    by x y z v false true e f g = e ∙ sym g
    by x y z v false false e f g = e ∙ (f ∙ sym g)

pub none_there : (o : Option Table) → None ≡ o → is_some o ≡ true → ⊥
none_there None e h = cc
none_there (Some t) e h = cc

pub still_there : (s : Tables) (from to : NsName) (p : Table) → map.contains_key s from ≡ true → map.contains_key s to ≡ false → None ≡ map.get (map.insert s to p) from → ⊥
still_there s from to p there free e = none_there (map.get s from) (e ∙ get_moved s from to p (apart s from to there free)) there

keys_named : (es : List (NsName × Stock)) → each (λ (e : NsName × Table). e.0) (named_tables es) ≡ each (λ e. e.0) es
keys_named [] = refl
keys_named (e ∷ es) = ap (λ (z : List NsName). e.0 ∷ z) (keys_named es)

pub keys_are : (m : Stocks) → IsOrdered namespace_cmp m → map.keys (tables_in m) ≡ each (λ e. e.0) m.entries
keys_are m o = ap (each (λ (e : NsName × Table). e.0)) (entries_are m o) ∙ keys_named m.entries
