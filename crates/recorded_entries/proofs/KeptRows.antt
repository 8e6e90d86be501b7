-- What writes leave of the rows that are kept.
use Rattle.std.proofs.Common.{◌≡◌, ℕ, List, [], ◌∷◌, length, Bool, true, false, cond, arith, refl, sym, ap, ◌∙◌, subst, Option, Some, None}
use Rattle.std.specs.Prelude.{⊤, ◌≤◌, ◌+◌, ◌-◌, not, if◌then◌else◌}
use Rattle.std.specs.FinMap as map
use Rattle.bson_value.specs.declared.namespace.NsName.{NsName}
use Rattle.bson_value.specs.declared.value.Value.{Value}
use Rattle.bson_value.specs.NamespaceOrder.{namespace_cmp}
use Rattle.bson_encode.specs.Key.{key_of}
use Rattle.json_tree.specs.declared.tree.Tree.{Tree, Tree-F, fold-roll-Tree}
use Rattle.json_tree.specs.declared.tree.Tree.TheVariants as trees
use Rattle.json_text.specs.Print.{print_step, text_of}
use Rattle.state_model.specs.Keys.{Key, key_cmp, same_key, same_ns}
use Rattle.state_model.specs.States.{no_options}
use Rattle.state_model.proofs.Keys.{key_total, ns_anti, ns_is, key_is}
use Rattle.state_model.proofs.Maps.{ns_at_insert, ns_at_remove, key_at_insert, key_at_remove}
use Rattle.coll_state.specs.Rows.{Document as Fields, Row, Table, Rows, row_of}
use Rattle.coll_state.specs.Definitions.{definition_name}
use Rattle.coll_state.specs.Changes.{Tables, put_row, drop_row, put_table, drop_table, fresh_table, or_fresh, with_incarnation, put_index, take_index, on_found, on_there, renamed_in, no_rows}
use Rattle.copy_model.specs.Writes.{SingleWrite, change_rows}
use Rattle.copy_model.specs.Writes.{Put, Remove, Create, DropColl, DropDb, AddIndex, DropIndex}
use Rattle.history_model.specs.Documents.{options_of}
use Rattle.history_model.specs.Stages.{Write, Single, Rename, Txn, rows_all, rows_by}
use Rattle.recorded_entries.specs.Good.{IsGoodName, IsGoodDocument, IsGoodOptions, IsGoodDefinition}
use Rattle.recorded_entries.specs.Kept.{IsKeptRow, AreKeptRows, IsKeptOptions, IsKeptTable, AreKept}
use Rattle.recorded_entries.proofs.Definitions.{tree_object}
use Rattle.coll_state.proofs.Sound.{some_table}
use Rattle.history_model.proofs.IndexesHeld.{no_tree, no_table, same_tree}

-- ---- tables

abbrev pub AllKept : Tables → Type 0
AllKept ts = (n : NsName) (t : Table) → map.get ts n ≡ Some t → IsGoodName n × IsKeptTable t

keep_insert : (ts : Tables) (k : NsName) (u : Table) → AllKept ts → IsGoodName k → IsKeptTable u → AllKept (map.insert ts k u)
keep_insert ts k u h g w n t e = by (same_ns n k) refl (sym (ns_at_insert ts k u n) ∙ e)
  where
    by : (b : Bool) → same_ns n k ≡ b → cond b (Some u) (map.get ts n) ≡ Some t → IsGoodName n × IsKeptTable t
    by true q f = (subst IsGoodName (sym (ns_is n k q)) g, subst IsKeptTable (some_table u t f) w)
    by false q f = h n t f

keep_remove : (ts : Tables) (k : NsName) → AllKept ts → AllKept (map.remove ts k)
keep_remove ts k h n t e = by (same_ns n k) (sym (ns_at_remove ts k n) ∙ e)
  where
    by : (b : Bool) → cond b None (map.get ts n) ≡ Some t → IsGoodName n × IsKeptTable t
    by true f = no_table t f
    by false f = h n t f

keep_retain : (ts : Tables) (p : NsName → Bool) → AllKept ts → AllKept (map.retain_keys ts p)
keep_retain ts p h n t e = by (p n) (sym (map.get-retain_keys ts p n (λ x f. ap p (sym (ns_anti n x f)))) ∙ e)
  where
    by : (b : Bool) → cond b (map.get ts n) None ≡ Some t → IsGoodName n × IsKeptTable t
    by true f = h n t f
    by false f = no_table t f

keep_there : (ts : Tables) (k : NsName) (g : Table → Table) → AllKept ts → ((t : Table) → map.get ts k ≡ Some t → IsKeptTable t → IsKeptTable (g t)) → AllKept (on_there g k ts)
keep_there ts k g h keeps = by (map.get ts k) refl
  where
    by : (o : Option Table) → map.get ts k ≡ o → AllKept (on_found g k o ts)
    by None e = h
    by (Some t) e = keep_insert ts k (g t) h (h k t e).0 (keeps t e (h k t e).1)

-- ---- a table

put_kept : (next : ℕ) (id : Value) (d : Fields) (rs : List Row) → IsGoodDocument id d → AreKeptRows rs → AreKeptRows (put_row next (key_of id) d rs)
put_kept next id d [] g h = ((id, g, refl), tt)
put_kept next id d (r ∷ rs) g h = by (same_key (key_of id) r.key) refl (put_kept next id d rs g h.1)
  where
    by : (b : Bool) → same_key (key_of id) r.key ≡ b → AreKeptRows (put_row next (key_of id) d rs) → AreKeptRows (if b then record { no = r.no; key = r.key; document = d } ∷ rs else r ∷ put_row next (key_of id) d rs)
    by true q ih = ((id, g, sym (key_is (key_of id) r.key q)), h.1)
    by false q ih = (h.0, ih)

drop_kept : (k : Key) (rs : List Row) → AreKeptRows rs → AreKeptRows (drop_row k rs)
drop_kept k [] h = tt
drop_kept k (r ∷ rs) h = by (same_key k r.key) (drop_kept k rs h.1)
  where
    by : (b : Bool) → AreKeptRows (drop_row k rs) → AreKeptRows (if b then rs else r ∷ drop_row k rs)
    by true g = h.1
    by false g = (h.0, g)

-- options `{}`
pub no_options_good : IsGoodOptions []
unfolding options_of
no_options_good = record {
  formed = ((tt, tt), tt);
  no_create = refl;
  no_id_index = refl;
  short = subst (λ (t : Tree). length (text_of t) ≤ 8192) (sym (tree_object [])) (omega (arith, empty));
  shallow = omega arith;
}
  where
    empty : length (text_of no_options) ≡ 2
    empty = ap (λ (t : Tree). length (text_of t)) (sym (trees.rolls-Object [])) ∙ ap length (fold-roll-Tree (List ℕ) print_step (Tree-F.Object []))

none_are : no_options ≡ options_of []
unfolding options_of
none_are = sym (tree_object [])

fresh_kept : (inc : ℕ) (o : Tree) → IsKeptOptions o → IsKeptTable (fresh_table inc o)
fresh_kept inc o k = record { options = k; indexes = λ i d e. no_tree d (sym (map.get-empty {X = Tree} key_cmp i) ∙ e); few = omega (arith, map.len-empty key_cmp Tree); rows = tt }

or_fresh_kept : (inc : ℕ) (o : Option Table) → ((t : Table) → o ≡ Some t → IsKeptTable t) → IsKeptTable (or_fresh inc o)
or_fresh_kept inc None h = fresh_kept inc no_options ([], no_options_good, none_are)
or_fresh_kept inc (Some t) h = h t refl

put_table_kept : (id : Value) (d : Fields) (t : Table) → IsGoodDocument id d → IsKeptTable t → IsKeptTable (put_table (key_of id) d t)
put_table_kept id d t g h = record { options = h.options; indexes = h.indexes; few = h.few; rows = put_kept t.next id d t.rows g h.rows }

drop_table_kept : (k : Key) (t : Table) → IsKeptTable t → IsKeptTable (drop_table k t)
drop_table_kept k t h = record { options = h.options; indexes = h.indexes; few = h.few; rows = drop_kept k t.rows h.rows }

renumbered : (inc : ℕ) (t : Table) → IsKeptTable t → IsKeptTable (with_incarnation inc t)
renumbered inc t h = record { options = h.options; indexes = h.indexes; few = h.few; rows = h.rows }

at_most_one : (m : map.FinMap key_cmp Tree) (k : Key) (v : Tree) → map.len (map.insert m k v) ≤ map.len m + 1
at_most_one m k v = by (map.contains_key m k) (map.len-insert key_total m k v)
  where
    by : (b : Bool) → map.len (map.insert m k v) ≡ cond b (map.len m) (map.len m + 1) → map.len (map.insert m k v) ≤ map.len m + 1
    by true e = omega (arith, e)
    by false e = omega (arith, e)

no_more : (m : map.FinMap key_cmp Tree) (k : Key) → map.len (map.remove m k) ≤ map.len m
no_more m k = by (map.contains_key m k) (map.len-remove key_total m k)
  where
    by : (b : Bool) → map.len (map.remove m k) ≡ cond b (map.len m - 1) (map.len m) → map.len (map.remove m k) ≤ map.len m
    by true e = omega (arith, e)
    by false e = omega (arith, e)

added_kept : (d : Tree) (t : Table) → IsGoodDefinition d → map.len t.indexes ≤ 62 → IsKeptTable t → IsKeptTable (put_index (definition_name d) d t)
added_kept d t g room h = record { options = h.options; indexes = λ i x e. by i x (same_key i (definition_name d)) refl (sym (key_at_insert t.indexes (definition_name d) d i) ∙ e); few = omega (arith, room, at_most_one t.indexes (definition_name d) d); rows = h.rows }
  where
    by : (i : Key) (x : Tree) (b : Bool) → same_key i (definition_name d) ≡ b → cond b (Some d) (map.get t.indexes i) ≡ Some x → IsGoodDefinition x × (definition_name x ≡ i)
    by i x true q f = subst (λ (z : Tree). IsGoodDefinition z × (definition_name z ≡ i)) (same_tree d x f) (g, sym (key_is i (definition_name d) q))
    by i x false q f = h.indexes i x f

few_left : {a b : ℕ} → a ≤ b → b ≤ 63 → a ≤ 63
few_left h g = omega (arith, h, g)

taken_kept : (k : Key) (t : Table) → IsKeptTable t → IsKeptTable (take_index k t)
taken_kept k t h = record { options = h.options; indexes = λ i x e. by i x (same_key i k) (sym (key_at_remove t.indexes k i) ∙ e); few = few_left (no_more t.indexes k) h.few; rows = h.rows }
  where
    by : (i : Key) (x : Tree) (b : Bool) → cond b None (map.get t.indexes i) ≡ Some x → IsGoodDefinition x × (definition_name x ≡ i)
    by i x true f = no_tree x f
    by i x false f = h.indexes i x f

-- ---- writes

-- there is room for a definition more
abbrev pub HasRoom : NsName → Rows → Type 0
HasRoom n r = (t : Table) → map.get r.tables n ≡ Some t → map.len t.indexes ≤ 62

-- what a write puts there, made on these rows
abbrev pub IsKeptSingle : SingleWrite → Rows → Type 0
IsKeptSingle (Put n k d) r = IsGoodName n × (id : Value) × IsGoodDocument id d × (k ≡ key_of id)
IsKeptSingle (Create n o) r = IsGoodName n × IsKeptOptions o
IsKeptSingle (AddIndex n d) r = IsGoodDefinition d × HasRoom n r
IsKeptSingle _ r = ⊤

abbrev pub AreKeptSingles : List SingleWrite → Rows → Type 0
AreKeptSingles [] r = ⊤
AreKeptSingles (w ∷ ws) r = IsKeptSingle w r × AreKeptSingles ws (change_rows w r)

abbrev pub IsKeptWrite : Write → Rows → Type 0
IsKeptWrite (Single w) r = IsKeptSingle w r
IsKeptWrite (Rename a b) r = IsGoodName b
IsKeptWrite (Txn ws) r = AreKeptSingles ws r

put_under_kept : (n : NsName) (k : Key) (d : Fields) (r : Rows) (id : Value) → IsGoodName n → IsGoodDocument id d → k ≡ key_of id → AreKept r → AllKept (map.insert r.tables n (put_table k d (or_fresh r.count (map.get r.tables n))))
put_under_kept n k d r id g i e h =
    subst (λ (z : Key). AllKept (map.insert r.tables n (put_table z d (or_fresh r.count (map.get r.tables n))))) (sym e)
    (keep_insert r.tables n (put_table (key_of id) d (or_fresh r.count (map.get r.tables n))) h g (put_table_kept id d (or_fresh r.count (map.get r.tables n)) i (or_fresh_kept r.count (map.get r.tables n) (λ t f. (h n t f).1))))

pub single_kept : (w : SingleWrite) (r : Rows) → IsKeptSingle w r → AreKept r → AreKept (change_rows w r)
single_kept (Put n k d) r w h = put_under_kept n k d r w.1 w.0 w.2 w.3 h
single_kept (Remove n k) r w h = keep_there r.tables n (drop_table k) h (λ t e g. drop_table_kept k t g)
single_kept (Create n o) r w h = keep_insert r.tables n (fresh_table r.count o) h w.0 (fresh_kept r.count o w.1)
single_kept (DropColl n) r w h = keep_remove r.tables n h
single_kept (DropDb d) r w h = keep_retain r.tables (λ n. not (same_key n.db d)) h
single_kept (AddIndex n d) r w h = keep_there r.tables n (put_index (definition_name d) d) h (λ t e g. added_kept d t w.0 (w.1 t e) g)
single_kept (DropIndex n i) r w h = keep_there r.tables n (take_index i) h (λ t e g. taken_kept i t g)

singles_kept : (ws : List SingleWrite) (r : Rows) → AreKeptSingles ws r → AreKept r → AreKept (rows_all ws r)
singles_kept [] r w h = h
singles_kept (x ∷ ws) r w h = singles_kept ws (change_rows x r) w.1 (single_kept x r w.0 h)

renamed_kept : (r : Rows) (a b : NsName) → IsGoodName b → AreKept r → AllKept (renamed_in a (map.get r.tables a) b r.count r.tables)
renamed_kept r a b g h = by (map.get r.tables a) refl
  where
    by : (o : Option Table) → map.get r.tables a ≡ o → AllKept (renamed_in a o b r.count r.tables)
    by None e = h
    by (Some t) e = keep_insert (map.remove r.tables a) b (with_incarnation r.count t) (keep_remove r.tables a h) g (renumbered r.count t (h a t e).1)

pub write_kept : (w : Write) (r : Rows) → IsKeptWrite w r → AreKept r → AreKept (rows_by w r)
write_kept (Single x) r w h = single_kept x r w h
write_kept (Rename a b) r w h = renamed_kept r a b w h
write_kept (Txn ws) r w h = singles_kept ws r w h

pub nothing_kept : AreKept no_rows
nothing_kept n t e = no_table t (sym (map.get-empty {X = Table} namespace_cmp n) ∙ e)

-- the row of a key
pub row_kept : (rs : List Row) (k : Key) (w : Row) → AreKeptRows rs → row_of rs k ≡ Some w → IsKeptRow w × (k ≡ w.key)
row_kept [] k w h e = cc
row_kept (r ∷ rs) k w h e = by (same_key k r.key) refl e (row_kept rs k w h.1)
  where
    by : (b : Bool) → same_key k r.key ≡ b → (if b then Some r else row_of rs k) ≡ Some w → (row_of rs k ≡ Some w → IsKeptRow w × (k ≡ w.key)) → IsKeptRow w × (k ≡ w.key)
    by true q f more = (let p : r ≡ w = cc in subst (λ (x : Row). IsKeptRow x × (k ≡ x.key)) p (h.0, key_is k r.key q))
    by false q f more = more f
