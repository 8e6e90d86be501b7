-- Rows stay under the keys of their documents.
use Rattle.std.proofs.Common.{◌≡◌, ℕ, List, [], ◌∷◌, Bool, true, false, cond, refl, sym, ap, ◌∙◌, subst, Option, Some, None}
use Rattle.std.specs.Prelude.{if◌then◌else◌}
use Rattle.std.specs.FinMap as map
use Rattle.bson_value.specs.declared.namespace.NsName.{NsName}
use Rattle.bson_value.specs.NamespaceOrder.{namespace_cmp}
use Rattle.bson_encode.specs.Key.{key_of}
use Rattle.json_tree.specs.declared.tree.Tree.{Tree}
use Rattle.state_model.specs.Keys.{Key, same_key, same_ns}
use Rattle.state_model.proofs.Keys.{key_is}
use Rattle.state_model.proofs.Maps.{ns_at_insert}
use Rattle.coll_state.specs.declared.change.Change.{Change}
use Rattle.coll_state.specs.ChangeAll.{changed_by, change_one, HasId}
use Rattle.coll_state.specs.Changes.{Tables, put_row, drop_row, put_table, drop_table, put_under, put, remove, or_fresh, on_found, described, under_names, describe, no_rows}
use Rattle.coll_state.specs.Rows.{Document, Row, Rows, Table, id_of, key_in}
use Rattle.command_refusals.specs.Keyed.{AllKeyed, AreKeyed}
use Rattle.transactions.specs.Transactions.{ChangesKeepKeys}
use Rattle.coll_state.proofs.Sound.{some_table}

put_keys : (next : ℕ) (k : Key) (d : Document) (rs : List Row) → key_in (id_of d) ≡ k → AllKeyed rs → AllKeyed (put_row next k d rs)
put_keys next k d [] e h = (sym e, tt)
put_keys next k d (r ∷ rs) e h = by (same_key k r.key) refl (put_keys next k d rs e h.1)
  where
    by : (b : Bool) → same_key k r.key ≡ b → AllKeyed (put_row next k d rs) → AllKeyed (if b then record { no = r.no; key = r.key; document = d } ∷ rs else r ∷ put_row next k d rs)
    by true q rest = (sym (key_is k r.key q) ∙ sym e, h.1)
    by false q rest = (h.0, rest)

drop_keys : (k : Key) (rs : List Row) → AllKeyed rs → AllKeyed (drop_row k rs)
drop_keys k [] h = tt
drop_keys k (r ∷ rs) h = by (same_key k r.key) (drop_keys k rs h.1)
  where
    by : (b : Bool) → AllKeyed (drop_row k rs) → AllKeyed (if b then rs else r ∷ drop_row k rs)
    by true rest = h.1
    by false rest = (h.0, rest)

abbrev AllTables : Tables → Type 0
AllTables ts = (n : NsName) (t : Table) → map.get ts n ≡ Some t → AllKeyed t.rows

set_keys : (ts : Tables) (n : NsName) (u : Table) → AllTables ts → AllKeyed u.rows → AllTables (map.insert ts n u)
set_keys ts n u h w m t e = by (same_ns m n) (sym (ns_at_insert ts n u m) ∙ e)
  where
    by : (b : Bool) → cond b (Some u) (map.get ts m) ≡ Some t → AllKeyed t.rows
    by true f = subst (λ (x : Table). AllKeyed x.rows) (some_table u t f) w
    by false f = h m t f

table_keys : (n : NsName) (r : Rows) → AreKeyed r → (inc : ℕ) (o : Option Table) → map.get r.tables n ≡ o → AllKeyed (or_fresh inc o).rows
table_keys n r h inc None e = tt
table_keys n r h inc (Some t) e = h n t e

under_keys : (n : NsName) (k : Key) (d : Document) (r : Rows) → key_in (id_of d) ≡ k → AreKeyed r → AreKeyed (put_under n k d r)
under_keys n k d r e h = set_keys r.tables n (put_table k d (or_fresh r.count (map.get r.tables n))) h (put_keys (or_fresh r.count (map.get r.tables n)).next k d (or_fresh r.count (map.get r.tables n)).rows e (table_keys n r h r.count (map.get r.tables n) refl))

pub put_keyed_rows : (n : NsName) (d : Document) (r : Rows) → AreKeyed r → AreKeyed (put n d r)
put_keyed_rows n d r h = under_keys n (key_in (id_of d)) d r refl h

remove_keys : (n : NsName) (k : Key) (r : Rows) → AreKeyed r → AreKeyed (remove n k r)
remove_keys n k r h = by (map.get r.tables n) refl
  where
    by : (o : Option Table) → map.get r.tables n ≡ o → AllTables (on_found (drop_table k) n o r.tables)
    by None e = h
    by (Some t) e = set_keys r.tables n (drop_table k t) h (drop_keys k t.rows (h n t e))

pub describe_keys : (n : NsName) (o : Tree) (ds : List Tree) (r : Rows) → AreKeyed r → AreKeyed (describe n o ds r)
describe_keys n o ds r h = set_keys r.tables n (described o (under_names ds) (or_fresh r.count (map.get r.tables n))) h (table_keys n r h r.count (map.get r.tables n) refl)

pub no_keys : AreKeyed no_rows
no_keys n t e = (let f = map.get-empty {X = Table} namespace_cmp n in cc)

one_keys : (c : Change) (r : Rows) → HasId c.id c.doc → AreKeyed r → AreKeyed (change_one c r)
one_keys c r i h = by c.doc refl
  where
    by : (o : Option Document) → c.doc ≡ o → AreKeyed (changed_by c.ns (key_of c.id) o r)
    by None e = remove_keys c.ns (key_of c.id) r h
    by (Some d) e = under_keys c.ns (key_of c.id) d r (ap key_in (i d e)) h

pub change_keys : (c : Change) (r : Rows) → HasId c.id c.doc → AreKeyed r → AreKeyed (change_one c r)
change_keys c r i h = one_keys c r i h

pub keep_keys : ChangesKeepKeys
keep_keys [] r i h = h
keep_keys (c ∷ cs) r i h = keep_keys cs (change_one c r) i.1 (one_keys c r i.0 h)
