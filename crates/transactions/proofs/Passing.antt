-- What documents pass, and what good changes are.
use Rattle.std.proofs.Common.{◌≡◌, ℕ, List, [], ◌∷◌, Bool, true, false, cond, refl, sym, ◌∙◌, subst, Option, Some, None}
use Rattle.std.specs.Prelude.{if◌then◌else◌}
use Rattle.std.specs.FinMap as map
use Rattle.bson_value.specs.declared.namespace.NsName.{NsName}
use Rattle.bson_encode.specs.Key.{key_of}
use Rattle.state_model.specs.Keys.{Key, same_key, same_ns}
use Rattle.state_model.proofs.Maps.{ns_at_insert}
use Rattle.coll_state.specs.declared.change.Change.{Change}
use Rattle.coll_state.specs.ChangeAll.{changed_by, change_one}
use Rattle.coll_state.specs.Changes.{Tables, put_row, drop_row, put_table, drop_table, or_fresh, on_found}
use Rattle.coll_state.specs.Rows.{Document, Row, Rows, Table}
use Rattle.transactions.specs.Transactions.{AreGood, AllPass, DocumentsPass, ChangesPass, ChangesKeepTest, GoodChanges}
use Rattle.transactions.proofs.Progress.{good_there, good_ids}
use Rattle.coll_state.specs.Kept.{is_short}
use Rattle.coll_state.proofs.Sound.{some_table}

abbrev Test : Type 0
Test = Document → Bool

put_passes : (p : Test) (next : ℕ) (k : Key) (d : Document) (rs : List Row) → p d ≡ true → AllPass p rs → AllPass p (put_row next k d rs)
put_passes p next k d [] e h = (e, tt)
put_passes p next k d (r ∷ rs) e h = by (same_key k r.key) (put_passes p next k d rs e h.1)
  where
    by : (b : Bool) → AllPass p (put_row next k d rs) → AllPass p (if b then record { no = r.no; key = r.key; document = d } ∷ rs else r ∷ put_row next k d rs)
    by true rest = (e, h.1)
    by false rest = (h.0, rest)

drop_passes : (p : Test) (k : Key) (rs : List Row) → AllPass p rs → AllPass p (drop_row k rs)
drop_passes p k [] h = tt
drop_passes p k (r ∷ rs) h = by (same_key k r.key) (drop_passes p k rs h.1)
  where
    by : (b : Bool) → AllPass p (drop_row k rs) → AllPass p (if b then rs else r ∷ drop_row k rs)
    by true rest = h.1
    by false rest = (h.0, rest)

abbrev TablesPass : Test → Tables → Type 0
TablesPass p ts = (n : NsName) (t : Table) → map.get ts n ≡ Some t → AllPass p t.rows

set_passes : (p : Test) (ts : Tables) (n : NsName) (u : Table) → TablesPass p ts → AllPass p u.rows → TablesPass p (map.insert ts n u)
set_passes p ts n u h w m t e = by (same_ns m n) (sym (ns_at_insert ts n u m) ∙ e)
  where
    by : (b : Bool) → cond b (Some u) (map.get ts m) ≡ Some t → AllPass p t.rows
    by true f = subst (λ (x : Table). AllPass p x.rows) (some_table u t f) w
    by false f = h m t f

table_passes : (p : Test) (n : NsName) (r : Rows) → DocumentsPass p r → (inc : ℕ) (o : Option Table) → map.get r.tables n ≡ o → AllPass p (or_fresh inc o).rows
table_passes p n r h inc None e = tt
table_passes p n r h inc (Some t) e = h n t e

one_passes : (p : Test) (n : NsName) (k : Key) (o : Option Document) (r : Rows) → ((d : Document) → o ≡ Some d → p d ≡ true) → DocumentsPass p r → DocumentsPass p (changed_by n k o r)
one_passes p n k (Some d) r w h =
    set_passes p r.tables n (put_table k d (or_fresh r.count (map.get r.tables n))) h (put_passes p (or_fresh r.count (map.get r.tables n)).next k d (or_fresh r.count (map.get r.tables n)).rows (w d refl) (table_passes p n r h r.count (map.get r.tables n) refl))
one_passes p n k None r w h = by (map.get r.tables n) refl
  where
    by : (o : Option Table) → map.get r.tables n ≡ o → TablesPass p (on_found (drop_table k) n o r.tables)
    by None e = h
    by (Some t) e = set_passes p r.tables n (drop_table k t) h (drop_passes p k t.rows (h n t e))

pub keep_test : ChangesKeepTest
keep_test p [] r w h = h
keep_test p (c ∷ cs) r w h = keep_test p cs (change_one c r) w.1 (one_passes p c.ns (key_of c.id) c.doc r w.0 h)

short_ones : (cs : List Change) (ts : Tables) → AreGood cs ts → ChangesPass is_short cs
short_ones [] ts g = tt
short_ones (c ∷ cs) ts g = (g.0.short, short_ones cs ts g.1)

pub good_are : GoodChanges
good_are cs ts g = (good_there cs ts g, good_ids cs ts g, short_ones cs ts g)
