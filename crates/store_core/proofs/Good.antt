-- Rows that stand under the keys of their documents, which are short: changes keep that.
use Rattle.std.proofs.Common.{◌≡◌, ℕ, List, [], ◌∷◌, Bool, true, false, cond, refl, sym, ap, ◌∙◌, subst, Option, Some, None}
use Rattle.std.specs.Prelude.{⊤, not, if◌then◌else◌}
use Rattle.std.specs.FinMap as map
use Rattle.bson_value.specs.declared.namespace.NsName.{NsName}
use Rattle.bson_value.specs.NamespaceOrder.{namespace_cmp}
use Rattle.state_model.specs.Keys.{Key, same_key, same_ns}
use Rattle.state_model.proofs.Keys.{ns_anti, key_is}
use Rattle.state_model.proofs.Maps.{ns_at_insert, ns_at_remove}
use Rattle.coll_state.specs.Kept.{is_short}
use Rattle.coll_state.specs.Rows.{Document as Fields, Row, Table, Rows, key_in, id_of}
use Rattle.coll_state.specs.Definitions.{definition_name}
use Rattle.coll_state.specs.Changes.{Tables, put_row, drop_row, put_table, drop_table, fresh_table, or_fresh, with_incarnation, put_index, take_index, on_found, on_there, renamed_in, no_rows}
use Rattle.copy_model.specs.Writes.{SingleWrite, change_rows}
use Rattle.copy_model.specs.Writes.{Put, Remove, Create, DropColl, DropDb, AddIndex, DropIndex}
use Rattle.history_model.specs.Stages.{rows_all}
use Rattle.command_refusals.specs.Keyed.{AllKeyed, AreKeyed}
use Rattle.store_core.specs.Stores.{AllShort, AreShort}
use Rattle.coll_state.proofs.Sound.{some_table, no_table}

-- a document that may stand under a key
abbrev pub IsGood : Key → Fields → Type 0
IsGood k d = (k ≡ key_in (id_of d)) × (is_short d ≡ true)

abbrev AllGood : List Row → Type 0
AllGood [] = ⊤
AllGood (r ∷ rs) = IsGood r.key r.document × AllGood rs

abbrev AllTables : Tables → Type 0
AllTables ts = (n : NsName) (t : Table) → map.get ts n ≡ Some t → AllGood t.rows

abbrev pub AreGood : Rows → Type 0
AreGood r = AllTables r.tables

-- ---- the two halves

join_rows : (rs : List Row) → AllKeyed rs → AllShort rs → AllGood rs
join_rows [] a b = tt
join_rows (r ∷ rs) a b = ((a.0, b.0), join_rows rs a.1 b.1)

keyed_rows : (rs : List Row) → AllGood rs → AllKeyed rs
keyed_rows [] h = tt
keyed_rows (r ∷ rs) h = (h.0.0, keyed_rows rs h.1)

short_rows : (rs : List Row) → AllGood rs → AllShort rs
short_rows [] h = tt
short_rows (r ∷ rs) h = (h.0.1, short_rows rs h.1)

pub good_from : (r : Rows) → AreKeyed r → AreShort r → AreGood r
good_from r a b n t e = join_rows t.rows (a n t e) (b n t e)

pub good_keyed : (r : Rows) → AreGood r → AreKeyed r
good_keyed r h n t e = keyed_rows t.rows (h n t e)

pub good_short : (r : Rows) → AreGood r → AreShort r
good_short r h n t e = short_rows t.rows (h n t e)

-- ---- tables

good_insert : (ts : Tables) (k : NsName) (u : Table) → AllTables ts → AllGood u.rows → AllTables (map.insert ts k u)
good_insert ts k u h w n t e = by (same_ns n k) (sym (ns_at_insert ts k u n) ∙ e)
  where
    by : (b : Bool) → cond b (Some u) (map.get ts n) ≡ Some t → AllGood t.rows
    by true f = subst (λ (z : Table). AllGood z.rows) (some_table u t f) w
    by false f = h n t f

good_remove : (ts : Tables) (k : NsName) → AllTables ts → AllTables (map.remove ts k)
good_remove ts k h n t e = by (same_ns n k) (sym (ns_at_remove ts k n) ∙ e)
  where
    by : (b : Bool) → cond b None (map.get ts n) ≡ Some t → AllGood t.rows
    by true f = absurd (no_table t f)
    by false f = h n t f

good_retain : (ts : Tables) (p : NsName → Bool) → AllTables ts → AllTables (map.retain_keys ts p)
good_retain ts p h n t e = by (p n) (sym (map.get-retain_keys ts p n (λ x f. ap p (sym (ns_anti n x f)))) ∙ e)
  where
    by : (b : Bool) → cond b (map.get ts n) None ≡ Some t → AllGood t.rows
    by true f = h n t f
    by false f = absurd (no_table t f)

good_there : (ts : Tables) (k : NsName) (g : Table → Table) → ((t : Table) → AllGood t.rows → AllGood (g t).rows) → AllTables ts → AllTables (on_there g k ts)
good_there ts k g keeps h = by (map.get ts k) refl
  where
    by : (o : Option Table) → map.get ts k ≡ o → AllTables (on_found g k o ts)
    by None e = h
    by (Some t) e = good_insert ts k (g t) h (keeps t (h k t e))

put_good : (next : ℕ) (k : Key) (d : Fields) (rs : List Row) → IsGood k d → AllGood rs → AllGood (put_row next k d rs)
put_good next k d [] w h = (w, tt)
put_good next k d (r ∷ rs) w h = by (same_key k r.key) refl (put_good next k d rs w h.1)
  where
    by : (b : Bool) → same_key k r.key ≡ b → AllGood (put_row next k d rs) → AllGood (if b then record { no = r.no; key = r.key; document = d } ∷ rs else r ∷ put_row next k d rs)
    by true e g = ((sym (key_is k r.key e) ∙ w.0, w.1), h.1)
    by false e g = (h.0, g)

drop_good : (k : Key) (rs : List Row) → AllGood rs → AllGood (drop_row k rs)
drop_good k [] h = tt
drop_good k (r ∷ rs) h = by (same_key k r.key) (drop_good k rs h.1)
  where
    by : (b : Bool) → AllGood (drop_row k rs) → AllGood (if b then rs else r ∷ drop_row k rs)
    by true g = h.1
    by false g = (h.0, g)

-- ---- writes

abbrev pub IsGoodSingle : SingleWrite → Type 0
IsGoodSingle (Put n k d) = IsGood k d
IsGoodSingle _ = ⊤

abbrev pub AreGoodSingles : List SingleWrite → Type 0
AreGoodSingles [] = ⊤
AreGoodSingles (w ∷ ws) = IsGoodSingle w × AreGoodSingles ws

pub single_good : (w : SingleWrite) (r : Rows) → IsGoodSingle w → AreGood r → AreGood (change_rows w r)
single_good (Put n k d) r w h = good_insert r.tables n (put_table k d (or_fresh r.count (map.get r.tables n))) h (by (map.get r.tables n) refl)
  where
    by : (o : Option Table) → map.get r.tables n ≡ o → AllGood (put_table k d (or_fresh r.count o)).rows
    by None e = put_good 1 k d [] w tt
    by (Some t) e = put_good t.next k d t.rows w (h n t e)
single_good (Remove n k) r w h = good_there r.tables n (drop_table k) (λ t g. drop_good k t.rows g) h
single_good (Create n o) r w h = good_insert r.tables n (fresh_table r.count o) h tt
single_good (DropColl n) r w h = good_remove r.tables n h
single_good (DropDb d) r w h = good_retain r.tables (λ n. not (same_key n.db d)) h
single_good (AddIndex n d) r w h = good_there r.tables n (put_index (definition_name d) d) (λ t g. g) h
single_good (DropIndex n i) r w h = good_there r.tables n (take_index i) (λ t g. g) h

pub singles_good : (ws : List SingleWrite) (r : Rows) → AreGoodSingles ws → AreGood r → AreGood (rows_all ws r)
singles_good [] r w h = h
singles_good (x ∷ ws) r w h = singles_good ws (change_rows x r) w.1 (single_good x r w.0 h)

pub renamed_good : (r : Rows) (a b : NsName) → AreGood r → AllTables (renamed_in a (map.get r.tables a) b r.count r.tables)
renamed_good r a b h = by (map.get r.tables a) refl
  where
    by : (o : Option Table) → map.get r.tables a ≡ o → AllTables (renamed_in a o b r.count r.tables)
    by None e = h
    by (Some t) e = good_insert (map.remove r.tables a) b (with_incarnation r.count t) (good_remove r.tables a h) (h a t e)

pub nothing_good : AreGood no_rows
nothing_good n t e = (let f = map.get-empty {X = Table} namespace_cmp n in cc)
