-- A write on rows is the write on their state, and keeps the numbers of the documents that it doesn't put in or take out.
use Rattle.std.proofs.Common.{◌≡◌, ℕ, ◌+◌, List, [], ◌∷◌, Bool, true, false, not, refl, sym, ap, ◌∙◌, subst, arith, Option, Some, None, inl, inr}
use Rattle.std.specs.Prelude.{◌&&◌, ◌||◌, ◌⊎◌}
use Rattle.std.specs.FinMap as map
use Rattle.std.proofs.lemmas.Bool.{cases_Bool}
use Rattle.bson_value.specs.declared.namespace.NsName.{NsName}
use Rattle.state_model.specs.Keys.{Key, same_key, same_ns}
use Rattle.state_model.specs.Spots.{Document, Spot, Inside, here}
use Rattle.state_model.specs.Moves.{Move}
use Rattle.state_model.specs.Moves as moves
use Rattle.state_model.specs.Covers.{move_covers, any_move_covers}
use Rattle.state_model.proofs.Keys.{ns_anti, ns_is}
use Rattle.state_model.proofs.Maps.{ns_insert_here, ns_insert_else, ns_remove_else}
use Rattle.coll_state.specs.Rows.{Document as Fields, Row, Table, Rows, row_of, AreSound, state_of}
use Rattle.coll_state.proofs.RowLists.{same_id, kept_row, row_put_else, row_drop_else}
use Rattle.coll_state.specs.Changes.{Tables, put_row, put_table, drop_table, fresh_table, put_index, take_index, on_found, or_fresh as or_fresh_table}
use Rattle.coll_state.specs.Definitions.{definition_name}
use Rattle.coll_state.proofs.Links.{put_link, remove_link, create_link, drop_link, drop_db_link, add_index_link, drop_index_link}
use Rattle.coll_state.proofs.Sound.{later, kept_insert, kept_remove, kept_retain, kept_there, drop_keeps, index_keeps, no_index_keeps, fresh_keeps, kept_put}
use Rattle.copy_model.specs.Writes.{SingleWrite, Put, Remove, Create, DropColl, DropDb, AddIndex, DropIndex, change, change_rows, IsRecorded}

-- the write on the state
pub change_link : (w : SingleWrite) (r : Rows) → AreSound r → state_of (change_rows w r) ≡ change w (state_of r)
change_link (Put n k d) r ok = put_link n k d r
change_link (Remove n k) r ok = remove_link n k r ok
change_link (Create n o) r ok = create_link n o r
change_link (DropColl n) r ok = drop_link n r
change_link (DropDb d) r ok = drop_db_link d r
change_link (AddIndex n d) r ok = add_index_link n d r
change_link (DropIndex n i) r ok = drop_index_link n i r

-- rows stay in order
pub change_sound : (w : SingleWrite) (r : Rows) → AreSound r → AreSound (change_rows w r)
change_sound (Put n k d) r ok = kept_put r.count r.tables n k d ok
change_sound (Remove n k) r ok = kept_there r.count r.tables n (drop_table k) (drop_keeps r.count k) ok
change_sound (Create n o) r ok = kept_insert (r.count + 1) r.tables n (fresh_table r.count o) (later r.count r.tables ok) (fresh_keeps r.count o)
change_sound (DropColl n) r ok = kept_remove r.count r.tables n ok
change_sound (DropDb d) r ok = kept_retain r.count r.tables (λ n. not (same_key n.db d)) ok
change_sound (AddIndex n d) r ok = kept_there r.count r.tables n (put_index (definition_name d) d) (index_keeps r.count (definition_name d) d) ok
change_sound (DropIndex n i) r ok = kept_there r.count r.tables n (take_index i) (no_index_keeps r.count i) ok

-- a document keeps its number and its incarnation
pub record RowKept (n : NsName) (k : Key) (t : Table) (row : Row) (s : Tables) : Type 0 where
  pub table : Table
  pub kept : Row
  pub there : map.get s n ≡ Some table
  pub stays : row_of table.rows k ≡ Some kept
  pub incarnation : table.incarnation ≡ t.incarnation
  pub no : kept.no ≡ row.no

untouched : (n : NsName) (k : Key) (t : Table) (row : Row) (s : Tables) → map.get s n ≡ Some t → row_of t.rows k ≡ Some row → RowKept n k t row s
untouched n k t row s e f = record { table = t; kept = row; there = e; stays = f; incarnation = refl; no = refl }

-- the table that stands in the place of one keeps the row
abbrev KeptIn : Key → Table → Row → Table → Type 0
KeptIn k t row u = (x : Row) × (row_of u.rows k ≡ Some x) × (x.no ≡ row.no) × (u.incarnation ≡ t.incarnation)

inserted : (n : NsName) (u : Table) (s : Tables) (m : NsName) (k : Key) (t : Table) (row : Row) → map.get s m ≡ Some t → row_of t.rows k ≡ Some row → (same_ns m n ≡ true → KeptIn k t row u) →
    (same_ns m n ≡ true) ⊎ (same_ns m n ≡ false) → RowKept m k t row (map.insert s n u)
inserted n u s m k t row e f h (inl a) =
    let x = h a in
    let there : map.get (map.insert s n u) m ≡ Some u = subst (λ (z : NsName). map.get (map.insert s n u) z ≡ Some u) (sym (ns_is m n a)) (ns_insert_here s n u) in
    record { table = u; kept = x.0; there = there; stays = x.1; incarnation = x.3; no = x.2 }
inserted n u s m k t row e f h (inr a) = untouched m k t row (map.insert s n u) (ns_insert_else s n u m a ∙ e) f

-- a change of one table that keeps a row's number
changed_rows : (n : NsName) (g : Table → Table) (s : Tables) (m : NsName) (k : Key) (t : Table) (row : Row) (o : Option Table) → map.get s n ≡ o → map.get s m ≡ Some t → row_of t.rows k ≡ Some row →
    (same_ns m n ≡ true → KeptIn k t row (g t)) → RowKept m k t row (on_found g n o s)
changed_rows n g s m k t row None p e f h = untouched m k t row s e f
changed_rows n g s m k t row (Some u) p e f h = inserted n (g u) s m k t row e f at (cases_Bool (same_ns m n))
  where
    at : same_ns m n ≡ true → KeptIn k t row (g u)
    at a =
        let q : Some u ≡ Some t = sym p ∙ (ap (map.get s) (sym (ns_is m n a)) ∙ e) in
        let same : u ≡ t = cc in
        subst (λ (z : Table). KeptIn k t row (g z)) (sym same) (h a)

put_keeps_row : (i j : Key) (next : ℕ) (d : Fields) (rs : List Row) (row : Row) → row_of rs j ≡ Some row → (same_key j i ≡ true) ⊎ (same_key j i ≡ false) → (k : Row) × (row_of (put_row next i d rs) j ≡ Some k) × (k.no ≡ row.no)
put_keeps_row i j next d rs row e (inl s) =
    let f : j ≡ i = same_id j i s in
    let h = kept_row rs next i d row (subst (λ (z : Key). row_of rs z ≡ Some row) f e) in
    (h.0, subst (λ (z : Key). row_of (put_row next i d rs) z ≡ Some h.0) (sym f) h.1, h.2)
put_keeps_row i j next d rs row e (inr s) = (row, row_put_else rs next i j d s ∙ e, refl)

covered_no : (a b : Bool) → (a && (b && true)) || false ≡ false → a ≡ true → b ≡ false
covered_no a b e h = grind arith

or_no : (a : Bool) → a || false ≡ false → a ≡ false
or_no a e = grind arith

-- the covers of the one move of a write
only : (m : Move) (ms : List Move) (p : Spot) → any_move_covers ms p ≡ false → ms ≡ m ∷ [] → move_covers m p ≡ false
only m ms p u h = or_no (move_covers m p) (subst (λ (z : List Move). any_move_covers z p ≡ false) h u)

pub change_keeps_rows : (w : SingleWrite) (r : Rows) (ms : List Move) → IsRecorded w (state_of r) ms →
    (m : NsName) (j : Key) (t : Table) (row : Row) → any_move_covers ms (Inside m (Document j [])) ≡ false → map.get r.tables m ≡ Some t → row_of t.rows j ≡ Some row → RowKept m j t row (change_rows w r).tables
change_keeps_rows (Put n k d) r ms h m j t row u e f = inserted n (put_table k d (or_fresh_table r.count (map.get r.tables n))) r.tables m j t row e f at (cases_Bool (same_ns m n))
  where
    at : same_ns m n ≡ true → KeptIn j t row (put_table k d (or_fresh_table r.count (map.get r.tables n)))
    at a =
        let here : map.get r.tables n ≡ Some t = ap (map.get r.tables) (sym (ns_is m n a)) ∙ e in
        let x = put_keeps_row k j t.next d t.rows row f (cases_Bool (same_key j k)) in
        subst (λ (o : Option Table). KeptIn j t row (put_table k d (or_fresh_table r.count o))) (sym here) (x.0, x.1, x.2, refl)
change_keeps_rows (Remove n k) r ms h m j t row u e f =
    changed_rows n (drop_table k) r.tables m j t row (map.get r.tables n) refl e f
    (λ s. (row, row_drop_else t.rows k j (covered_no (same_ns m n) (same_key j k) (subst (λ (z : List Move). any_move_covers z (Inside m (Document j [])) ≡ false) h u) s) ∙ f, refl, refl))
change_keeps_rows (Create n o) r ms h m j t row u e f =
    untouched m j t row (map.insert r.tables n (fresh_table r.count o)) (ns_insert_else r.tables n (fresh_table r.count o) m (only (moves.Create n o) ms (Inside m (Document j [])) u h) ∙ e) f
change_keeps_rows (DropColl n) r ms h m j t row u e f =
    untouched m j t row (map.remove r.tables n) (ns_remove_else r.tables n m (only (moves.DropColl n) ms (Inside m (Document j [])) u h) ∙ e) f
change_keeps_rows (DropDb d) r ms h m j t row u e f =
    let g : same_key m.db d ≡ false = only (moves.DropDb d) ms (Inside m (Document j [])) u h in
    untouched m j t row (map.retain_keys r.tables (λ n. not (same_key n.db d))) (map.get-retain_keys r.tables (λ n. not (same_key n.db d)) m (λ x a. ap (λ (z : NsName). not (same_key z.db d)) (sym (ns_anti m x a))) ∙ (rw g e)) f
change_keeps_rows (AddIndex n d) r ms h m j t row u e f =
    changed_rows n (put_index (definition_name d) d) r.tables m j t row (map.get r.tables n) refl e f (λ s. (row, f, refl, refl))
change_keeps_rows (DropIndex n i) r ms h m j t row u e f =
    changed_rows n (take_index i) r.tables m j t row (map.get r.tables n) refl e f (λ s. (row, f, refl, refl))
