-- What the copy lacks is covered by a write in the window.
use Rattle.std.proofs.Common.{◌≡◌, ◌≢◌, ℕ, ◌<◌, ◌+◌, List, [], ◌∷◌, ◌++◌, length, true, false, refl, sym, ap, ◌∙◌, subst, arith, Option, Some, None, inl, inr, append_assoc, append-nil}
use Rattle.std.specs.Prelude.{⊤, ◌||◌, ◌==◌, ◌⊎◌, option_map, nat_lt}
use Rattle.std.specs.FinMap as map
use Rattle.std.proofs.lemmas.Bool.{cases_Bool}
use Rattle.std.proofs.lemmas.Grind.{common_steps}
use Rattle.bson_value.specs.declared.namespace.NsName.{NsName}
use Rattle.bson_value.specs.declared.value.Value.{Value, Object}
use Rattle.bson_value.specs.Place.{Place, look}
use Rattle.state_model.specs.Keys.{Key, same_key, same_ns}
use Rattle.state_model.specs.States.{State}
use Rattle.state_model.specs.Spots.{Document, Spot, Inside, kind, stands}
use Rattle.state_model.specs.Moves.{Move}
use Rattle.state_model.specs.Covers.{any_move_covers}
use Rattle.state_model.proofs.Keys.{ns_is, ns_refl}
use Rattle.state_model.proofs.Maps.{ns_insert_here, ns_insert_else}
use Rattle.coll_state.specs.Rows.{Row, Table, Rows, row_of, Rising, last_no, scan, state_of}
use Rattle.coll_state.proofs.RowLists.{row_here, row_later}
use Rattle.state_model.proofs.Windows.{any_append}
use Rattle.coll_state.proofs.Links.{get_collection, get_document}
use Rattle.copy_model.specs.Writes.{change_rows}
use Rattle.copy_model.specs.Cursors.{Cursor, Read, Copy, reads_of, copied, moved_on, ended_now, close, read_rows, step_on, step_open, copy_step}
use Rattle.copy_model.specs.Copies.{Event, Wrote, Copied, happens, after, moves_of}
use Rattle.copy_model.specs.Torn.{Waits, IsCovered}
use Rattle.copy_model.proofs.Scan.{scan_from, scan_reaches, scan_ends}
use Rattle.copy_model.proofs.RowWrites.{RowKept}
use Rattle.coll_state.proofs.Sound.{some_table as same_table}

-- what the copy's part needs of a write: it keeps what it doesn't cover, documents with their numbers and incarnations too, and rows stay in order
abbrev pub AllRise : Rows → Type 0
AllRise r = (n : NsName) (t : Table) → map.get r.tables n ≡ Some t → Rising 0 t.rows

pub record GoodWrite (ms : List Move) (r s : Rows) : Type 0 where
  pub keeps : (p : Spot) → any_move_covers ms p ≡ false → stands (state_of s) p ≡ stands (state_of r) p
  pub rows : (n : NsName) (i : Key) (t : Table) (row : Row) → any_move_covers ms (Inside n (Document i [])) ≡ false → map.get r.tables n ≡ Some t → row_of t.rows i ≡ Some row → RowKept n i t row s.tables
  pub rising : AllRise s

abbrev pub Good : List Event → Copy → Type 0
Good [] w = ⊤
Good (Wrote x ms ∷ es) w = GoodWrite ms w.rows (change_rows x w.rows) × Good es (happens (Wrote x ms) w)
Good (Copied n k ∷ es) w = Good es (happens (Copied n k) w)

pub stands_row : (r : Rows) (n : NsName) (i : Key) (q : Place) (t : Table) → map.get r.tables n ≡ Some t → stands (state_of r) (Inside n (Document i q)) ≡ option_map kind (look (option_map (λ (r : Row). Object r.document) (row_of t.rows i)) q)
stands_row r n i q t e = rw (get_collection r n, e) (rw (get_document t i) refl)

-- a document that stands has a row
abbrev pub HasRow : Rows → NsName → Key → Type 0
HasRow r n i = (t : Table) × (row : Row) × (map.get r.tables n ≡ Some t) × (row_of t.rows i ≡ Some row)

pub no_look : (o : Option Value) (q : Place) → o ≡ None → look o q ≡ None
unfolding look
no_look o q e = rw e refl

pub has_row : (r : Rows) (n : NsName) (i : Key) (q : Place) (o : Option Table) → map.get r.tables n ≡ o → stands (state_of r) (Inside n (Document i q)) ≢ None → HasRow r n i
has_row r n i q None e h = absurd (h (rw (get_collection r n, e) refl))
has_row r n i q (Some t) e h = in_table (row_of t.rows i) refl
  where
    in_table : (u : Option Row) → row_of t.rows i ≡ u → HasRow r n i
    in_table None f = absurd (h (stands_row r n i q t e ∙ (rw f (ap (option_map kind) (no_look None q refl)))))
    in_table (Some row) f = (t, row, e, f)

-- what was read
read_here : (n : NsName) (r : Row) (rest : List Read) (i : Key) → same_key i r.key ≡ true → copied (record { ns = n; key = r.key; document = Object r.document } ∷ rest) n i ≡ Some (Object r.document)
read_here n r rest i s = rw (ns_refl n, s) refl

read_later : (n : NsName) (r : Row) (rest : List Read) (i : Key) → same_key i r.key ≡ false → copied (record { ns = n; key = r.key; document = Object r.document } ∷ rest) n i ≡ copied rest n i
read_later n r rest i s = rw (ns_refl n, s) refl

read_apart : (n : NsName) (r : Row) (rest : List Read) (m : NsName) (i : Key) → same_ns m n ≡ false → copied (record { ns = n; key = r.key; document = Object r.document } ∷ rest) m i ≡ copied rest m i
read_apart n r rest m i s = rw s refl

doc_in : (a b : Row) → Some a ≡ Some b → Object a.document ≡ Object b.document
doc_in a b e = let f : a ≡ b = cc in ap (λ (z : Row). Object z.document) f

no_row : {A : Type 0} (r : Row) → Some r ≡ None → A
no_row r e = cc

pub copied_hit : (n : NsName) (out : List Row) (got : List Read) (i : Key) (row : Row) → row_of out i ≡ Some row → copied (reads_of n out ++ got) n i ≡ Some (Object row.document)
copied_hit n [] got i row e = cc
copied_hit n (r ∷ rs) got i row e =
    elim (cases_Bool (same_key i r.key)) [
      | inl s ↦ read_here n r (reads_of n rs ++ got) i s ∙ ap Some (doc_in r row (sym (row_here r rs i s) ∙ e))
      | inr s ↦ read_later n r (reads_of n rs ++ got) i s ∙ copied_hit n rs got i row (sym (row_later r rs i s) ∙ e)
    ]

pub copied_miss : (n : NsName) (out : List Row) (got : List Read) (i : Key) → row_of out i ≡ None → copied (reads_of n out ++ got) n i ≡ copied got n i
copied_miss n [] got i e = refl
copied_miss n (r ∷ rs) got i e =
    elim (cases_Bool (same_key i r.key)) [
      | inl s ↦ no_row r (sym (row_here r rs i s) ∙ e)
      | inr s ↦ read_later n r (reads_of n rs ++ got) i s ∙ copied_miss n rs got i (sym (row_later r rs i s) ∙ e)
    ]

pub copied_else : (n : NsName) (out : List Row) (got : List Read) (m : NsName) (i : Key) → (same_ns m n) ≡ false → copied (reads_of n out ++ got) m i ≡ copied got m i
copied_else n [] got m i e = refl
copied_else n (r ∷ rs) got m i e = read_apart n r (reads_of n rs ++ got) m i e ∙ copied_else n rs got m i e

-- what holds at each moment of a copy, over the moves so far
pub record Holds (x : State) (ms : List Move) (w : Copy) : Type 0 where
  pub keeps : (p : Spot) → any_move_covers ms p ≡ false → stands (state_of w.rows) p ≡ stands x p
  pub read : (n : NsName) (i : Key) (d : Value) (q : Place) → copied w.reads n i ≡ Some d → any_move_covers ms (Inside n (Document i q)) ≡ false → option_map kind (look (Some d) q) ≡ stands x (Inside n (Document i q))
  pub pending : (n : NsName) (i : Key) (c : Cursor) → map.get w.cursors n ≡ Some c → stands x (Inside n (Document i [])) ≢ None → any_move_covers ms (Inside n (Document i [])) ≡ false → (copied w.reads n i ≢ None) ⊎ Waits n i c w.rows
  pub rising : AllRise w.rows

pub both_false : (ms ns : List Move) (p : Spot) → any_move_covers (ms ++ ns) p ≡ false → (any_move_covers ms p ≡ false) × (any_move_covers ns p ≡ false)
both_false ms ns p e =
    let f : any_move_covers ms p || any_move_covers ns p ≡ false = sym (any_append ms ns p) ∙ e in
    (grind arith, grind arith)

pub waits_after : (ms : List Move) (n : NsName) (i : Key) (c : Cursor) (r s : Rows) → GoodWrite ms r s → any_move_covers ms (Inside n (Document i [])) ≡ false → Waits n i c r → Waits n i c s
waits_after ms n i c r s good e w =
    let k = good.rows n i w.table w.row e w.there w.stays in
    record {
      open_yet = w.open_yet;
      table = k.table;
      row = k.kept;
      there = k.there;
      incarnation = k.incarnation ∙ w.incarnation;
      stays = k.stays;
      behind = subst (λ (z : ℕ). c.position < z) (sym k.no) w.behind;
    }

pub or_map : {A B C : Type 0} → (B → C) → A ⊎ B → A ⊎ C
or_map f (inl a) = inl a
or_map f (inr b) = inr (f b)

pub wrote : (x : State) (ms ns : List Move) (r : Rows) (w : Copy) → GoodWrite ns w.rows r → Holds x ms w → Holds x (ms ++ ns) (record w { rows = r })
wrote x ms ns r w good inv = record {
  keeps = λ p e. let b = both_false ms ns p e in good.keeps p b.1 ∙ inv.keeps p b.0;
  read = λ n i d q c e. inv.read n i d q c (both_false ms ns (Inside n (Document i q)) e).0;
  pending = λ n i c g h e. let b = both_false ms ns (Inside n (Document i [])) e in or_map (waits_after ns n i c w.rows r good b.1) (inv.pending n i c g h b.0);
  rising = good.rising;
}

-- closing a cursor, where nothing waits for it
pub closed_inv : (x : State) (ms : List Move) (n : NsName) (c : Cursor) (w : Copy) → Holds x ms w →
    ((i : Key) → stands x (Inside n (Document i [])) ≢ None → any_move_covers ms (Inside n (Document i [])) ≡ false → copied w.reads n i ≢ None) →
    Holds x ms (close n c w)
closed_inv x ms n c w inv all = record {
  keeps = inv.keeps;
  read = inv.read;
  rising = inv.rising;
  pending = λ m i k g h e. at m i k g h e (cases_Bool (same_ns m n));
}
  where
    at : (m : NsName) (i : Key) (k : Cursor) → map.get (map.insert w.cursors n (ended_now c)) m ≡ Some k → stands x (Inside m (Document i [])) ≢ None → any_move_covers ms (Inside m (Document i [])) ≡ false →
        ((same_ns m n) ≡ true) ⊎ ((same_ns m n) ≡ false) → (copied w.reads m i ≢ None) ⊎ Waits m i k w.rows
    at m i k g h e (inl s) =
        inl (subst (λ (z : NsName). stands x (Inside z (Document i [])) ≢ None → any_move_covers ms (Inside z (Document i [])) ≡ false → copied w.reads z i ≢ None) (sym (ns_is m n s)) (all i) h e)
    at m i k g h e (inr s) = inv.pending m i k (sym (ns_insert_else w.cursors n (ended_now c) m s) ∙ g) h e

-- a step that reads
pub taken_read : (x : State) (ms : List Move) (n : NsName) (k : ℕ) (c : Cursor) (t : Table) (w : Copy) → Holds x ms w → map.get w.rows.tables n ≡ Some t →
    (i : Key) (d : Value) (q : Place) (u : Option Row) → row_of (scan c.position k t.rows) i ≡ u → copied (reads_of n (scan c.position k t.rows) ++ w.reads) n i ≡ Some d →
    any_move_covers ms (Inside n (Document i q)) ≡ false → option_map kind (look (Some d) q) ≡ stands x (Inside n (Document i q))
taken_read x ms n k c t w inv e i d q None f g h = inv.read n i d q (sym (copied_miss n (scan c.position k t.rows) w.reads i f) ∙ g) h
taken_read x ms n k c t w inv e i d q (Some row) f g h =
    let hit : Some (Object row.document) ≡ Some d = sym (copied_hit n (scan c.position k t.rows) w.reads i row f) ∙ g in
    let there : row_of t.rows i ≡ Some row = scan_from c.position k 0 t.rows i row (inv.rising n t e) f in
    let now : stands (state_of w.rows) (Inside n (Document i q)) ≡ option_map kind (look (Some (Object row.document)) q) = stands_row w.rows n i q t e ∙ rw there refl in
    subst (λ (o : Option Value). option_map kind (look o q) ≡ stands x (Inside n (Document i q))) hit (sym now ∙ inv.keeps (Inside n (Document i q)) h)

pub not_none : {A : Type 0} (o : Option A) (a : A) → o ≡ Some a → o ≢ None
not_none o a e = λ f. cc

pub still_copied : (n : NsName) (out : List Row) (got : List Read) (i : Key) (u : Option Row) → row_of out i ≡ u → copied got n i ≢ None → copied (reads_of n out ++ got) n i ≢ None
still_copied n out got i None e h = rw (copied_miss n out got i e) h
still_copied n out got i (Some row) e h = not_none _ (Object row.document) (copied_hit n out got i row e)

pub taken_pending : (n : NsName) (k : ℕ) (c : Cursor) (t : Table) (w : Copy) → map.get w.rows.tables n ≡ Some t → Rising 0 t.rows →
    (i : Key) → (copied w.reads n i ≢ None) ⊎ Waits n i c w.rows →
    (copied (reads_of n (scan c.position k t.rows) ++ w.reads) n i ≢ None) ⊎ Waits n i (moved_on k c (scan c.position k t.rows)) w.rows
taken_pending n k c t w e up i (inl a) = inl (still_copied n (scan c.position k t.rows) w.reads i (row_of (scan c.position k t.rows) i) refl a)
taken_pending n k c t w e up i (inr v) = on_end (cases_Bool (nat_lt (length (scan c.position k t.rows)) k))
  where
    here_now : row_of t.rows i ≡ Some v.row
    here_now = subst (λ (z : Table). row_of z.rows i ≡ Some v.row) (same_table v.table t (sym v.there ∙ e)) v.stays

    on_reach : nat_lt (length (scan c.position k t.rows)) k ≡ false → (row_of (scan c.position k t.rows) i ≡ Some v.row) ⊎ (last_no c.position (scan c.position k t.rows) < v.row.no) →
        (copied (reads_of n (scan c.position k t.rows) ++ w.reads) n i ≢ None) ⊎ Waits n i (moved_on k c (scan c.position k t.rows)) w.rows
    on_reach f (inl a) = inl (not_none _ (Object v.row.document) (copied_hit n (scan c.position k t.rows) w.reads i v.row a))
    on_reach f (inr b) = inr (record { open_yet = f; table = v.table; row = v.row; there = v.there; incarnation = v.incarnation; stays = v.stays; behind = b })

    on_end : (nat_lt (length (scan c.position k t.rows)) k ≡ true) ⊎ (nat_lt (length (scan c.position k t.rows)) k ≡ false) →
        (copied (reads_of n (scan c.position k t.rows) ++ w.reads) n i ≢ None) ⊎ Waits n i (moved_on k c (scan c.position k t.rows)) w.rows
    on_end (inl f) =
        let l : length (scan c.position k t.rows) < k = grind (arith, common_steps) in
        inl (not_none _ (Object v.row.document) (copied_hit n (scan c.position k t.rows) w.reads i v.row (scan_ends c.position k 0 t.rows i v.row up v.behind l here_now)))
    on_end (inr f) = on_reach f (scan_reaches c.position c.position k 0 t.rows i v.row up v.behind v.behind here_now)

pub taken_inv : (x : State) (ms : List Move) (n : NsName) (k : ℕ) (c : Cursor) (t : Table) (w : Copy) → Holds x ms w → map.get w.cursors n ≡ Some c → map.get w.rows.tables n ≡ Some t →
    Holds x ms (read_rows n k c (scan c.position k t.rows) w)
taken_inv x ms n k c t w inv gc gt = record {
  keeps = inv.keeps;
  rising = inv.rising;
  read = λ m i d q g e. at_read m i d q g e (cases_Bool (same_ns m n));
  pending = λ m i k' g h e. at_pending m i k' g h e (cases_Bool (same_ns m n));
}
  where
    out : List Row
    out = scan c.position k t.rows

    at_read : (m : NsName) (i : Key) (d : Value) (q : Place) → copied (reads_of n (scan c.position k t.rows) ++ w.reads) m i ≡ Some d → any_move_covers ms (Inside m (Document i q)) ≡ false →
        ((same_ns m n) ≡ true) ⊎ ((same_ns m n) ≡ false) → option_map kind (look (Some d) q) ≡ stands x (Inside m (Document i q))
    at_read m i d q g e (inl s) =
        subst (λ (z : NsName). copied (reads_of n (scan c.position k t.rows) ++ w.reads) z i ≡ Some d → any_move_covers ms (Inside z (Document i q)) ≡ false → option_map kind (look (Some d) q) ≡ stands x (Inside z (Document i q))) (sym (ns_is m n s))
        (taken_read x ms n k c t w inv gt i d q (row_of (scan c.position k t.rows) i) refl) g e
    at_read m i d q g e (inr s) = inv.read m i d q (sym (copied_else n (scan c.position k t.rows) w.reads m i s) ∙ g) e

    next : Cursor
    next = moved_on k c (scan c.position k t.rows)

    at_here : (i : Key) (k' : Cursor) → Some (moved_on k c (scan c.position k t.rows)) ≡ Some k' →
        stands x (Inside n (Document i [])) ≢ None → any_move_covers ms (Inside n (Document i [])) ≡ false → (copied (reads_of n (scan c.position k t.rows) ++ w.reads) n i ≢ None) ⊎ Waits n i k' w.rows
    at_here i k' g h e =
        subst (λ (z : Cursor). (copied (reads_of n (scan c.position k t.rows) ++ w.reads) n i ≢ None) ⊎ Waits n i z w.rows) (some_cursor _ k' g)
        (taken_pending n k c t w gt (inv.rising n t gt) i (inv.pending n i c gc h e))
      where
        some_cursor : (a b : Cursor) → Some a ≡ Some b → a ≡ b
        some_cursor a b f = cc

    at_pending : (m : NsName) (i : Key) (k' : Cursor) → map.get (map.insert w.cursors n (moved_on k c (scan c.position k t.rows))) m ≡ Some k' →
        stands x (Inside m (Document i [])) ≢ None → any_move_covers ms (Inside m (Document i [])) ≡ false → ((same_ns m n) ≡ true) ⊎ ((same_ns m n) ≡ false) →
        (copied (reads_of n (scan c.position k t.rows) ++ w.reads) m i ≢ None) ⊎ Waits m i k' w.rows
    at_pending m i k' g h e (inl s) =
        subst (λ (z : NsName). map.get (map.insert w.cursors n (moved_on k c (scan c.position k t.rows))) z ≡ Some k' →
        stands x (Inside z (Document i [])) ≢ None → any_move_covers ms (Inside z (Document i [])) ≡ false → (copied (reads_of n (scan c.position k t.rows) ++ w.reads) z i ≢ None) ⊎ Waits z i k' w.rows) (sym (ns_is m n s))
        (λ a. at_here i k' (sym (ns_insert_here w.cursors n (moved_on k c (scan c.position k t.rows))) ∙ a)) g h e
    at_pending m i k' g h e (inr s) =
        let f : (same_ns m n) ≡ false = s in
        rw (copied_else n (scan c.position k t.rows) w.reads m i f)
        (inv.pending m i k' (sym (ns_insert_else w.cursors n (moved_on k c (scan c.position k t.rows)) m s) ∙ g) h e)

pub no_wait : {A : Type 0} → A ⊎ ⊥ → A
no_wait (inl a) = a
no_wait (inr b) = absurd b

pub wait_gone : (n : NsName) (i : Key) (c : Cursor) (r : Rows) → map.get r.tables n ≡ None → Waits n i c r → ⊥
wait_gone n i c r e v = let f : map.get r.tables n ≡ Some v.table = v.there in cc

same_no : (a b : ℕ) → a ≡ b → (a == b) ≡ true
same_no a b e = grind (arith, common_steps)

pub wait_other : (n : NsName) (i : Key) (c : Cursor) (t : Table) (r : Rows) → map.get r.tables n ≡ Some t → (t.incarnation == c.incarnation) ≡ false → Waits n i c r → ⊥
wait_other n i c t r e f v =
    let g : t.incarnation ≡ c.incarnation = subst (λ (z : Table). z.incarnation ≡ c.incarnation) (same_table v.table t (sym v.there ∙ e)) v.incarnation in
    absurd (false_true (sym f ∙ same_no t.incarnation c.incarnation g))
  where
    false_true : false ≡ true → ⊥
    false_true h = cc

pub step_on_inv : (x : State) (ms : List Move) (n : NsName) (k : ℕ) (c : Cursor) (w : Copy) (o : Option Table) → Holds x ms w → map.get w.cursors n ≡ Some c → map.get w.rows.tables n ≡ o → Holds x ms (step_on n k c o w)
step_on_inv x ms n k c w None inv gc gt =
    closed_inv x ms n c w inv (λ i h e. no_wait (or_map (wait_gone n i c w.rows gt) (inv.pending n i c gc h e)))
step_on_inv x ms n k c w (Some t) inv gc gt =
    elim (cases_Bool (t.incarnation == c.incarnation)) [
      | inl s ↦ rw s (taken_inv x ms n k c t w inv gc gt)
      | inr s ↦ rw s (closed_inv x ms n c w inv (λ i h e. no_wait (or_map (wait_other n i c t w.rows gt s) (inv.pending n i c gc h e))))
    ]

pub step_open_inv : (x : State) (ms : List Move) (n : NsName) (k : ℕ) (w : Copy) (o : Option Cursor) → Holds x ms w → map.get w.cursors n ≡ o → Holds x ms (step_open n k o w)
step_open_inv x ms n k w None inv g = inv
step_open_inv x ms n k w (Some c) inv g =
    elim (cases_Bool c.ended) [
      | inl s ↦ rw s inv
      | inr s ↦ rw s (step_on_inv x ms n k c w (map.get w.rows.tables n) inv g refl)
    ]

pub copy_inv : (x : State) (ms : List Move) (n : NsName) (k : ℕ) (w : Copy) → Holds x ms w → Holds x ms (copy_step n k w)
copy_inv x ms n k w inv = step_open_inv x ms n k w (map.get w.cursors n) inv refl

-- over every list of steps
pub after_inv : (x : State) (es : List Event) (ms : List Move) (w : Copy) → Good es w → Holds x ms w → Holds x (ms ++ moves_of es) (after es w)
after_inv x [] ms w good inv = rw (append-nil ms) inv
after_inv x (Wrote u ns ∷ es) ms w good inv =
    rw (← append_assoc ms ns (moves_of es)) (after_inv x es (ms ++ ns) (happens (Wrote u ns) w) good.1 (wrote x ms ns (change_rows u w.rows) w good.0 inv))
after_inv x (Copied n k ∷ es) ms w good inv = after_inv x es ms (happens (Copied n k) w) good (copy_inv x ms n k w inv)

pub is_covered : (x : State) (ms : List Move) (w : Copy) → Holds x ms w → IsCovered x ms w
is_covered x ms w h = record { rows = h.keeps; reads = h.read; waiting = h.pending }
