-- What a copy that is read while writes go on has and lacks.
use Rattle.std.proofs.Common.{◌≡◌, ◌≢◌, ℕ, ◌<◌, ◌+◌, List, [], ◌∷◌, ◌++◌, Bool, true, false, cond, refl, sym, ap, ◌∙◌, subst, arith, Option, Some, None, inl, inr}
use Rattle.std.specs.Prelude.{◌&&◌, ◌||◌, ◌==◌, if◌then◌else◌, ◌⊎◌, option_map}
use Rattle.std.specs.FinMap as map
use Rattle.std.proofs.lemmas.Bool.{cases_Bool}
use Rattle.bson_value.specs.declared.namespace.NsName.{NsName}
use Rattle.bson_value.specs.declared.value.Value.{Value}
use Rattle.bson_value.specs.NamespaceOrder.{namespace_cmp}
use Rattle.bson_value.specs.Place.{Place, look}
use Rattle.state_model.specs.Keys.{Key, key_cmp, same_key, same_ns}
use Rattle.state_model.specs.States.{State, Collection}
use Rattle.state_model.specs.Spots.{Options, Index, Document, Spot, Namespace, Inside, Mark, here, kind, stands_at, stands}
use Rattle.state_model.specs.Moves.{Move}
use Rattle.state_model.specs.Covers.{any_move_covers}
use Rattle.state_model.specs.Agreement.{StatesAgree}
use Rattle.state_model.specs.Laws.{CoverHereditarily}
use Rattle.state_model.proofs.Keys.{key_total, ns_total, ns_is}
use Rattle.state_model.proofs.Maps.{ns_insert_here, ns_insert_else}
use Rattle.coll_state.specs.Rows.{Table, Rows, Rising, scan, collection_of, state_of}
use Rattle.coll_state.proofs.RowLists.{rising_above}
use Rattle.state_model.proofs.Windows.{any_append}
use Rattle.coll_state.proofs.Links.{get_collection}
use Rattle.copy_model.specs.Cursors.{Cursor, Read, Copy, copied, moved_on, ended_now, step_on, step_open}
use Rattle.copy_model.specs.Copies.{Event, Wrote, Copied, happens, after, moves_of, begun, cursors_of, begin, AllEnded, copy_documents, copy_collection, copy_collections, copy_of}
use Rattle.copy_model.specs.Torn.{Waits}
use Rattle.copy_model.proofs.Cursor.{AllRise, Good, Holds, has_row, after_inv, not_none}

-- the moves before the start, made on x, lead to the rows that the copy begins with
pub record Starts (x : State) (ms : List Move) (r : Rows) : Type 0 where
  pub keeps : (p : Spot) → any_move_covers ms p ≡ false → stands (state_of r) p ≡ stands x p
  pub rising : AllRise r

pub find_cursors : (es : List (NsName × Table)) (n : NsName) → map.find namespace_cmp n (cursors_of es) ≡ option_map begun (map.find namespace_cmp n es)
find_cursors [] n = refl
find_cursors (e ∷ es) n = split (same_ns n e.0) (find_cursors es n)
  where
    split : (b : Bool) → map.find namespace_cmp n (cursors_of es) ≡ option_map begun (map.find namespace_cmp n es) → cond b (Some (begun e.1)) (map.find namespace_cmp n (cursors_of es)) ≡ option_map begun (cond b (Some e.1) (map.find namespace_cmp n es))
    split true h = refl
    split false h = h

pub get_cursor : (r : Rows) (n : NsName) → map.get (begin r).cursors n ≡ option_map begun (map.get r.tables n)
get_cursor r n = map.get-from_entries ns_total (cursors_of (map.entries r.tables)) n ∙ (find_cursors (map.entries r.tables) n ∙ ap (option_map begun) (sym (map.get-entries r.tables n)))

pub some_map : {A B : Type 0} (f : A → B) (o : Option A) (b : B) → option_map f o ≡ Some b → (a : A) × (o ≡ Some a) × (f a ≡ b)
some_map f None b e = cc
some_map f (Some a) b e = let g : f a ≡ b = cc in (a, refl, g)

-- the invariant at the start
pub begin_inv : (x : State) (ms : List Move) (r : Rows) → Starts x ms r → Holds x ms (begin r)
begin_inv x ms r st = record {
  keeps = st.keeps;
  read = λ n i d q c e. cc;
  rising = st.rising;
  pending = λ n i c g h e. inr (waits n i c g (λ f. h (sym (st.keeps (Inside n (Document i [])) e) ∙ f)));
}
  where
    waits : (n : NsName) (i : Key) (c : Cursor) → map.get (begin r).cursors n ≡ Some c → stands (state_of r) (Inside n (Document i [])) ≢ None → Waits n i c r
    waits n i c g h =
        let t = some_map begun (map.get r.tables n) c (sym (get_cursor r n) ∙ g) in
        let w = has_row r n i [] (map.get r.tables n) refl h in
        let same : w.0 ≡ t.0 = (let f : Some w.0 ≡ Some t.0 = sym w.2 ∙ t.1 in cc) in
        let up : Rising 0 w.0.rows = st.rising n w.0 w.2 in
        let no : 0 < w.1.no = rising_above 0 w.0.rows i w.1 up w.3 in
        subst (λ (z : Cursor). Waits n i z r) t.2
        (record { open_yet = refl; table = w.0; row = w.1; there = w.2; incarnation = ap (λ (z : Table). z.incarnation) same; stays = w.3; behind = no })

-- a cursor that was begun is there at each moment
pub step_keeps_cursor : (n : NsName) (k : ℕ) (w : Copy) (m : NsName) (o : Option Cursor) → map.get w.cursors m ≢ None → map.get (step_open n k o w).cursors m ≢ None
step_keeps_cursor n k w m None h = h
step_keeps_cursor n k w m (Some c) h =
    elim (cases_Bool c.ended) [
      | inl s ↦ rw s h
      | inr s ↦ rw s (on_table (map.get w.rows.tables n))
    ]
  where
    put_in : (v : Cursor) → map.get (map.insert w.cursors n v) m ≢ None
    put_in v = elim (cases_Bool (same_ns m n)) [
      | inl s ↦ not_none _ v (subst (λ (z : NsName). map.get (map.insert w.cursors n v) z ≡ Some v) (sym (ns_is m n s)) (ns_insert_here w.cursors n v))
      | inr s ↦ rw (ns_insert_else w.cursors n v m s) h
    ]

    on_table : (o : Option Table) → map.get (step_on n k c o w).cursors m ≢ None
    on_table None = put_in (ended_now c)
    on_table (Some t) =
        elim (cases_Bool (t.incarnation == c.incarnation)) [
          | inl s ↦ rw s (put_in (moved_on k c (scan c.position k t.rows)))
          | inr s ↦ rw s (put_in (ended_now c))
        ]

pub after_keeps_cursor : (es : List Event) (w : Copy) (m : NsName) → map.get w.cursors m ≢ None → map.get (after es w).cursors m ≢ None
after_keeps_cursor [] w m h = h
after_keeps_cursor (Wrote x ms ∷ es) w m h = after_keeps_cursor es (happens (Wrote x ms) w) m h
after_keeps_cursor (Copied n k ∷ es) w m h = after_keeps_cursor es (happens (Copied n k) w) m (step_keeps_cursor n k w m (map.get w.cursors n) h)

-- the copy, by place
pub find_copy_docs : (got : List Read) (n : NsName) (i : Key) → map.find key_cmp i (copy_documents n got) ≡ copied got n i
find_copy_docs [] n i = refl
find_copy_docs (r ∷ rs) n i =
    elim (cases_Bool (same_ns n r.ns)) [
      | inl s ↦ rw s (by (same_key i r.key) (find_copy_docs rs n i))
      | inr s ↦ rw s (find_copy_docs rs n i)
    ]
  where
    by : (b : Bool) → map.find key_cmp i (copy_documents n rs) ≡ copied rs n i → cond b (Some r.document) (map.find key_cmp i (copy_documents n rs)) ≡ (if true && b then Some r.document else copied rs n i)
    by true h = refl
    by false h = h

pub get_copy_doc : (got : List Read) (n : NsName) (t : Table) (i : Key) → map.get (copy_collection got n t).documents i ≡ copied got n i
get_copy_doc got n t i = map.get-from_entries key_total (copy_documents n got) i ∙ find_copy_docs got n i

pub find_copy_colls : (got : List Read) (es : List (NsName × Table)) (n : NsName) → map.find namespace_cmp n (copy_collections got es) ≡ option_map (copy_collection got n) (map.find namespace_cmp n es)
find_copy_colls got [] n = refl
find_copy_colls got (e ∷ es) n = split (same_ns n e.0) refl (find_copy_colls got es n)
  where
    split : (b : Bool) → (same_ns n e.0) ≡ b → map.find namespace_cmp n (copy_collections got es) ≡ option_map (copy_collection got n) (map.find namespace_cmp n es) →
        cond b (Some (copy_collection got e.0 e.1)) (map.find namespace_cmp n (copy_collections got es)) ≡ option_map (copy_collection got n) (cond b (Some e.1) (map.find namespace_cmp n es))
    split true s h = ap (λ z. Some (copy_collection got z e.1)) (sym (ns_is n e.0 s))
    split false s h = h

pub get_copy : (r : Rows) (got : List Read) (n : NsName) → map.get (copy_of r got) n ≡ option_map (copy_collection got n) (map.get r.tables n)
get_copy r got n = map.get-from_entries ns_total (copy_collections got (map.entries r.tables)) n ∙ (find_copy_colls got (map.entries r.tables) n ∙ ap (option_map (copy_collection got n)) (sym (map.get-entries r.tables n)))

-- nothing stands below a document that isn't there
pub root_none : (o : Option Value) (q : Place) → option_map kind (look o []) ≡ None → option_map kind (look o q) ≡ None
unfolding look
root_none None q e = refl
root_none (Some v) q e = cc

pub root_none_at : (c : Option Collection) (i : Key) (q : Place) → stands_at c (Document i []) ≡ None → stands_at c (Document i q) ≡ None
root_none_at None i q e = refl
root_none_at (Some c) i q e = root_none (map.get c.documents i) q e

-- metadata are those of the start
pub meta_space : (r : Rows) (got : List Read) (n : NsName) → stands (copy_of r got) (Namespace n) ≡ stands (state_of r) (Namespace n)
meta_space r got n = rw (get_copy r got n, get_collection r n) (same (map.get r.tables n))
  where
    same : (o : Option Table) → option_map (λ (c : Collection). here) (option_map (copy_collection got n) o) ≡ option_map (λ (c : Collection). here) (option_map collection_of o)
    same None = refl
    same (Some t) = refl

pub meta_options : (r : Rows) (got : List Read) (n : NsName) → stands (copy_of r got) (Inside n Options) ≡ stands (state_of r) (Inside n Options)
meta_options r got n = rw (get_copy r got n, get_collection r n) (same (map.get r.tables n))
  where
    same : (o : Option Table) → stands_at (option_map (copy_collection got n) o) Options ≡ stands_at (option_map collection_of o) Options
    same None = refl
    same (Some t) = refl

pub meta_index : (r : Rows) (got : List Read) (n : NsName) (i : Key) → stands (copy_of r got) (Inside n (Index i)) ≡ stands (state_of r) (Inside n (Index i))
meta_index r got n i = rw (get_copy r got n, get_collection r n) (same (map.get r.tables n))
  where
    same : (o : Option Table) → stands_at (option_map (copy_collection got n) o) (Index i) ≡ stands_at (option_map collection_of o) (Index i)
    same None = refl
    same (Some t) = refl

pub copy_lacks : (r : Rows) (got : List Read) (n : NsName) (i : Key) (q : Place) → map.get r.tables n ≡ None → stands (copy_of r got) (Inside n (Document i q)) ≡ stands (state_of r) (Inside n (Document i q))
copy_lacks r got n i q e = rw (get_copy r got n, get_collection r n, e) refl

pub copy_has : (r : Rows) (got : List Read) (n : NsName) (i : Key) (q : Place) (t : Table) → map.get r.tables n ≡ Some t → stands (copy_of r got) (Inside n (Document i q)) ≡ option_map kind (look (copied got n i) q)
copy_has r got n i q t e = rw (get_copy r got n, e) (rw (get_copy_doc got n t i) refl)

pub none_look : (q : Place) → look None q ≡ None
unfolding look
none_look q = refl

pub true_false : false ≡ true → ⊥
true_false e = cc

-- what was not read was not there, or is covered
pub lacks_agrees : (x : State) (ts : List Move) (w : Copy) (n : NsName) (i : Key) (q : Place) (c : Cursor) → Holds x ts w → AllEnded w → map.get w.cursors n ≡ Some c → copied w.reads n i ≡ None →
    any_move_covers ts (Inside n (Document i [])) ≡ false → (o : Option Mark) → stands x (Inside n (Document i [])) ≡ o → stands x (Inside n (Document i q)) ≡ None
lacks_agrees x ts w n i q c inv ended g e u None f = root_none_at (map.get x n) i q f
lacks_agrees x ts w n i q c inv ended g e u (Some m) f = absurd (none (inv.pending n i c g (not_none _ m f) u))
  where
    none : (copied w.reads n i ≢ None) ⊎ Waits n i c w.rows → ⊥
    none (inl a) = a e
    none (inr b) = true_false (sym b.open_yet ∙ ended n c g)

pub is_there : {A : Type 0} (o : Option A) → o ≢ None → (a : A) × (o ≡ Some a)
is_there None h = absurd (h refl)
is_there (Some a) h = (a, refl)

-- the copy differs from the state before the start only where a write of the window covers
pub copy_agrees : CoverHereditarily → (x : State) (ms : List Move) (r : Rows) (es : List Event) → Starts x ms r → Good es (begin r) → AllEnded (after es (begin r)) →
    StatesAgree (copy_of r (after es (begin r)).reads) x (ms ++ moves_of es)
copy_agrees hereditary x ms r es st good ended = at
  where
    w : Copy
    w = after es (begin r)

    inv : Holds x (ms ++ moves_of es) (after es (begin r))
    inv = after_inv x es ms (begin r) good (begin_inv x ms r st)

    first : (p : Spot) → any_move_covers (ms ++ moves_of es) p ≡ false → any_move_covers ms p ≡ false
    first p e = let f : any_move_covers ms p || any_move_covers (moves_of es) p ≡ false = sym (any_append ms (moves_of es) p) ∙ e in grind arith

    docs : (n : NsName) (i : Key) (q : Place) → any_move_covers (ms ++ moves_of es) (Inside n (Document i q)) ≡ false → (o : Option Table) → map.get r.tables n ≡ o →
        stands (copy_of r (after es (begin r)).reads) (Inside n (Document i q)) ≡ stands x (Inside n (Document i q))
    docs n i q e None f = copy_lacks r (after es (begin r)).reads n i q f ∙ st.keeps (Inside n (Document i q)) (first (Inside n (Document i q)) e)
    docs n i q e (Some t) f = copy_has r (after es (begin r)).reads n i q t f ∙ by_read (copied (after es (begin r)).reads n i) refl
      where
        root : any_move_covers (ms ++ moves_of es) (Inside n (Document i [])) ≡ false
        root = (hereditary (ms ++ moves_of es)).documents n i [] q e

        begun_there : map.get (begin r).cursors n ≡ Some (begun t)
        begun_there = get_cursor r n ∙ ap (option_map begun) f

        cursor : (c : Cursor) × (map.get (after es (begin r)).cursors n ≡ Some c)
        cursor = is_there _ (after_keeps_cursor es (begin r) n (not_none _ (begun t) begun_there))

        by_read : (o : Option Value) → copied (after es (begin r)).reads n i ≡ o → option_map kind (look (copied (after es (begin r)).reads n i) q) ≡ stands x (Inside n (Document i q))
        by_read None g = rw g (ap (option_map kind) (none_look q) ∙ sym (lacks_agrees x (ms ++ moves_of es) (after es (begin r)) n i q cursor.0 inv ended cursor.1 g root (stands x (Inside n (Document i []))) refl))
        by_read (Some d) g = rw g (inv.read n i d q g e)

    at : StatesAgree (copy_of r (after es (begin r)).reads) x (ms ++ moves_of es)
    at (Namespace n) e = meta_space r (after es (begin r)).reads n ∙ st.keeps (Namespace n) (first (Namespace n) e)
    at (Inside n Options) e = meta_options r (after es (begin r)).reads n ∙ st.keeps (Inside n Options) (first (Inside n Options) e)
    at (Inside n (Index i)) e = meta_index r (after es (begin r)).reads n i ∙ st.keeps (Inside n (Index i)) (first (Inside n (Index i)) e)
    at (Inside n (Document i q)) e = docs n i q e (map.get r.tables n) refl
