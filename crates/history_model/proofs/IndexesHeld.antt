-- Indexes hold after each command that isn't refused.
use Rattle.std.proofs.Common.{◌≡◌, ℕ, List, [], ◌∷◌, ◌++◌, Bool, true, false, cond, not, refl, sym, ap, ◌∙◌, subst, Option, Some, None, Result, Ok, Err}
use Rattle.std.specs.Prelude.{◌&&◌, ◌||◌, is_some, map as each, if◌then◌else◌}
use Rattle.std.specs.List.{list_any}
use Rattle.std.specs.Ordering.{eq_by_cmp}
use Rattle.std.specs.FinMap as map
use Rattle.bson_value.specs.declared.namespace.NsName.{NsName}
use Rattle.bson_value.specs.declared.value.Value.{Value, Object}
use Rattle.bson_value.specs.NamespaceOrder.{namespace_cmp}
use Rattle.bson_encode.specs.Key.{key_of}
use Rattle.json_tree.specs.declared.tree.Tree.{Tree}
use Rattle.doc_path.specs.declared.parts.Form.{Form}
use Rattle.state_model.specs.Keys.{Key, key_cmp, same_key, same_ns}
use Rattle.state_model.proofs.Keys.{ns_anti}
use Rattle.state_model.proofs.Maps.{ns_insert_here, ns_at_insert, ns_at_remove, key_at_insert, key_at_remove}
use Rattle.coll_state.specs.Rows.{Document as Fields, Row, Table, Rows, row_of, id_of}
use Rattle.coll_state.specs.Changes.{Tables, put_row, drop_row, put_table, drop_table, fresh_table, or_fresh, with_incarnation, put_index, take_index, on_found, on_there, renamed_in, no_rows, create}
use Rattle.coll_state.specs.Definitions.{definition_name}
use Rattle.index_keys.specs.declared.plan.Plan.{Plan}
use Rattle.index_keys.specs.Definition.{plan_of}
use Rattle.index_keys.specs.Keys.{parallel}
use Rattle.index_keys.specs.Texts.{key_texts}
use Rattle.update_model.specs.declared.updated.Updated.{Updated}
use Rattle.update_model.specs.Equality.{same}
use Rattle.schedule_model.specs.declared.command.DocumentCommand.{DocumentCommand}
use Rattle.schedule_model.specs.declared.command.DocumentCommand.TheVariants.{Insert, Replace, Update, Delete}
use Rattle.schedule_model.specs.declared.command.Command.{Command}
use Rattle.schedule_model.specs.declared.command.Command.TheVariants.{At, Recording, Create, DropColl, DropDatabase, Rename, Document, CreateIndex, DropIndex, Txn}
use Rattle.schedule_model.specs.declared.refused.Refused.{Refused}
use Rattle.copy_model.specs.Writes.{change_rows}
use Rattle.copy_model.specs.Writes as writes
use Rattle.history_model.specs.Documents.{id_first, options_of, normal_of, is_good_document, is_good_definition}
use Rattle.history_model.specs.Entries.{Item, update_item}
use Rattle.history_model.specs.Entries as entries
use Rattle.history_model.specs.Stages.{Stage, Effect, Made, rows_by, rows_all, stage_by, stage_after, made_in}
use Rattle.history_model.specs.Refusals.{is_there, row_in, row_at, update_of, with_document, with_update, with_good, rows_with, texts_in, meet, clashes, unique_clash, any_parallel, any_definition, plan_in, definitions_in, rows_in, first_of, document_rows, document_refusal, index_rows}
use Rattle.history_model.specs.Commands.{RecordedWrite, put_change, unless_same, update_changes, replace_changes, insert_changes, under_id, document_changes, rows_of_changes, and_then, changes_together, group_of, is_too_large, grouped, one_each, unless_refused, index_effects, command_rows, command_effects, effects, set_by, answered, applied}
use Rattle.history_model.specs.Indexes.{IndexesOf, IndexesHold}
use Rattle.history_model.proofs.Accepted.{all_false, same_ok, refused_none as unless_told}
use Rattle.history_model.proofs.Inductive.{told_same}
use Rattle.coll_state.proofs.Sound.{some_table as same_table}
use Rattle.history_model.proofs.WellFormed.{small_enough as or_large}

-- ---- tests of rows

or_both : (a b : Bool) → (a || b) ≡ false → (a ≡ false) × (b ≡ false)
or_both true b h = cc
or_both false b h = (refl, h)

or_from : (a b : Bool) → a ≡ false → b ≡ false → (a || b) ≡ false
or_from a b e f = ap (λ (x : Bool). x || b) e ∙ f

documents : List Row → List Fields
documents rs = each (λ (r : Row). r.document) rs

texts : Plan → Fields → List (List ℕ)
texts plan d = elim (is_some (parallel plan d)) as (λ b. List (List ℕ)) [ true ↦ [] | false ↦ key_texts plan d ]

any_documents : (f : Fields → Bool) (rs : List Row) → list_any (λ (r : Row). f r.document) rs ≡ list_any f (documents rs)
unfolding documents
any_documents f [] = refl
any_documents f (r ∷ rs) = ap (λ (b : Bool). f r.document || b) (any_documents f rs)

document_clashes : Plan → List Fields → Bool
document_clashes plan [] = false
document_clashes plan (d ∷ ds) = list_any (λ (e : Fields). meet (texts plan d) (texts plan e)) ds || document_clashes plan ds

clashes_documents : (plan : Plan) (rs : List Row) → clashes plan rs ≡ document_clashes plan (documents rs)
unfolding documents document_clashes texts
clashes_documents plan [] = refl
clashes_documents plan (r ∷ rs) =
    ap (λ (b : Bool). b || clashes plan rs) (any_documents (λ (e : Fields). meet (texts plan r.document) (texts plan e)) rs)
    ∙ ap (λ (b : Bool). list_any (λ (e : Fields). meet (texts plan r.document) (texts plan e)) (documents rs) || b) (clashes_documents plan rs)

put_documents : (a b : ℕ) (k : Key) (d : Fields) (rs : List Row) → documents (put_row a k d rs) ≡ documents (put_row b k d rs)
unfolding documents
put_documents a b k d [] = refl
put_documents a b k d (r ∷ rs) = by (same_key k r.key) (put_documents a b k d rs)
  where
    by : (x : Bool) → documents (put_row a k d rs) ≡ documents (put_row b k d rs) →
        documents (if x then record { no = r.no; key = r.key; document = d } ∷ rs else r ∷ put_row a k d rs) ≡ documents (if x then record { no = r.no; key = r.key; document = d } ∷ rs else r ∷ put_row b k d rs)
    by true h = refl
    by false h = ap (λ (z : List Fields). r.document ∷ z) h

-- a test that goes by the documents alone, and holds of fewer
unique_same : (o : Option Plan) (rs ss : List Row) → documents rs ≡ documents ss → unique_clash rs o ≡ unique_clash ss o
unique_same None rs ss e = refl
unique_same (Some plan) rs ss e = ap (λ (b : Bool). plan.unique && b) (clashes_documents plan rs ∙ (ap (document_clashes plan) e ∙ sym (clashes_documents plan ss)))

parallel_same : (o : Option Plan) (rs ss : List Row) → documents rs ≡ documents ss → any_parallel rs o ≡ any_parallel ss o
parallel_same None rs ss e = refl
parallel_same (Some plan) rs ss e =
    any_documents (λ (d : Fields). is_some (parallel plan d)) rs ∙ (ap (list_any (λ (d : Fields). is_some (parallel plan d))) e ∙ sym (any_documents (λ (d : Fields). is_some (parallel plan d)) ss))

any_drop : (f : Row → Bool) (k : Key) (rs : List Row) → list_any f rs ≡ false → list_any f (drop_row k rs) ≡ false
any_drop f k [] h = refl
any_drop f k (r ∷ rs) h = by (same_key k r.key) (or_both (f r) (list_any f rs) h) (λ g. any_drop f k rs g)
  where
    by : (x : Bool) → (f r ≡ false) × (list_any f rs ≡ false) → (list_any f rs ≡ false → list_any f (drop_row k rs) ≡ false) → list_any f (if x then rs else r ∷ drop_row k rs) ≡ false
    by true g rest = g.1
    by false g rest = or_from (f r) (list_any f (drop_row k rs)) g.0 (rest g.1)

clashes_drop : (plan : Plan) (k : Key) (rs : List Row) → clashes plan rs ≡ false → clashes plan (drop_row k rs) ≡ false
clashes_drop plan k [] h = refl
clashes_drop plan k (r ∷ rs) h = by (same_key k r.key) (or_both (list_any (λ s. meet (texts_in plan r) (texts_in plan s)) rs) (clashes plan rs) h) (λ g. clashes_drop plan k rs g)
  where
    by : (x : Bool) → (list_any (λ s. meet (texts_in plan r) (texts_in plan s)) rs ≡ false) × (clashes plan rs ≡ false) → (clashes plan rs ≡ false → clashes plan (drop_row k rs) ≡ false) → clashes plan (if x then rs else r ∷ drop_row k rs) ≡ false
    by true g rest = g.1
    by false g rest = or_from (list_any (λ s. meet (texts_in plan r) (texts_in plan s)) (drop_row k rs)) (clashes plan (drop_row k rs)) (any_drop (λ s. meet (texts_in plan r) (texts_in plan s)) k rs g.0) (rest g.1)

and_false : (a b c : Bool) → (a && b) ≡ false → (b ≡ false → c ≡ false) → (a && c) ≡ false
and_false true b c h f = f h
and_false false b c h f = refl

unique_drop : (o : Option Plan) (k : Key) (rs : List Row) → unique_clash rs o ≡ false → unique_clash (drop_row k rs) o ≡ false
unique_drop None k rs h = refl
unique_drop (Some plan) k rs h = and_false plan.unique (clashes plan rs) (clashes plan (drop_row k rs)) h (clashes_drop plan k rs)

parallel_drop : (o : Option Plan) (k : Key) (rs : List Row) → any_parallel rs o ≡ false → any_parallel (drop_row k rs) o ≡ false
parallel_drop None k rs h = refl
parallel_drop (Some plan) k rs h = any_drop (λ (r : Row). is_some (parallel plan r.document)) k rs h

-- what holds of all definitions of a collection
in_entries : (g : Tree → Bool) (es : List (Key × Tree)) (i : Key) (d : Tree) → list_any (λ (e : Key × Tree). g e.1) es ≡ false → map.find key_cmp i es ≡ Some d → g d ≡ false
in_entries g [] i d h e = cc
in_entries g (x ∷ es) i d h e = by (eq_by_cmp key_cmp i x.0) (or_both (g x.1) (list_any (λ (e : Key × Tree). g e.1) es) h) e (λ a b. in_entries g es i d a b)
  where
    by : (b : Bool) → (g x.1 ≡ false) × (list_any (λ (e : Key × Tree). g e.1) es ≡ false) → cond b (Some x.1) (map.find key_cmp i es) ≡ Some d → (list_any (λ (e : Key × Tree). g e.1) es ≡ false → map.find key_cmp i es ≡ Some d → g d ≡ false) → g d ≡ false
    by true a f rest = (let k : x.1 ≡ d = cc in subst (λ (z : Tree). g z ≡ false) k a.0)
    by false a f rest = rest a.1 f

definition_false : (test : List Row → Option Plan → Bool) (rs : List Row) (m : map.FinMap key_cmp Tree) (i : Key) (d : Tree) → any_definition test (Some rs) (map.entries m) ≡ false → map.get m i ≡ Some d → test rs (plan_of d) ≡ false
definition_false test rs m i d h e = in_entries (λ (t : Tree). test rs (plan_of t)) (map.entries m) i d h (sym (map.get-entries m i) ∙ e)

-- ---- collections

pub no_table : {A : Type 0} (t : Table) → None ≡ Some t → A
no_table t e = cc

pub no_tree : {A : Type 0} (d : Tree) → None ≡ Some d → A
no_tree d e = cc

pub same_tree : (a b : Tree) → Some a ≡ Some b → a ≡ b
same_tree a b e = cc

abbrev Holding : Tables → Type 0
Holding s = (n : NsName) (t : Table) → map.get s n ≡ Some t → IndexesOf t

hold_insert : (s : Tables) (k : NsName) (u : Table) → Holding s → IndexesOf u → Holding (map.insert s k u)
hold_insert s k u h w n t e = by (same_ns n k) (sym (ns_at_insert s k u n) ∙ e)
  where
    by : (b : Bool) → cond b (Some u) (map.get s n) ≡ Some t → IndexesOf t
    by true f = subst IndexesOf (same_table u t f) w
    by false f = h n t f

hold_remove : (s : Tables) (k : NsName) → Holding s → Holding (map.remove s k)
hold_remove s k h n t e = by (same_ns n k) (sym (ns_at_remove s k n) ∙ e)
  where
    by : (b : Bool) → cond b None (map.get s n) ≡ Some t → IndexesOf t
    by true f = no_table t f
    by false f = h n t f

hold_retain : (s : Tables) (p : NsName → Bool) → Holding s → Holding (map.retain_keys s p)
hold_retain s p h n t e = by (p n) (sym (map.get-retain_keys s p n (λ x f. ap p (sym (ns_anti n x f)))) ∙ e)
  where
    by : (b : Bool) → cond b (map.get s n) None ≡ Some t → IndexesOf t
    by true f = h n t f
    by false f = no_table t f

hold_there : (s : Tables) (k : NsName) (g : Table → Table) → Holding s → ((t : Table) → map.get s k ≡ Some t → IndexesOf (g t)) → Holding (on_there g k s)
hold_there s k g h keeps = by (map.get s k) refl
  where
    by : (o : Option Table) → map.get s k ≡ o → Holding (on_found g k o s)
    by None e = h
    by (Some t) e = hold_insert s k (g t) h (keeps t e)

-- a put that the conditions allow
put_holds : (t : Table) (k : Key) (d : Fields) → any_definition unique_clash (Some (put_row 0 k d t.rows)) (map.entries t.indexes) ≡ false → any_definition any_parallel (Some (put_row 0 k d t.rows)) (map.entries t.indexes) ≡ false → IndexesOf (put_table k d t)
put_holds t k d u p i x e = (
  unique_same (plan_of x) (put_row t.next k d t.rows) (put_row 0 k d t.rows) (put_documents t.next 0 k d t.rows) ∙ definition_false unique_clash (put_row 0 k d t.rows) t.indexes i x u e,
  parallel_same (plan_of x) (put_row t.next k d t.rows) (put_row 0 k d t.rows) (put_documents t.next 0 k d t.rows) ∙ definition_false any_parallel (put_row 0 k d t.rows) t.indexes i x p e,
)

drop_holds : (t : Table) (k : Key) → IndexesOf t → IndexesOf (drop_table k t)
drop_holds t k h i d e = (unique_drop (plan_of d) k t.rows (h i d e).0, parallel_drop (plan_of d) k t.rows (h i d e).1)

-- what a put makes of a collection that is there, or is made
put_into : (r : Rows) (n : NsName) (k : Key) (d : Fields) (o : Option Table) → map.get r.tables n ≡ o → IndexesHold r → IndexesOf (put_table k d (or_fresh r.count o)) → IndexesHold (change_rows (writes.Put n k d) r)
put_into r n k d o e h w = subst (λ (z : Option Table). Holding (map.insert r.tables n (put_table k d (or_fresh r.count z)))) (sym e) (hold_insert r.tables n (put_table k d (or_fresh r.count o)) h w)

fresh_holds : (count : ℕ) (o : Tree) → IndexesOf (fresh_table count o)
fresh_holds count o i d e = no_tree d (sym (map.get-empty {X = Tree} key_cmp i) ∙ e)

put_fresh_holds : (count : ℕ) (o : Tree) (k : Key) (d : Fields) → IndexesOf (put_table k d (fresh_table count o))
put_fresh_holds count o k d i x e = no_tree x (sym (map.get-empty {X = Tree} key_cmp i) ∙ e)

-- ---- commands on documents

unless_holds : (old new : Fields) (cs : List RecordedWrite) (r : Rows) → IndexesHold r → IndexesHold (rows_of_changes cs r) → IndexesHold (rows_of_changes (unless_same old new cs) r)
unless_holds old new cs r h g = elim (same (Object old) (Object new)) as (λ b. IndexesHold (rows_of_changes (elim b [ true ↦ [] | false ↦ cs ]) r)) [ true ↦ h | false ↦ g ]

pub is_good : (b : Bool) → not b ≡ false → b ≡ true
is_good true e = refl
is_good false e = cc

-- the conditions on the rows after a command, as they are of a document that is put
record Allowed (rs : List Row) (ds : List (Key × Tree)) (k : Key) (d : Fields) : Type 0 where
  unique : any_definition unique_clash (Some (put_row 0 k d rs)) ds ≡ false
  parallels : any_definition any_parallel (Some (put_row 0 k d rs)) ds ≡ false

allowed : (o : Option (List Row)) (rs : List Row) (ds : List (Key × Tree)) (k : Key) (d : Fields) → o ≡ Some (put_row 0 k d rs) → any_definition unique_clash o ds ≡ false → any_definition any_parallel o ds ≡ false → Allowed rs ds k d
allowed o rs ds k d e u p = record { unique = subst (λ (z : Option (List Row)). any_definition unique_clash z ds ≡ false) e u; parallels = subst (λ (z : Option (List Row)). any_definition any_parallel z ds ≡ false) e p }

good_rows : (b : Bool) (d : Fields) (o : Option Value) (id : Value) (rs : List Row) → b ≡ true → id_of d ≡ Some id → with_good b d rs ≡ Some (put_row 0 (key_of id) (id_first d) rs)
good_rows b d o id rs e f = ap (λ (x : Bool). with_good x d rs) e ∙ ap (λ (x : Option Value). with_document x (id_first d) rs) f

insert_holds : (r : Rows) (n : NsName) (id : Value) (d : Fields) (o : Option Table) → map.get r.tables n ≡ o → IndexesHold r → Allowed (rows_in o) (definitions_in o) (key_of id) d → IndexesHold (rows_of_changes (insert_changes (is_some o) n id d) r)
insert_holds r n id d None e h a =
    (let one = create n (options_of []) r in
    put_into one n (key_of id) d (Some (fresh_table r.count (options_of []))) (ns_insert_here r.tables n (fresh_table r.count (options_of [])))
    (hold_insert r.tables n (fresh_table r.count (options_of [])) h (fresh_holds r.count (options_of []))) (put_fresh_holds r.count (options_of []) (key_of id) d))
insert_holds r n id d (Some t) e h a = put_into r n (key_of id) d (Some t) e h (put_holds t (key_of id) d a.unique a.parallels)

over_holds : (r : Rows) (n : NsName) (id : Value) (d : Fields) (i : Item) (t : Table) (w : Row) → map.get r.tables n ≡ Some t → IndexesHold r → Allowed t.rows (map.entries t.indexes) (key_of id) d → IndexesHold (rows_of_changes (unless_same w.document d (put_change n id d i ∷ [])) r)
over_holds r n id d i t w e h a = unless_holds w.document d (put_change n id d i ∷ []) r h (put_into r n (key_of id) d (Some t) e h (put_holds t (key_of id) d a.unique a.parallels))

pub document_holds : (f : Form) (in_txn : Bool) (c : DocumentCommand) (r : Rows) → document_refusal in_txn c r ≡ None → IndexesHold r → IndexesHold (rows_of_changes (document_changes f c r) r)
document_holds f in_txn (Insert n d) r e h = under (id_of d) refl
  where
    under : (o : Option Value) → id_of d ≡ o → IndexesHold (rows_of_changes (under_id (λ id. insert_changes (is_there n r) n id (id_first d)) o) r)
    under None g = h
    under (Some id) g =
        (let a = all_false (document_rows in_txn (Insert n d) r) e in
        insert_holds r n id (id_first d) (map.get r.tables n) refl h
        (allowed (rows_with (Insert n d) r) (rows_in (map.get r.tables n)) (definitions_in (map.get r.tables n)) (key_of id) (id_first d) (good_rows (is_good_document d) d (id_of d) id (rows_in (map.get r.tables n)) (is_good (is_good_document d) a.1.1.1.1.1.0) g) a.1.1.1.0 a.1.1.1.1.0))
document_holds f in_txn (Replace n d) r e h = under (id_of d) refl
  where
    under : (o : Option Value) → id_of d ≡ o → IndexesHold (rows_of_changes (under_id (λ id. replace_changes n id (id_first d) (row_at n (key_of id) r)) o) r)
    under None g = h
    under (Some id) g =
        (let a = all_false (document_rows in_txn (Replace n d) r) e in
        at (map.get r.tables n) refl
        (allowed (rows_with (Replace n d) r) (rows_in (map.get r.tables n)) (definitions_in (map.get r.tables n)) (key_of id) (id_first d) (good_rows (is_good_document d) d (id_of d) id (rows_in (map.get r.tables n)) (is_good (is_good_document d) a.1.1.1.1.1.0) g) a.1.1.1.0 a.1.1.1.1.0))
      where
        at : (o : Option Table) → map.get r.tables n ≡ o → Allowed (rows_in o) (definitions_in o) (key_of id) (id_first d) → IndexesHold (rows_of_changes (replace_changes n id (id_first d) (row_in (key_of id) o)) r)
        at None x b = h
        at (Some t) x b = on (row_of t.rows (key_of id))
          where
            on : (w : Option Row) → IndexesHold (rows_of_changes (replace_changes n id (id_first d) w) r)
            on None = h
            on (Some w) = over_holds r n id (id_first d) (entries.Whole n id (id_first d)) t w x h b
document_holds f in_txn (Update n id ops) r e h =
    (let a = all_false (document_rows in_txn (Update n id ops) r) e in at (map.get r.tables n) refl a.1.1.1.0 a.1.1.1.1.0)
  where
    at : (o : Option Table) → map.get r.tables n ≡ o → any_definition unique_clash (with_update id (update_of (row_in (key_of id) o) ops) (rows_in o)) (definitions_in o) ≡ false →
        any_definition any_parallel (with_update id (update_of (row_in (key_of id) o) ops) (rows_in o)) (definitions_in o) ≡ false → IndexesHold (rows_of_changes (update_changes f n id (row_in (key_of id) o) (update_of (row_in (key_of id) o) ops)) r)
    at None x u p = h
    at (Some t) x u p = on (row_of t.rows (key_of id)) u p
      where
        on : (w : Option Row) → any_definition unique_clash (with_update id (update_of w ops) t.rows) (map.entries t.indexes) ≡ false → any_definition any_parallel (with_update id (update_of w ops) t.rows) (map.entries t.indexes) ≡ false →
            IndexesHold (rows_of_changes (update_changes f n id w (update_of w ops)) r)
        on None u p = h
        on (Some w) u p = made (update_of (Some w) ops) u p
          where
            made : (y : Option Updated) → any_definition unique_clash (with_update id y t.rows) (map.entries t.indexes) ≡ false → any_definition any_parallel (with_update id y t.rows) (map.entries t.indexes) ≡ false →
                IndexesHold (rows_of_changes (update_changes f n id (Some w) y) r)
            made None u p = h
            made (Some v) u p = over_holds r n id v.doc (update_item f n id v.doc v.touches) t w x h (record { unique = u; parallels = p })
document_holds f in_txn (Delete n id) r e h = hold_there r.tables n (drop_table (key_of id)) h (λ t x. drop_holds t (key_of id) (h n t x))

-- ---- transactions

changes_append : (cs ds : List RecordedWrite) (r : Rows) → rows_of_changes (cs ++ ds) r ≡ rows_of_changes ds (rows_of_changes cs r)
changes_append [] ds r = refl
changes_append (c ∷ cs) ds r = changes_append cs ds (change_rows c.0 r)

together_holds : (f : Form) (ds : List DocumentCommand) (r : Rows) (all : List RecordedWrite) → changes_together f ds r ≡ Ok all → IndexesHold r → IndexesHold (rows_of_changes all r)
together_holds f [] r all e h = subst (λ (z : List RecordedWrite). IndexesHold (rows_of_changes z r)) (same_ok [] all e) h
together_holds f (d ∷ ds) r all e h =
    both (λ more g k. together_holds f ds (rows_of_changes (document_changes f d r) r) more g k) (document_refusal true d r) refl (changes_together f ds (rows_of_changes (document_changes f d r) r)) refl e
  where
    both : ((more : List RecordedWrite) → changes_together f ds (rows_of_changes (document_changes f d r) r) ≡ Ok more → IndexesHold (rows_of_changes (document_changes f d r) r) → IndexesHold (rows_of_changes more (rows_of_changes (document_changes f d r) r))) →
        (x : Option Refused) → document_refusal true d r ≡ x → (y : Result (List RecordedWrite) Refused) → changes_together f ds (rows_of_changes (document_changes f d r) r) ≡ y →
        and_then x (document_changes f d r) y ≡ Ok all → IndexesHold (rows_of_changes all r)
    both rest (Some x) u y g k = cc
    both rest None u (Err x) g k = cc
    both rest None u (Ok more) g k =
        subst (λ (z : List RecordedWrite). IndexesHold (rows_of_changes z r)) (same_ok (document_changes f d r ++ more) all k)
        (subst IndexesHold (sym (changes_append (document_changes f d r) more r)) (rest more g (document_holds f true d r u h)))

-- ---- effects

pub rows_of_effects : List Effect → Rows → Rows
rows_of_effects [] r = r
rows_of_effects (d ∷ ds) r = rows_of_effects ds (rows_by d.0 r)

after_rows : (ds : List Effect) (st : Stage) → (stage_after ds st).rows ≡ rows_of_effects ds st.rows
unfolding rows_of_effects
after_rows [] st = refl
after_rows (d ∷ ds) st = after_rows ds (stage_by d st)

one_each_rows : (cs : List RecordedWrite) (r : Rows) → rows_of_effects (one_each cs) r ≡ rows_of_changes cs r
unfolding rows_of_effects
one_each_rows [] r = refl
one_each_rows (c ∷ cs) r = one_each_rows cs (change_rows c.0 r)

all_rows : (cs : List RecordedWrite) (r : Rows) → rows_all (each (λ (x : RecordedWrite). x.0) cs) r ≡ rows_of_changes cs r
all_rows [] r = refl
all_rows (c ∷ cs) r = all_rows cs (change_rows c.0 r)

group_rows : (cs : List RecordedWrite) (r : Rows) → rows_of_effects (group_of cs) r ≡ rows_of_changes cs r
unfolding rows_of_effects
group_rows [] r = refl
group_rows (c ∷ cs) r = all_rows (c ∷ cs) r

grouped_holds : (x : Result (List RecordedWrite) Refused) (r : Rows) (ds : List Effect) → ((cs : List RecordedWrite) → x ≡ Ok cs → IndexesHold (rows_of_changes cs r)) → grouped x ≡ Ok ds → IndexesHold (rows_of_effects ds r)
grouped_holds (Err x) r ds h e = cc
grouped_holds (Ok cs) r ds h e =
    subst (λ (z : List Effect). IndexesHold (rows_of_effects z r)) (or_large (is_too_large (group_of cs)) (group_of cs) ds e) (subst IndexesHold (sym (group_rows cs r)) (h cs refl))

-- a definition that the conditions allow
added_holds : (t : Table) (d : Tree) → unique_clash t.rows (plan_of d) ≡ false → any_parallel t.rows (plan_of d) ≡ false → IndexesOf t → IndexesOf (put_index (definition_name d) d t)
added_holds t d u p h i x e = by (same_key i (definition_name d)) (sym (key_at_insert t.indexes (definition_name d) d i) ∙ e)
  where
    by : (b : Bool) → cond b (Some d) (map.get t.indexes i) ≡ Some x → (unique_clash t.rows (plan_of x) ≡ false) × (any_parallel t.rows (plan_of x) ≡ false)
    by true g = subst (λ (z : Tree). (unique_clash t.rows (plan_of z) ≡ false) × (any_parallel t.rows (plan_of z) ≡ false)) (same_tree d x g) (u, p)
    by false g = h i x g

taken_holds : (t : Table) (k : Key) → IndexesOf t → IndexesOf (take_index k t)
taken_holds t k h i x e = by (same_key i k) (sym (key_at_remove t.indexes k i) ∙ e)
  where
    by : (b : Bool) → cond b None (map.get t.indexes i) ≡ Some x → (unique_clash t.rows (plan_of x) ≡ false) × (any_parallel t.rows (plan_of x) ≡ false)
    by true g = no_tree x g
    by false g = h i x g

index_holds : (r : Rows) (n : NsName) (o : Option Tree) → unique_clash (rows_in (map.get r.tables n)) (plan_in o) ≡ false → any_parallel (rows_in (map.get r.tables n)) (plan_in o) ≡ false → IndexesHold r → IndexesHold (rows_of_effects (index_effects n o) r)
unfolding rows_of_effects
index_holds r n None u p h = h
index_holds r n (Some d) u p h =
    hold_there r.tables n (put_index (definition_name d) d) h
    (λ t e. added_holds t d (subst (λ (z : Option Table). unique_clash (rows_in z) (plan_of d) ≡ false) e u) (subst (λ (z : Option Table). any_parallel (rows_in z) (plan_of d) ≡ false) e p) (h n t e))

and_good : (a b : Bool) → not a ≡ false → (a && b) ≡ false → b ≡ false
and_good true b e f = f
and_good false b e f = cc

rename_holds : (r : Rows) (a b : NsName) (o : Option Table) → map.get r.tables a ≡ o → IndexesHold r → Holding (renamed_in a o b r.count r.tables)
rename_holds r a b None e h = h
rename_holds r a b (Some t) e h = hold_insert (map.remove r.tables a) b (with_incarnation r.count t) (hold_remove r.tables a h) (h a t e)

effect_holds : (k : Command) (st : Stage) → first_of (command_rows k st) ≡ None → IndexesHold st.rows → IndexesHold (rows_of_effects (command_effects k st) st.rows)
unfolding rows_of_effects
effect_holds (At s) st e h = h
effect_holds (Recording f) st e h = h
effect_holds (Create n o) st e h = hold_insert st.rows.tables n (fresh_table st.rows.count (options_of o)) h (fresh_holds st.rows.count (options_of o))
effect_holds (DropColl n) st e h = hold_remove st.rows.tables n h
effect_holds (DropDatabase db) st e h = hold_retain st.rows.tables (λ n. not (same_key n.db db)) h
effect_holds (Rename a b) st e h = rename_holds st.rows a b (map.get st.rows.tables a) refl h
effect_holds (Document d) st e h = subst IndexesHold (sym (one_each_rows (document_changes st.form d st.rows) st.rows)) (document_holds st.form false d st.rows e h)
effect_holds (CreateIndex n d) st e h =
    (let a = all_false (index_rows n d st.rows) e in
    index_holds st.rows n (normal_of d) (and_good (is_good_definition d) _ a.1.1.1.1.0 a.1.0) (and_good (is_good_definition d) _ a.1.1.1.1.0 a.1.1.0) h)
effect_holds (DropIndex n k) st e h = hold_there st.rows.tables n (take_index k) h (λ t x. taken_holds t k (h n t x))
effect_holds (Txn ds) st e h = h

told_holds_by : (k : Command) (st : Stage) (ds : List Effect) → unless_refused (first_of (command_rows k st)) (command_effects k st) ≡ Ok ds → IndexesHold st.rows → IndexesHold (rows_of_effects ds st.rows)
told_holds_by k st ds e h =
    (let u = unless_told (first_of (command_rows k st)) (command_effects k st) ds e in subst (λ (z : List Effect). IndexesHold (rows_of_effects z st.rows)) u.1 (effect_holds k st u.0 h))

effects_hold : (k : Command) (st : Stage) (ds : List Effect) → effects k st ≡ Ok ds → IndexesHold st.rows → IndexesHold (rows_of_effects ds st.rows)
effects_hold (Txn cs) st ds e h = grouped_holds (changes_together st.form cs st.rows) st.rows ds (λ all g. together_holds st.form cs st.rows all g h) e
effects_hold (At s) st ds e h = told_holds_by (At s) st ds e h
effects_hold (Recording f) st ds e h = told_holds_by (Recording f) st ds e h
effects_hold (Create n o) st ds e h = told_holds_by (Create n o) st ds e h
effects_hold (DropColl n) st ds e h = told_holds_by (DropColl n) st ds e h
effects_hold (DropDatabase db) st ds e h = told_holds_by (DropDatabase db) st ds e h
effects_hold (Rename a b) st ds e h = told_holds_by (Rename a b) st ds e h
effects_hold (Document d) st ds e h = told_holds_by (Document d) st ds e h
effects_hold (CreateIndex n d) st ds e h = told_holds_by (CreateIndex n d) st ds e h
effects_hold (DropIndex n k) st ds e h = told_holds_by (DropIndex n k) st ds e h

pub applied_holds : (k : Command) (st : Stage) (x : Stage × List Made) → applied k st ≡ Ok x → IndexesHold st.rows → IndexesHold x.0.rows
applied_holds k st x e h = by (effects k st) refl e
  where
    by : (y : Result (List Effect) Refused) → effects k st ≡ y → answered (set_by k st) y ≡ Ok x → IndexesHold x.0.rows
    by (Err z) f g = cc
    by (Ok ds) f g =
        subst (λ (z : Stage × List Made). IndexesHold z.0.rows) (same_ok (stage_after ds (set_by k st), made_in ds (set_by k st)) x g)
        (subst IndexesHold (sym (after_rows ds (set_by k st))) (subst (λ (z : Rows). IndexesHold (rows_of_effects ds z)) (sym (told_same k st)) (effects_hold k st ds f h)))

pub nothing_holds : IndexesHold no_rows
nothing_holds n t e = no_table t (sym (map.get-empty {X = Table} namespace_cmp n) ∙ e)
