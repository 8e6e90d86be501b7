-- What a command makes where no row refuses it is good, and keeps the rows.
use Rattle.std.proofs.Common.{◌≡◌, ℕ, List, [], ◌∷◌, ◌++◌, length, Bool, true, false, not, refl, sym, ap, ◌∙◌, subst, arith, Option, Some, None, Result, Ok, Err}
use Rattle.std.specs.Prelude.{⊤, ◌<◌, ◌&&◌, ◌||◌, codes, nat_le, is_some, map as each}
use Rattle.std.specs.List.{list_any}
use Rattle.std.specs.FinMap as map
use Rattle.std.proofs.lemmas.Bool.{and_parts, or_parts}
use Rattle.std.proofs.lemmas.Grind.{common_steps}
use Rattle.containers.specs.Entries.{lookup}
use Rattle.bson_value.specs.declared.namespace.NsName.{NsName}
use Rattle.bson_value.specs.declared.value.Value.{Value, Object}
use Rattle.bson_value.specs.NamespaceOrder.{namespace_cmp}
use Rattle.bson_value.specs.Levels.{levels_of}
use Rattle.bson_value.specs.WellFormed.{IsWellFormed, IsWellFormedDocument}
use Rattle.bson_encode.specs.Key.{key_of}
use Rattle.bson_encode.proofs.Keys.{equal_keys}
use Rattle.doc_path.specs.declared.parts.Form.{Form}
use Rattle.doc_path.specs.declared.touches.Touch.{Touch}
use Rattle.json_tree.specs.declared.tree.Tree.{Tree}
use Rattle.json_text.specs.Print.{text_of}
use Rattle.state_model.specs.Keys.{Key, key_cmp, same_key}
use Rattle.state_model.proofs.Keys.{key_is, key_refl, ns_refl, key_from}
use Rattle.coll_state.specs.Rows.{Document as Fields, Row, Rows, Table, row_of, id_of}
use Rattle.update_model.specs.declared.updated.Updated.{Updated}
use Rattle.update_model.specs.Equality.{same}
use Rattle.update_model.specs.Reading.{operators, ops_fault}
use Rattle.update_model.specs.Updating.{updated}
use Rattle.update_action.specs.Recorded.{recorded}
use Rattle.update_records.proofs.Made.{updated_formed}
use Rattle.update_bounds.proofs.First.{updates_keep_first}
use Rattle.update_bounds.proofs.Small.{updates_are_small, not_above}
use Rattle.schedule_model.specs.declared.command.DocumentCommand.{DocumentCommand}
use Rattle.schedule_model.specs.declared.command.DocumentCommand.TheVariants.{Insert, Replace, Update, Delete}
use Rattle.schedule_model.specs.declared.command.Command.{Command}
use Rattle.schedule_model.specs.declared.command.Command.TheVariants as commands
use Rattle.schedule_model.specs.declared.refused.Refused.{Refused}
use Rattle.copy_model.specs.Writes as writes
use Rattle.copy_model.specs.Writes.{change_rows}
use Rattle.history_model.specs.Documents.{id_first, options_of, has_field, is_short, are_good_options, normal_of, name_of, is_good_document, is_good_definition, is_bad_name}
use Rattle.history_model.specs.Entries.{One, Group, delta_or_whole, update_item, content_size}
use Rattle.history_model.specs.Entries as entries
use Rattle.history_model.specs.Stages.{Stage, Effect, Single, rows_by}
use Rattle.history_model.specs.Refusals.{is_there, row_in, row_at, accepted, update_of, definitions_in, in_database, first_of, document_rows, document_refusal, name_there, index_rows}
use Rattle.history_model.specs.Commands.{RecordedWrite, put_change, unless_same, update_changes, replace_changes, insert_changes, under_id, document_changes, rows_of_changes, and_then, changes_together, entry_limit, group_of, is_too_large, or_too_large, grouped, one_each, unless_refused, index_effects, has_definition, command_rows, command_effects, effects}
use Rattle.history_model.proofs.Accepted.{all_false, same_ok, refused_none}
use Rattle.history_model.proofs.WellFormed.{accepted_ok}
use Rattle.recorded_entries.specs.Given.{IsGivenChange, AreGivenChanges, IsGivenCommand}
use Rattle.recorded_entries.specs.Good.{IsGoodName, IsGoodDatabase, IsGoodId, IsGoodDocument, IsGoodOptions, IsGoodDefinition, IsGoodIndex, IsGoodItem, AreGoodItems, IsGood}
use Rattle.recorded_entries.specs.Kept.{IsKeptTable, AreKept}
use Rattle.recorded_entries.proofs.Finding.{any_found}
use Rattle.recorded_entries.proofs.Documents.{good_first}
use Rattle.recorded_entries.proofs.Deltas.{recorded_good}
use Rattle.recorded_entries.proofs.Definitions.{good_definition, is_false, is_none, at_most}
use Rattle.recorded_entries.proofs.KeptRows.{HasRoom, IsKeptSingle, AreKeptSingles, IsKeptWrite, no_options_good, single_kept, row_kept}
use Rattle.history_model.proofs.IndexesHeld.{is_good}

-- ---- changes, each good and keeping the rows

abbrev pub AreGoodChanges : List RecordedWrite → Rows → Type 0
AreGoodChanges [] r = ⊤
AreGoodChanges (c ∷ cs) r = IsKeptSingle c.0 r × IsGoodItem c.1 × AreGoodChanges cs (change_rows c.0 r)

changes_keep : (cs : List RecordedWrite) (r : Rows) → AreGoodChanges cs r → AreKept r → AreKept (rows_of_changes cs r)
changes_keep [] r g h = h
changes_keep (c ∷ cs) r g h = changes_keep cs (change_rows c.0 r) g.2 (single_kept c.0 r g.0 h)

changes_join : (xs ys : List RecordedWrite) (r : Rows) → AreGoodChanges xs r → AreGoodChanges ys (rows_of_changes xs r) → AreGoodChanges (xs ++ ys) r
changes_join [] ys r a b = b
changes_join (x ∷ xs) ys r a b = (a.0, a.1, changes_join xs ys (change_rows x.0 r) a.2 b)

unless_good : (old new : Fields) (cs : List RecordedWrite) (r : Rows) → AreGoodChanges cs r → AreGoodChanges (unless_same old new cs) r
unless_good old new cs r h = elim (same (Object old) (Object new)) as (λ b. AreGoodChanges (elim b [ true ↦ [] | false ↦ cs ]) r) [ true ↦ tt | false ↦ h ]

name_by : (o : Option Table) (n : NsName) → ((t : Table) → o ≡ Some t → IsGoodName n) → (not (is_some o) && is_bad_name n) ≡ false → IsGoodName n
name_by None n h e = e
name_by (Some t) n h e = h t refl

insert_good : (there : Bool) (n : NsName) (id : Value) (d : Fields) (r : Rows) → IsGoodName n → IsGoodDocument id d → AreGoodChanges (insert_changes there n id d) r
unfolding options_of
insert_good true n id d r g h = ((g, id, h, refl), (g, h), tt)
insert_good false n id d r g h = ((g, ([], no_options_good, refl)), (g, no_options_good), ((g, id, h, refl), (g, h), tt))

replace_good : (n : NsName) (id : Value) (d : Fields) (r : Rows) (o : Option Table) → map.get r.tables n ≡ o → AreKept r → IsGoodDocument id d → AreGoodChanges (replace_changes n id d (row_in (key_of id) o)) r
replace_good n id d r None e h g = tt
replace_good n id d r (Some t) e h g = on (row_of t.rows (key_of id))
  where
    name : IsGoodName n
    name = (h n t e).0

    on : (w : Option Row) → AreGoodChanges (replace_changes n id d w) r
    on None = tt
    on (Some w) = unless_good w.document d (put_change n id d (entries.Whole n id d) ∷ []) r ((name, id, g, refl), (name, g), tt)

-- values of one key are one value, where one of them is an `_id` that is kept
same_id : (a b : Value) → IsWellFormed a → IsGoodId b → key_of a ≡ key_of b → a ≡ b
same_id a b w g e =
    let l : length (key_of a) ≡ length (key_of b) = ap length e in
    equal_keys a b w g.formed (omega (arith, l, g.short)) e

updated_good : (n : NsName) (id : Value) (ops : Fields) (w : Row) (u : Updated) → IsWellFormedDocument ops → IsGoodDocument id w.document → ops_fault ops ≡ None → updated (operators ops) w.document ≡ Ok u → IsGoodDocument id u.doc
updated_good n id ops w u k g s e =
    let small = updates_are_small (operators ops) w.document u e in
    record {
      own = g.own;
      first = updates_keep_first id ops w.document u g.first s e;
      formed = (updated_formed ops w.document u k g.formed s e).document;
      short = small.0;
      shallow = small.1;
    }

item_good : (f : Form) (n : NsName) (id : Value) (ops : Fields) (w : Row) (u : Updated) → IsGoodName n → IsWellFormedDocument ops → IsGoodDocument id w.document → IsGoodDocument id u.doc → ops_fault ops ≡ None → updated (operators ops) w.document ≡ Ok u → IsGoodItem (update_item f n id u.doc u.touches)
item_good f n id ops w u name k old new s e = by (recorded f u.doc u.touches) refl
  where
    by : (o : Option (Form × List Touch)) → recorded f u.doc u.touches ≡ o → IsGoodItem (delta_or_whole n id u.doc o)
    by None q = (name, new)
    by (Some r) q = (name, new.own, recorded_good f ops w.document u r k old.formed s e q)

update_good : (f : Form) (n : NsName) (id : Value) (ops : Fields) (r : Rows) (o : Option Table) → map.get r.tables n ≡ o → IsWellFormed id → IsWellFormedDocument ops → AreKept r → AreGoodChanges (update_changes f n id (row_in (key_of id) o) (update_of (row_in (key_of id) o) ops)) r
update_good f n id ops r None e i k h = tt
update_good f n id ops r (Some t) e i k h = there (row_of t.rows (key_of id)) refl
  where
    name : IsGoodName n
    name = (h n t e).0

    made : (w : Row) → IsGoodDocument id w.document → (x : Option Updated) → accepted (ops_fault ops) (updated (operators ops) w.document) ≡ x → AreGoodChanges (update_changes f n id (Some w) x) r
    made w g None q = tt
    made w g (Some u) q =
        (let b = accepted_ok (ops_fault ops) (updated (operators ops) w.document) u q in
        let new = updated_good n id ops w u k g b.0 b.1 in
        unless_good w.document u.doc (put_change n id u.doc (update_item f n id u.doc u.touches) ∷ []) r ((name, id, new, refl), item_good f n id ops w u name k g new b.0 b.1, tt))

    there : (w : Option Row) → row_of t.rows (key_of id) ≡ w → AreGoodChanges (update_changes f n id w (update_of w ops)) r
    there None q = tt
    there (Some w) q =
        (let x = row_kept t.rows (key_of id) w (h n t e).1.rows q in
        let same = same_id id x.0.0 i x.0.1.own (x.1 ∙ x.0.2) in
        made w (subst (λ (v : Value). IsGoodDocument v w.document) (sym same) x.0.1) (accepted (ops_fault ops) (updated (operators ops) w.document)) refl)

delete_good : (n : NsName) (id : Value) (r : Rows) (o : Option Table) → map.get r.tables n ≡ o → IsWellFormed id → AreKept r → not (is_some (row_in (key_of id) o)) ≡ false → AreGoodChanges ((writes.Remove n (key_of id), entries.Remove n id) ∷ []) r
delete_good n id r None e i h q = cc
delete_good n id r (Some t) e i h q = by (row_of t.rows (key_of id)) refl q
  where
    by : (w : Option Row) → row_of t.rows (key_of id) ≡ w → not (is_some w) ≡ false → AreGoodChanges ((writes.Remove n (key_of id), entries.Remove n id) ∷ []) r
    by None f g = cc
    by (Some w) f g =
        (let x = row_kept t.rows (key_of id) w (h n t e).1.rows f in
        let same = same_id id x.0.0 i x.0.1.own (x.1 ∙ x.0.2) in
        (tt, ((h n t e).0, subst IsGoodId (sym same) x.0.1.own), tt))

document_good : (f : Form) (in_txn : Bool) (c : DocumentCommand) (r : Rows) → IsGivenChange c → AreKept r → document_refusal in_txn c r ≡ None → AreGoodChanges (document_changes f c r) r
document_good f in_txn (Insert n d) r w h e = under (id_of d) refl
  where
    under : (o : Option Value) → id_of d ≡ o → AreGoodChanges (under_id (λ id. insert_changes (is_there n r) n id (id_first d)) o) r
    under None q = tt
    under (Some id) q =
        (let a = all_false (document_rows in_txn (Insert n d) r) e in
        let name = name_by (map.get r.tables n) n (λ t g. (h n t g).0) a.1.1.1.1.1.1.1.0 in
        insert_good (is_there n r) n id (id_first d) r name (good_first d id w (is_good (is_good_document d) a.1.1.1.1.1.0) q))
document_good f in_txn (Replace n d) r w h e = under (id_of d) refl
  where
    under : (o : Option Value) → id_of d ≡ o → AreGoodChanges (under_id (λ id. replace_changes n id (id_first d) (row_at n (key_of id) r)) o) r
    under None q = tt
    under (Some id) q =
        (let a = all_false (document_rows in_txn (Replace n d) r) e in
        replace_good n id (id_first d) r (map.get r.tables n) refl h (good_first d id w (is_good (is_good_document d) a.1.1.1.1.1.0) q))
document_good f in_txn (Update n id ops) r w h e = update_good f n id ops r (map.get r.tables n) refl w.0 w.1 h
document_good f in_txn (Delete n id) r w h e =
    (let a = all_false (document_rows in_txn (Delete n id) r) e in delete_good n id r (map.get r.tables n) refl w h a.1.1.0)

together_good : (f : Form) (ds : List DocumentCommand) (r : Rows) (all : List RecordedWrite) → AreGivenChanges ds → AreKept r → changes_together f ds r ≡ Ok all → AreGoodChanges all r
together_good f [] r all w h e = subst (λ (z : List RecordedWrite). AreGoodChanges z r) (same_ok [] all e) tt
together_good f (d ∷ ds) r all w h e =
    both (λ more g k. together_good f ds (rows_of_changes (document_changes f d r) r) more w.1 k g) (document_refusal true d r) refl (changes_together f ds (rows_of_changes (document_changes f d r) r)) refl e
  where
    both : ((more : List RecordedWrite) → changes_together f ds (rows_of_changes (document_changes f d r) r) ≡ Ok more → AreKept (rows_of_changes (document_changes f d r) r) → AreGoodChanges more (rows_of_changes (document_changes f d r) r)) →
        (x : Option Refused) → document_refusal true d r ≡ x → (y : Result (List RecordedWrite) Refused) → changes_together f ds (rows_of_changes (document_changes f d r) r) ≡ y →
        and_then x (document_changes f d r) y ≡ Ok all → AreGoodChanges all r
    both rest (Some x) u y g k = cc
    both rest None u (Err x) g k = cc
    both rest None u (Ok more) g k =
        (let one = document_good f true d r w.0 h u in
        subst (λ (z : List RecordedWrite). AreGoodChanges z r) (same_ok (document_changes f d r ++ more) all k) (changes_join (document_changes f d r) more r one (rest more g (changes_keep (document_changes f d r) r one h))))

-- ---- effects

abbrev pub AreGoodEffects : List Effect → Rows → Type 0
AreGoodEffects [] r = ⊤
AreGoodEffects (d ∷ ds) r = IsKeptWrite d.0 r × IsGood d.1 × AreGoodEffects ds (rows_by d.0 r)

each_good : (cs : List RecordedWrite) (r : Rows) → AreGoodChanges cs r → AreGoodEffects (one_each cs) r
each_good [] r h = tt
each_good (c ∷ cs) r h = (h.0, h.1, each_good cs (change_rows c.0 r) h.2)

singles_good : (cs : List RecordedWrite) (r : Rows) → AreGoodChanges cs r → AreKeptSingles (each (λ (x : RecordedWrite). x.0) cs) r
singles_good [] r h = tt
singles_good (c ∷ cs) r h = (h.0, singles_good cs (change_rows c.0 r) h.2)

items_good : (cs : List RecordedWrite) (r : Rows) → AreGoodChanges cs r → AreGoodItems (each (λ (x : RecordedWrite). x.1) cs)
items_good [] r h = tt
items_good (c ∷ cs) r h = (h.1, items_good cs (change_rows c.0 r) h.2)

group_good : (cs : List RecordedWrite) (r : Rows) → AreGoodChanges cs r → is_too_large (group_of cs) ≡ false → AreGoodEffects (group_of cs) r
group_good [] r h e = tt
group_good (c ∷ cs) r h e =
    let is = each (λ (x : RecordedWrite). x.1) (c ∷ cs) in
    (singles_good (c ∷ cs) r h, (items_good (c ∷ cs) r h, not_above entry_limit (content_size (Group is)) e), tt)

not_too_large : (b : Bool) (ds es : List Effect) → or_too_large b ds ≡ Ok es → (b ≡ false) × (ds ≡ es)
not_too_large true ds es h = cc
not_too_large false ds es h = (refl, cc)

grouped_good : (x : Result (List RecordedWrite) Refused) (r : Rows) (ds : List Effect) → ((cs : List RecordedWrite) → x ≡ Ok cs → AreGoodChanges cs r) → grouped x ≡ Ok ds → AreGoodEffects ds r
grouped_good (Err x) r ds h e = cc
grouped_good (Ok cs) r ds h e =
    let n = not_too_large (is_too_large (group_of cs)) (group_of cs) ds e in
    subst (λ (z : List Effect). AreGoodEffects z r) n.1 (group_good cs r (h cs refl) n.0)

-- a name that is there
there_name : (n : NsName) (r : Rows) (o : Option Table) → map.get r.tables n ≡ o → AreKept r → not (is_some o) ≡ false → (t : Table) × (o ≡ Some t) × IsGoodName n × IsKeptTable t
there_name n r None e h q = cc
there_name n r (Some t) e h q = (t, refl, (h n t e).0, (h n t e).1)

good_options : (o : Fields) → IsWellFormedDocument o → are_good_options o ≡ true → IsGoodOptions o
unfolding are_good_options
good_options o w e =
    let a = and_parts (not (has_field (codes "create") o || has_field (codes "idIndex") o)) (is_short (options_of o) && nat_le (levels_of o) 100) e in
    let b = or_parts (has_field (codes "create") o) (has_field (codes "idIndex") o) (is_false (has_field (codes "create") o || has_field (codes "idIndex") o) a.0) in
    let c = and_parts (is_short (options_of o)) (nat_le (levels_of o) 100) a.1 in
    record {
      formed = w;
      no_create = is_none (lookup (codes "create") o) b.0;
      no_id_index = is_none (lookup (codes "idIndex") o) b.1;
      short = at_most (length (text_of (options_of o))) 8192 c.0;
      shallow = at_most (levels_of o) 100 c.1;
    }

database_good : (db : List ℕ) (r : Rows) → AreKept r → in_database db r ≡ true → IsGoodDatabase db
database_good db r h e =
    let x = any_found namespace_cmp ns_refl (λ (n : NsName). same_key n.db db) (map.entries r.tables) e in
    let good = (h x.0 x.1 (map.get-entries r.tables x.0 ∙ x.3)).0 in
    (x.0.coll, subst (λ (z : List ℕ). IsGoodName (record { db = z; coll = x.0.coll })) (key_is x.0.db db x.2) good)

index_good : (k : Key) (t : Table) → IsKeptTable t → has_definition k (map.entries t.indexes) ≡ true → IsGoodIndex k
index_good k t h e =
    let x = any_found key_cmp key_refl (same_key k) (map.entries t.indexes) e in
    let g = h.indexes x.0 x.1 (map.get-entries t.indexes x.0 ∙ x.3) in
    (x.1, g.0, g.1 ∙ sym (key_is k x.0 x.2))

-- a name that is new isn't that of the index on `_id`
new_name : (o : Option Key) (ds : List (Key × Tree)) → name_there o ds ≡ false → o ≡ Some (codes "_id_") → ⊥
new_name None ds e q = cc
new_name (Some k) ds e q =
    let a = or_parts (same_key k (codes "_id_")) (list_any (λ (x : Key × Tree). same_key k x.0) ds) e in
    let is : k ≡ codes "_id_" = cc in
    let t : same_key k (codes "_id_") ≡ true = key_from k (codes "_id_") is in
    let f = a.0 in
    cc

index_effects_good : (n : NsName) (d : Fields) (r : Rows) (o : Option Tree) → normal_of d ≡ o → IsGoodName n → HasRoom n r → ((t : Tree) → normal_of d ≡ Some t → IsGoodDefinition t) → AreGoodEffects (index_effects n o) r
index_effects_good n d r None e g room h = tt
index_effects_good n d r (Some t) e g room h = ((h t e, room), (g, h t e), tt)

-- fewer than 63 definitions leave room
room_for : (n : NsName) (r : Rows) → nat_le 63 (length (definitions_in (map.get r.tables n))) ≡ false → HasRoom n r
room_for n r e t f =
    let l : nat_le 63 (length (map.entries t.indexes)) ≡ false = subst (λ (o : Option Table). nat_le 63 (length (definitions_in o)) ≡ false) f e in
    let m : length (map.entries t.indexes) < 63 = grind (arith, common_steps) in
    omega (arith, m, map.len-entries t.indexes)

dropped_index : (n : NsName) (k : Key) (r : Rows) (o : Option Table) → map.get r.tables n ≡ o → AreKept r → not (is_some o) ≡ false → not (has_definition k (definitions_in o)) ≡ false → AreGoodEffects ((Single (writes.DropIndex n k), One (entries.DropIndex n k)) ∷ []) r
dropped_index n k r None e h q p = cc
dropped_index n k r (Some t) e h q p = (tt, ((h n t e).0, index_good k t (h n t e).1 (is_good (has_definition k (map.entries t.indexes)) p)), tt)

effect_good : (k : Command) (st : Stage) → IsGivenCommand k → AreKept st.rows → first_of (command_rows k st) ≡ None → AreGoodEffects (command_effects k st) st.rows
effect_good (commands.At s) st w h e = tt
effect_good (commands.Recording f) st w h e = tt
effect_good (commands.Create n o) st w h e =
    (let a = all_false (command_rows (commands.Create n o) st) e in
    let g = good_options o w (is_good (are_good_options o) a.1.0) in
    ((a.1.1.0, (o, g, refl)), (a.1.1.0, g), tt))
effect_good (commands.DropColl n) st w h e =
    (let a = all_false (command_rows (commands.DropColl n) st) e in (tt, (there_name n st.rows (map.get st.rows.tables n) refl h a.0).2, tt))
effect_good (commands.DropDatabase db) st w h e =
    (let a = all_false (command_rows (commands.DropDatabase db) st) e in (tt, database_good db st.rows h (is_good (in_database db st.rows) a.0), tt))
effect_good (commands.Rename x y) st w h e =
    (let a = all_false (command_rows (commands.Rename x y) st) e in
    let bad = or_parts (is_bad_name y) (not (same_key x.db y.db)) a.1.1.0 in
    (bad.0, ((there_name x st.rows (map.get st.rows.tables x) refl h a.0).2, bad.0), tt))
effect_good (commands.Document d) st w h e = each_good (document_changes st.form d st.rows) st.rows (document_good st.form false d st.rows w h e)
effect_good (commands.CreateIndex n d) st w h e =
    (let a = all_false (index_rows n d st.rows) e in
    index_effects_good n d st.rows (normal_of d) refl (there_name n st.rows (map.get st.rows.tables n) refl h a.0).2 (room_for n st.rows a.1.1.1.1.1.0)
    (λ t q. good_definition d t w.0 w.1 (is_good (is_good_definition d) a.1.1.1.1.0) q (new_name (name_of d) (definitions_in (map.get st.rows.tables n)) a.1.1.1.0)))
effect_good (commands.DropIndex n k) st w h e =
    (let a = all_false (command_rows (commands.DropIndex n k) st) e in dropped_index n k st.rows (map.get st.rows.tables n) refl h a.0 a.1.0)
effect_good (commands.Txn cs) st w h e = tt

told_by : (k : Command) (st : Stage) (ds : List Effect) → IsGivenCommand k → AreKept st.rows → unless_refused (first_of (command_rows k st)) (command_effects k st) ≡ Ok ds → AreGoodEffects ds st.rows
told_by k st ds w h e = let n = refused_none (first_of (command_rows k st)) (command_effects k st) ds e in subst (λ (z : List Effect). AreGoodEffects z st.rows) n.1 (effect_good k st w h n.0)

pub effects_good : (k : Command) (st : Stage) (ds : List Effect) → IsGivenCommand k → AreKept st.rows → effects k st ≡ Ok ds → AreGoodEffects ds st.rows
effects_good (commands.Txn cs) st ds w h e = grouped_good (changes_together st.form cs st.rows) st.rows ds (λ all g. together_good st.form cs st.rows all w h g) e
effects_good (commands.At s) st ds w h e = told_by (commands.At s) st ds w h e
effects_good (commands.Recording f) st ds w h e = told_by (commands.Recording f) st ds w h e
effects_good (commands.Create n o) st ds w h e = told_by (commands.Create n o) st ds w h e
effects_good (commands.DropColl n) st ds w h e = told_by (commands.DropColl n) st ds w h e
effects_good (commands.DropDatabase db) st ds w h e = told_by (commands.DropDatabase db) st ds w h e
effects_good (commands.Rename a b) st ds w h e = told_by (commands.Rename a b) st ds w h e
effects_good (commands.Document d) st ds w h e = told_by (commands.Document d) st ds w h e
effects_good (commands.CreateIndex n d) st ds w h e = told_by (commands.CreateIndex n d) st ds w h e
effects_good (commands.DropIndex n k) st ds w h e = told_by (commands.DropIndex n k) st ds w h e
