-- A command of well-formed documents leaves well-formed documents.
use Rattle.std.proofs.Common.{◌≡◌, ℕ, List, [], ◌∷◌, ◌++◌, Bool, true, false, cond, arith, refl, sym, ap, ◌∙◌, subst, Option, Some, None, Result, Ok, Err}
use Rattle.std.specs.Prelude.{⊤, not, map as each, codes, if◌then◌else◌}
use Rattle.std.specs.Str.{bytes_eq}
use Rattle.std.specs.FinMap as map
use Rattle.containers.specs.Entries.{IsAbsent, names_of, without}
use Rattle.bson_value.specs.declared.namespace.NsName.{NsName}
use Rattle.bson_value.specs.declared.value.Value.{Value, Object}
use Rattle.bson_value.specs.NamespaceOrder.{namespace_cmp}
use Rattle.bson_value.specs.WellFormed.{IsName, IsWellFormedDocument}
use Rattle.bson_encode.specs.Key.{key_of}
use Rattle.doc_path.specs.declared.parts.Form.{Form}
use Rattle.doc_path.specs.Played.{id_name}
use Rattle.json_tree.specs.declared.tree.Tree.{Tree}
use Rattle.state_model.specs.Keys.{Key, same_key, same_ns}
use Rattle.state_model.proofs.Keys.{ns_anti}
use Rattle.state_model.proofs.Maps.{ns_at_insert, ns_at_remove}
use Rattle.coll_state.specs.Rows.{Document as Fields, Row, Table, Rows, row_of, id_of}
use Rattle.coll_state.specs.Definitions.{definition_name}
use Rattle.coll_state.specs.Changes.{Tables, put_row, drop_row, put_table, drop_table, fresh_table, or_fresh, with_incarnation, put_index, take_index, on_found, on_there, renamed_in, no_rows}
use Rattle.schedule_model.specs.declared.command.DocumentCommand.{DocumentCommand}
use Rattle.schedule_model.specs.declared.command.DocumentCommand.TheVariants.{Insert, Replace, Update, Delete}
use Rattle.schedule_model.specs.declared.command.Command.{Command}
use Rattle.schedule_model.specs.declared.command.Command.TheVariants as commands
use Rattle.schedule_model.specs.declared.line.Line.{Line}
use Rattle.schedule_model.specs.declared.refused.Refused.{Refused}
use Rattle.copy_model.specs.Writes.{SingleWrite, change_rows}
use Rattle.copy_model.specs.Writes.{Put, Remove, Create, DropColl, DropDb, AddIndex, DropIndex}
use Rattle.update_model.specs.declared.updated.Updated.{Updated}
use Rattle.update_model.specs.declared.fault.OpsFault.{OpsFault}
use Rattle.update_model.specs.declared.fault.UpdateFault.{UpdateFault}
use Rattle.update_model.specs.Equality.{same}
use Rattle.update_model.specs.Reading.{operators, ops_fault}
use Rattle.update_model.specs.Updating.{updated}
use Rattle.update_action.proofs.Texts.{name_letters}
use Rattle.update_records.proofs.Changed.{other_name, field_formed, without_fields, without_names, without_distinct}
use Rattle.update_records.proofs.Made.{updated_formed}
use Rattle.history_model.specs.Documents.{id_before, id_first, normal_of}
use Rattle.history_model.specs.Entries.{Item, update_item}
use Rattle.history_model.specs.Entries as entries
use Rattle.history_model.specs.Stages.{Write, Single, Rename, Txn, rows_all, rows_by, Effect}
use Rattle.history_model.specs.Stages.{Stage}
use Rattle.history_model.specs.Refusals.{is_there, row_in, row_at, accepted, update_of, first_of, document_refusal}
use Rattle.history_model.specs.Commands.{RecordedWrite, put_change, unless_same, update_changes, replace_changes, insert_changes, under_id, document_changes, rows_of_changes, and_then, changes_together, group_of, or_too_large, is_too_large, grouped, one_each, unless_refused, index_effects, command_rows, command_effects, effects}
use Rattle.history_model.specs.WellFormed.{HasWellFormed, IsWellFormedTable, AreWellFormed, IsWellFormedChange, AreWellFormedChanges, IsWellFormedCommand, AreWellFormedLines}
use Rattle.coll_state.proofs.Sound.{some_table, no_table}

-- ---- lines

pub lines_front : (xs ys : List (ℕ × Line)) → AreWellFormedLines (xs ++ ys) → AreWellFormedLines xs
lines_front [] ys h = tt
lines_front (x ∷ xs) ys h = (h.0, lines_front xs ys h.1)

pub lines_join : (xs ys : List (ℕ × Line)) → AreWellFormedLines xs → AreWellFormedLines ys → AreWellFormedLines (xs ++ ys)
lines_join [] ys h g = g
lines_join (x ∷ xs) ys h g = (h.0, lines_join xs ys h.1 g)

-- ---- tables

abbrev AllTables : Tables → Type 0
AllTables ts = (n : NsName) (t : Table) → map.get ts n ≡ Some t → IsWellFormedTable t

formed_insert : (ts : Tables) (k : NsName) (u : Table) → AllTables ts → IsWellFormedTable u → AllTables (map.insert ts k u)
formed_insert ts k u h w n t e = by (same_ns n k) (sym (ns_at_insert ts k u n) ∙ e)
  where
    by : (b : Bool) → cond b (Some u) (map.get ts n) ≡ Some t → IsWellFormedTable t
    by true f = subst IsWellFormedTable (some_table u t f) w
    by false f = h n t f

formed_remove : (ts : Tables) (k : NsName) → AllTables ts → AllTables (map.remove ts k)
formed_remove ts k h n t e = by (same_ns n k) (sym (ns_at_remove ts k n) ∙ e)
  where
    by : (b : Bool) → cond b None (map.get ts n) ≡ Some t → IsWellFormedTable t
    by true f = absurd (no_table t f)
    by false f = h n t f

formed_retain : (ts : Tables) (p : NsName → Bool) → AllTables ts → AllTables (map.retain_keys ts p)
formed_retain ts p h n t e = by (p n) (sym (map.get-retain_keys ts p n (λ x f. ap p (sym (ns_anti n x f)))) ∙ e)
  where
    by : (b : Bool) → cond b (map.get ts n) None ≡ Some t → IsWellFormedTable t
    by true f = h n t f
    by false f = absurd (no_table t f)

formed_there : (ts : Tables) (k : NsName) (g : Table → Table) → ((t : Table) → IsWellFormedTable t → IsWellFormedTable (g t)) → AllTables ts → AllTables (on_there g k ts)
formed_there ts k g keeps h = by (map.get ts k) refl
  where
    by : (o : Option Table) → map.get ts k ≡ o → AllTables (on_found g k o ts)
    by None e = h
    by (Some t) e = formed_insert ts k (g t) h (keeps t (h k t e))

put_formed : (next : ℕ) (k : Key) (d : Fields) (rs : List Row) → IsWellFormedDocument d → HasWellFormed rs → HasWellFormed (put_row next k d rs)
put_formed next k d [] w h = (w, tt)
put_formed next k d (r ∷ rs) w h = by (same_key k r.key) (put_formed next k d rs w h.1)
  where
    by : (b : Bool) → HasWellFormed (put_row next k d rs) → HasWellFormed (if b then record { no = r.no; key = r.key; document = d } ∷ rs else r ∷ put_row next k d rs)
    by true g = (w, h.1)
    by false g = (h.0, g)

drop_formed : (k : Key) (rs : List Row) → HasWellFormed rs → HasWellFormed (drop_row k rs)
drop_formed k [] h = tt
drop_formed k (r ∷ rs) h = by (same_key k r.key) (drop_formed k rs h.1)
  where
    by : (b : Bool) → HasWellFormed (drop_row k rs) → HasWellFormed (if b then rs else r ∷ drop_row k rs)
    by true g = h.1
    by false g = (h.0, g)

-- ---- writes

abbrev IsWellFormedSingle : SingleWrite → Type 0
IsWellFormedSingle (Put n k d) = IsWellFormedDocument d
IsWellFormedSingle _ = ⊤

abbrev AreWellFormedSingles : List SingleWrite → Type 0
AreWellFormedSingles [] = ⊤
AreWellFormedSingles (w ∷ ws) = IsWellFormedSingle w × AreWellFormedSingles ws

abbrev pub IsWellFormedWrite : Write → Type 0
IsWellFormedWrite (Single w) = IsWellFormedSingle w
IsWellFormedWrite (Rename a b) = ⊤
IsWellFormedWrite (Txn ws) = AreWellFormedSingles ws

abbrev pub AreWellFormedEffects : List Effect → Type 0
AreWellFormedEffects [] = ⊤
AreWellFormedEffects (d ∷ ds) = IsWellFormedWrite d.0 × AreWellFormedEffects ds

single_formed : (w : SingleWrite) (r : Rows) → IsWellFormedSingle w → AreWellFormed r → AreWellFormed (change_rows w r)
single_formed (Put n k d) r w h = formed_insert r.tables n (put_table k d (or_fresh r.count (map.get r.tables n))) h (by (map.get r.tables n) refl)
  where
    by : (o : Option Table) → map.get r.tables n ≡ o → IsWellFormedTable (put_table k d (or_fresh r.count o))
    by None e = put_formed 1 k d [] w tt
    by (Some t) e = put_formed t.next k d t.rows w (h n t e)
single_formed (Remove n k) r w h = formed_there r.tables n (drop_table k) (λ t g. drop_formed k t.rows g) h
single_formed (Create n o) r w h = formed_insert r.tables n (fresh_table r.count o) h tt
single_formed (DropColl n) r w h = formed_remove r.tables n h
single_formed (DropDb d) r w h = formed_retain r.tables (λ n. not (same_key n.db d)) h
single_formed (AddIndex n d) r w h = formed_there r.tables n (put_index (definition_name d) d) (λ t g. g) h
single_formed (DropIndex n i) r w h = formed_there r.tables n (take_index i) (λ t g. g) h

singles_formed : (ws : List SingleWrite) (r : Rows) → AreWellFormedSingles ws → AreWellFormed r → AreWellFormed (rows_all ws r)
singles_formed [] r w h = h
singles_formed (x ∷ ws) r w h = singles_formed ws (change_rows x r) w.1 (single_formed x r w.0 h)

renamed_formed : (r : Rows) (a b : NsName) → AreWellFormed r → AllTables (renamed_in a (map.get r.tables a) b r.count r.tables)
renamed_formed r a b h = by (map.get r.tables a) refl
  where
    by : (o : Option Table) → map.get r.tables a ≡ o → AllTables (renamed_in a o b r.count r.tables)
    by None e = h
    by (Some t) e = formed_insert (map.remove r.tables a) b (with_incarnation r.count t) (formed_remove r.tables a h) (h a t e)

pub write_formed : (w : Write) (r : Rows) → IsWellFormedWrite w → AreWellFormed r → AreWellFormed (rows_by w r)
write_formed (Single x) r w h = single_formed x r w h
write_formed (Rename a b) r w h = renamed_formed r a b h
write_formed (Txn ws) r w h = singles_formed ws r w h

pub nothing_formed : AreWellFormed no_rows
nothing_formed n t e = (let f = map.get-empty {X = Table} namespace_cmp n in cc)

-- ---- documents

id_gone : (fs : Fields) (k : List ℕ) → IsAbsent k (names_of (without k fs))
id_gone [] k = tt
id_gone (f ∷ fs) k = by (bytes_eq f.0 k) refl (id_gone fs k)
  where
    by : (b : Bool) → bytes_eq f.0 k ≡ b → IsAbsent k (names_of (without k fs)) → IsAbsent k (names_of (if b then without k fs else f ∷ without k fs))
    by true e r = r
    by false e r = ((λ q. other_name f.0 k e (sym q)), r)

id_is_name : IsName id_name
id_is_name = name_letters id_name ((omega arith, omega arith), ((omega arith, omega arith), ((omega arith, omega arith), tt)))

pub id_first_formed : (d : Fields) → IsWellFormedDocument d → IsWellFormedDocument (id_first d)
id_first_formed d h = by (id_of d) refl
  where
    by : (o : Option Value) → id_of d ≡ o → IsWellFormedDocument (id_before o d)
    by None e = h
    by (Some v) e = (
      ((id_gone d id_name, without_distinct d id_name h.0.0), (id_is_name, without_names d id_name h.0.1)),
      (field_formed d (codes "_id") v h.1 e, without_fields d id_name h.1),
    )

row_formed : (rs : List Row) (k : Key) (w : Row) → HasWellFormed rs → row_of rs k ≡ Some w → IsWellFormedDocument w.document
row_formed [] k w h e = cc
row_formed (r ∷ rs) k w h e = by (same_key k r.key) e (row_formed rs k w h.1)
  where
    by : (b : Bool) → (if b then Some r else row_of rs k) ≡ Some w → (row_of rs k ≡ Some w → IsWellFormedDocument w.document) → IsWellFormedDocument w.document
    by true f more = (let q : r ≡ w = cc in subst (λ (x : Row). IsWellFormedDocument x.document) q h.0)
    by false f more = more f

pub there_formed : (r : Rows) (n : NsName) (k : Key) (t : Table) (w : Row) → AreWellFormed r → map.get r.tables n ≡ Some t → row_of t.rows k ≡ Some w → IsWellFormedDocument w.document
there_formed r n k t w h e f = row_formed t.rows k w (h n t e) f

-- ---- what a command makes

made_same : (a b : List RecordedWrite) → ◌≡◌ {A = Result (List RecordedWrite) Refused} (Ok a) (Ok b) → a ≡ b
made_same a b e = cc

abbrev pub AreWellFormedMade : List RecordedWrite → Type 0
AreWellFormedMade [] = ⊤
AreWellFormedMade (c ∷ cs) = IsWellFormedSingle c.0 × AreWellFormedMade cs

made_join : (xs ys : List RecordedWrite) → AreWellFormedMade xs → AreWellFormedMade ys → AreWellFormedMade (xs ++ ys)
made_join [] ys a b = b
made_join (x ∷ xs) ys a b = (a.0, made_join xs ys a.1 b)

pub made_leaves : (cs : List RecordedWrite) (r : Rows) → AreWellFormedMade cs → AreWellFormed r → AreWellFormed (rows_of_changes cs r)
made_leaves [] r w h = h
made_leaves (c ∷ cs) r w h = made_leaves cs (change_rows c.0 r) w.1 (single_formed c.0 r w.0 h)

unless_formed : (old new : Fields) (cs : List RecordedWrite) → AreWellFormedMade cs → AreWellFormedMade (unless_same old new cs)
unless_formed old new cs h = elim (same (Object old) (Object new)) as (λ b. AreWellFormedMade (elim b [ true ↦ [] | false ↦ cs ])) [ true ↦ tt | false ↦ h ]

insert_formed : (there : Bool) (n : NsName) (id : Value) (d : Fields) → IsWellFormedDocument d → AreWellFormedMade (insert_changes there n id d)
insert_formed true n id d h = (h, tt)
insert_formed false n id d h = (tt, (h, tt))

replace_formed : (n : NsName) (id : Value) (d : Fields) (o : Option Row) → IsWellFormedDocument d → AreWellFormedMade (replace_changes n id d o)
replace_formed n id d None h = tt
replace_formed n id d (Some w) h = unless_formed w.document d (put_change n id d (entries.Whole n id d) ∷ []) (h, tt)

-- an update that is accepted is refused by neither
pub accepted_ok : (o : Option OpsFault) (x : Result Updated UpdateFault) (u : Updated) → accepted o x ≡ Some u → (o ≡ None) × (x ≡ Ok u)
accepted_ok None (Ok v) u e = (refl, cc)
accepted_ok None (Err f) u e = cc
accepted_ok (Some f) x u e = cc

update_formed : (f : Form) (n : NsName) (id : Value) (ops : Fields) (r : Rows) (o : Option Table) → map.get r.tables n ≡ o → IsWellFormedDocument ops → AreWellFormed r → AreWellFormedMade (update_changes f n id (row_in (key_of id) o) (update_of (row_in (key_of id) o) ops))
update_formed f n id ops r None e k h = tt
update_formed f n id ops r (Some t) e k h = there (row_of t.rows (key_of id)) refl
  where
    made : (w : Row) → IsWellFormedDocument w.document → (x : Option Updated) → accepted (ops_fault ops) (updated (operators ops) w.document) ≡ x → AreWellFormedMade (update_changes f n id (Some w) x)
    made w g None q = tt
    made w g (Some u) q =
        (let b = accepted_ok (ops_fault ops) (updated (operators ops) w.document) u q in
        unless_formed w.document u.doc (put_change n id u.doc (update_item f n id u.doc u.touches) ∷ []) ((updated_formed ops w.document u k g b.0 b.1).document, tt))

    there : (w : Option Row) → row_of t.rows (key_of id) ≡ w → AreWellFormedMade (update_changes f n id w (update_of w ops))
    there None g = tt
    there (Some w) g = made w (there_formed r n (key_of id) t w h e g) (accepted (ops_fault ops) (updated (operators ops) w.document)) refl

pub document_formed : (f : Form) (d : DocumentCommand) (r : Rows) → IsWellFormedChange d → AreWellFormed r → AreWellFormedMade (document_changes f d r)
document_formed f (Insert n d) r w h = under (id_of d)
  where
    under : (o : Option Value) → AreWellFormedMade (under_id (λ id. insert_changes (is_there n r) n id (id_first d)) o)
    under None = tt
    under (Some id) = insert_formed (is_there n r) n id (id_first d) (id_first_formed d w)
document_formed f (Replace n d) r w h = under (id_of d)
  where
    under : (o : Option Value) → AreWellFormedMade (under_id (λ id. replace_changes n id (id_first d) (row_at n (key_of id) r)) o)
    under None = tt
    under (Some id) = replace_formed n id (id_first d) (row_at n (key_of id) r) (id_first_formed d w)
document_formed f (Update n id ops) r w h = update_formed f n id ops r (map.get r.tables n) refl w h
document_formed f (Delete n id) r w h = (tt, tt)

together_formed : (f : Form) (ds : List DocumentCommand) (r : Rows) (all : List RecordedWrite) → AreWellFormedChanges ds → AreWellFormed r → changes_together f ds r ≡ Ok all → AreWellFormedMade all
together_formed f [] r all w h e = subst AreWellFormedMade (made_same [] all e) tt
together_formed f (d ∷ ds) r all w h e =
    (let one = document_formed f d r w.0 h in
    both one (λ more g. together_formed f ds (rows_of_changes (document_changes f d r) r) more w.1 (made_leaves (document_changes f d r) r one h) g)
    (document_refusal true d r) (changes_together f ds (rows_of_changes (document_changes f d r) r)) refl e)
  where
    both : AreWellFormedMade (document_changes f d r) → ((more : List RecordedWrite) → changes_together f ds (rows_of_changes (document_changes f d r) r) ≡ Ok more → AreWellFormedMade more) →
        (x : Option Refused) → (y : Result (List RecordedWrite) Refused) → changes_together f ds (rows_of_changes (document_changes f d r) r) ≡ y →
        and_then x (document_changes f d r) y ≡ Ok all → AreWellFormedMade all
    both one rest (Some x) y g k = cc
    both one rest None (Err x) g k = cc
    both one rest None (Ok more) g k = subst AreWellFormedMade (made_same (document_changes f d r ++ more) all k) (made_join (document_changes f d r) more one (rest more g))

each_formed : (cs : List RecordedWrite) → AreWellFormedMade cs → AreWellFormedEffects (one_each cs)
each_formed [] h = tt
each_formed (c ∷ cs) h = (h.0, each_formed cs h.1)

singles_of : (cs : List RecordedWrite) → AreWellFormedMade cs → AreWellFormedSingles (each (λ (x : RecordedWrite). x.0) cs)
singles_of [] h = tt
singles_of (c ∷ cs) h = (h.0, singles_of cs h.1)

group_formed : (cs : List RecordedWrite) → AreWellFormedMade cs → AreWellFormedEffects (group_of cs)
group_formed [] h = tt
group_formed (c ∷ cs) h = (singles_of (c ∷ cs) h, tt)

pub small_enough : (b : Bool) (ds es : List Effect) → or_too_large b ds ≡ Ok es → ds ≡ es
small_enough true ds es h = cc
small_enough false ds es h = cc

grouped_formed : (x : Result (List RecordedWrite) Refused) (ds : List Effect) → ((cs : List RecordedWrite) → x ≡ Ok cs → AreWellFormedMade cs) → grouped x ≡ Ok ds → AreWellFormedEffects ds
grouped_formed (Err x) ds h e = cc
grouped_formed (Ok cs) ds h e = subst AreWellFormedEffects (small_enough (is_too_large (group_of cs)) (group_of cs) ds e) (group_formed cs (h cs refl))

unrefused : (x : Option Refused) (ds es : List Effect) → AreWellFormedEffects ds → unless_refused x ds ≡ Ok es → AreWellFormedEffects es
unrefused (Some x) ds es h e = cc
unrefused None ds es h e = (let q : ds ≡ es = cc in subst AreWellFormedEffects q h)

index_formed : (n : NsName) (o : Option Tree) → AreWellFormedEffects (index_effects n o)
index_formed n None = tt
index_formed n (Some d) = (tt, tt)

effect_formed : (k : Command) (st : Stage) → IsWellFormedCommand k → AreWellFormed st.rows → AreWellFormedEffects (command_effects k st)
effect_formed (commands.At s) st w h = tt
effect_formed (commands.Recording f) st w h = tt
effect_formed (commands.Create n o) st w h = (tt, tt)
effect_formed (commands.DropColl n) st w h = (tt, tt)
effect_formed (commands.DropDatabase db) st w h = (tt, tt)
effect_formed (commands.Rename a b) st w h = (tt, tt)
effect_formed (commands.Document d) st w h = each_formed (document_changes st.form d st.rows) (document_formed st.form d st.rows w h)
effect_formed (commands.CreateIndex n d) st w h = index_formed n (normal_of d)
effect_formed (commands.DropIndex n k) st w h = (tt, tt)
effect_formed (commands.Txn cs) st w h = tt

pub effects_formed : (k : Command) (st : Stage) (ds : List Effect) → IsWellFormedCommand k → AreWellFormed st.rows → effects k st ≡ Ok ds → AreWellFormedEffects ds
effects_formed (commands.Txn cs) st ds w h e = grouped_formed (changes_together st.form cs st.rows) ds (λ all g. together_formed st.form cs st.rows all w h g) e
effects_formed (commands.At s) st ds w h e = unrefused (first_of (command_rows (commands.At s) st)) [] ds tt e
effects_formed (commands.Recording f) st ds w h e = unrefused (first_of (command_rows (commands.Recording f) st)) [] ds tt e
effects_formed (commands.Create n o) st ds w h e = unrefused (first_of (command_rows (commands.Create n o) st)) _ ds (effect_formed (commands.Create n o) st w h) e
effects_formed (commands.DropColl n) st ds w h e = unrefused (first_of (command_rows (commands.DropColl n) st)) _ ds (effect_formed (commands.DropColl n) st w h) e
effects_formed (commands.DropDatabase db) st ds w h e = unrefused (first_of (command_rows (commands.DropDatabase db) st)) _ ds (effect_formed (commands.DropDatabase db) st w h) e
effects_formed (commands.Rename a b) st ds w h e = unrefused (first_of (command_rows (commands.Rename a b) st)) _ ds (effect_formed (commands.Rename a b) st w h) e
effects_formed (commands.Document d) st ds w h e = unrefused (first_of (command_rows (commands.Document d) st)) _ ds (effect_formed (commands.Document d) st w h) e
effects_formed (commands.CreateIndex n d) st ds w h e = unrefused (first_of (command_rows (commands.CreateIndex n d) st)) _ ds (effect_formed (commands.CreateIndex n d) st w h) e
effects_formed (commands.DropIndex n k) st ds w h e = unrefused (first_of (command_rows (commands.DropIndex n k) st)) _ ds (effect_formed (commands.DropIndex n k) st w h) e
