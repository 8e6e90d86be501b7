-- Indexes hold behind each write of a command.
use Rattle.std.proofs.Common.{◌≡◌, List, [], ◌∷◌, Bool, true, false, cond, refl, sym, ◌∙◌, subst, Option, Some, None, Result, Ok, Err}
use Rattle.std.specs.Prelude.{⊤}
use Rattle.std.specs.FinMap as map
use Rattle.bson_value.specs.declared.namespace.NsName.{NsName}
use Rattle.bson_value.specs.declared.value.Value.{Value, Object}
use Rattle.json_tree.specs.declared.tree.Tree.{Tree}
use Rattle.doc_path.specs.declared.parts.Form.{Form}
use Rattle.state_model.specs.Keys.{key_cmp, same_ns}
use Rattle.state_model.proofs.Maps.{ns_at_insert}
use Rattle.coll_state.specs.Rows.{Document as Fields, Row, Rows, id_of}
use Rattle.coll_state.specs.Changes.{fresh_table, create}
use Rattle.update_model.specs.declared.updated.Updated.{Updated}
use Rattle.update_model.specs.Equality.{same}
use Rattle.schedule_model.specs.declared.command.DocumentCommand.{DocumentCommand}
use Rattle.schedule_model.specs.declared.command.DocumentCommand.TheVariants.{Insert, Replace, Update, Delete}
use Rattle.schedule_model.specs.declared.command.Command.{Command}
use Rattle.schedule_model.specs.declared.command.Command.TheVariants.{At, Recording, Create, DropColl, DropDatabase, Rename, Document, CreateIndex, DropIndex, Txn}
use Rattle.schedule_model.specs.declared.refused.Refused.{Refused}
use Rattle.copy_model.specs.Writes.{SingleWrite, change_rows}
use Rattle.copy_model.specs.Writes as writes
use Rattle.bson_encode.specs.Key.{key_of}
use Rattle.history_model.specs.Documents.{id_first, normal_of}
use Rattle.history_model.specs.Entries.{update_item}
use Rattle.history_model.specs.Entries as entries
use Rattle.history_model.specs.Stages.{Write, Stage, Effect, Made, Single, rows_by, stage_by, stage_after, made_in}
use Rattle.history_model.specs.Refusals.{is_there, row_at, update_of, first_of}
use Rattle.history_model.specs.Commands.{RecordedWrite, put_change, unless_same, update_changes, replace_changes, insert_changes, under_id, document_changes, changes_together, group_of, is_too_large, grouped, one_each, unless_refused, index_effects, command_rows, command_effects, effects, set_by, answered, applied}
use Rattle.history_model.specs.Indexes.{IndexesOf, IndexesHold}
use Rattle.history_model.proofs.Accepted.{same_ok}
use Rattle.history_model.proofs.Inductive.{told_same}
use Rattle.coll_state.proofs.Sound.{some_table as same_table}
use Rattle.history_model.proofs.IndexesHeld.{no_tree}
use Rattle.history_model.proofs.WellFormed.{small_enough as or_large}

-- ---- before the first write, between each two, and behind the last

abbrev pub HoldThrough : List Made → Rows → Type 0
HoldThrough [] r = IndexesHold r
HoldThrough (m ∷ ms) r = IndexesHold r × HoldThrough ms (rows_by m.write r)

-- ---- each but the last makes a collection, which has no index yet

abbrev IsCreate : SingleWrite → Type 0
IsCreate (writes.Create n o) = ⊤
IsCreate _ = ⊥

abbrev Makes : Write → Type 0
Makes (Single w) = IsCreate w
Makes _ = ⊥

abbrev AllButLastMake : List Effect → Type 0
AllButLastMake [] = ⊤
AllButLastMake (d ∷ []) = ⊤
AllButLastMake (d ∷ (e ∷ ds)) = Makes d.0 × AllButLastMake (e ∷ ds)

created_holds : (n : NsName) (o : Tree) (r : Rows) → IndexesHold r → IndexesHold (create n o r)
created_holds n o r h m t e = by (same_ns m n) (sym (ns_at_insert r.tables n (fresh_table r.count o) m) ∙ e)
  where
    by : (b : Bool) → cond b (Some (fresh_table r.count o)) (map.get r.tables m) ≡ Some t → IndexesOf t
    by true f = subst IndexesOf (same_table (fresh_table r.count o) t f) (λ i d g. no_tree d (sym (map.get-empty {X = Tree} key_cmp i) ∙ g))
    by false f = h m t f

create_holds : (w : SingleWrite) (r : Rows) → IsCreate w → IndexesHold r → IndexesHold (change_rows w r)
create_holds (writes.Create n o) r k h = created_holds n o r h
create_holds _ r k h = absurd k

makes_holds : (w : Write) (r : Rows) → Makes w → IndexesHold r → IndexesHold (rows_by w r)
makes_holds (Single w) r k h = create_holds w r k h
makes_holds _ r k h = absurd k

effects_through : (ds : List Effect) (st : Stage) → AllButLastMake ds → IndexesHold st.rows → IndexesHold (stage_after ds st).rows → HoldThrough (made_in ds st) st.rows
effects_through [] st k h g = h
effects_through (d ∷ []) st k h g = (h, g)
effects_through (d ∷ (e ∷ ds)) st k h g = (h, effects_through (e ∷ ds) (stage_by d st) k.1 (makes_holds d.0 st.rows k.0 h) g)

-- ---- what commands make

one_put : (c : RecordedWrite) → AllButLastMake (one_each (c ∷ []))
one_put c = tt

unless_put : (old new : Fields) (c : RecordedWrite) → AllButLastMake (one_each (unless_same old new (c ∷ [])))
unless_put old new c = elim (same (Object old) (Object new)) as (λ b. AllButLastMake (one_each (elim b [ true ↦ [] | false ↦ c ∷ [] ]))) [ true ↦ tt | false ↦ tt ]

insert_makes : (b : Bool) (n : NsName) (id : Value) (d : Fields) → AllButLastMake (one_each (insert_changes b n id d))
insert_makes true n id d = tt
insert_makes false n id d = (tt, tt)

replace_makes : (n : NsName) (id : Value) (d : Fields) (o : Option Row) → AllButLastMake (one_each (replace_changes n id d o))
replace_makes n id d None = tt
replace_makes n id d (Some row) = unless_put row.document d (put_change n id d (entries.Whole n id d))

update_makes : (f : Form) (n : NsName) (id : Value) (o : Option Row) (u : Option Updated) → AllButLastMake (one_each (update_changes f n id o u))
update_makes f n id None u = tt
update_makes f n id (Some row) None = tt
update_makes f n id (Some row) (Some u) = unless_put row.document u.doc (put_change n id u.doc (update_item f n id u.doc u.touches))

document_makes : (f : Form) (c : DocumentCommand) (r : Rows) → AllButLastMake (one_each (document_changes f c r))
document_makes f (Insert n d) r = by (id_of d)
  where
    by : (o : Option Value) → AllButLastMake (one_each (under_id (λ id. insert_changes (is_there n r) n id (id_first d)) o))
    by None = tt
    by (Some id) = insert_makes (is_there n r) n id (id_first d)
document_makes f (Replace n d) r = by (id_of d)
  where
    by : (o : Option Value) → AllButLastMake (one_each (under_id (λ id. replace_changes n id (id_first d) (row_at n (key_of id) r)) o))
    by None = tt
    by (Some id) = replace_makes n id (id_first d) (row_at n (key_of id) r)
document_makes f (Update n id ops) r = update_makes f n id (row_at n (key_of id) r) (update_of (row_at n (key_of id) r) ops)
document_makes f (Delete n id) r = tt

index_makes : (n : NsName) (o : Option Tree) → AllButLastMake (index_effects n o)
index_makes n None = tt
index_makes n (Some d) = tt

command_makes : (k : Command) (st : Stage) → AllButLastMake (command_effects k st)
command_makes (At s) st = tt
command_makes (Recording f) st = tt
command_makes (Create n o) st = tt
command_makes (DropColl n) st = tt
command_makes (DropDatabase db) st = tt
command_makes (Rename a b) st = tt
command_makes (Document d) st = document_makes st.form d st.rows
command_makes (CreateIndex n d) st = index_makes n (normal_of d)
command_makes (DropIndex n i) st = tt
command_makes (Txn ds) st = tt

group_makes : (cs : List RecordedWrite) → AllButLastMake (group_of cs)
group_makes [] = tt
group_makes (c ∷ cs) = tt

grouped_makes : (x : Result (List RecordedWrite) Refused) (ds : List Effect) → grouped x ≡ Ok ds → AllButLastMake ds
grouped_makes (Err x) ds e = cc
grouped_makes (Ok cs) ds e = subst AllButLastMake (or_large (is_too_large (group_of cs)) (group_of cs) ds e) (group_makes cs)

unless_makes : (x : Option Refused) (ds es : List Effect) → unless_refused x ds ≡ Ok es → AllButLastMake ds → AllButLastMake es
unless_makes (Some x) ds es h k = cc
unless_makes None ds es h k = (let same : ds ≡ es = cc in subst AllButLastMake same k)

refused_makes : (k : Command) (st : Stage) (ds : List Effect) → unless_refused (first_of (command_rows k st)) (command_effects k st) ≡ Ok ds → AllButLastMake ds
refused_makes k st ds e = unless_makes (first_of (command_rows k st)) (command_effects k st) ds e (command_makes k st)

effects_make : (k : Command) (st : Stage) (ds : List Effect) → effects k st ≡ Ok ds → AllButLastMake ds
effects_make (Txn cs) st ds e = grouped_makes (changes_together st.form cs st.rows) ds e
effects_make (At s) st ds e = refused_makes (At s) st ds e
effects_make (Recording f) st ds e = refused_makes (Recording f) st ds e
effects_make (Create n o) st ds e = refused_makes (Create n o) st ds e
effects_make (DropColl n) st ds e = refused_makes (DropColl n) st ds e
effects_make (DropDatabase db) st ds e = refused_makes (DropDatabase db) st ds e
effects_make (Rename a b) st ds e = refused_makes (Rename a b) st ds e
effects_make (Document d) st ds e = refused_makes (Document d) st ds e
effects_make (CreateIndex n d) st ds e = refused_makes (CreateIndex n d) st ds e
effects_make (DropIndex n i) st ds e = refused_makes (DropIndex n i) st ds e

-- through the writes of a command that isn't refused
pub applied_through : (k : Command) (st : Stage) (x : Stage × List Made) → applied k st ≡ Ok x → IndexesHold st.rows → IndexesHold x.0.rows → HoldThrough x.1 st.rows
applied_through k st x e h g = by (effects k st) refl e
  where
    by : (y : Result (List Effect) Refused) → effects k st ≡ y → answered (set_by k st) y ≡ Ok x → HoldThrough x.1 st.rows
    by (Err z) f u = cc
    by (Ok ds) f u =
        (let now = same_ok (stage_after ds (set_by k st), made_in ds (set_by k st)) x u in
        let on = told_same k st in
        subst (λ (z : Stage × List Made). HoldThrough z.1 st.rows) now
        (subst (λ (z : Rows). HoldThrough (made_in ds (set_by k st)) z) on
        (effects_through ds (set_by k st) (effects_make k st ds f) (subst IndexesHold (sym on) h) (subst (λ (z : Stage × List Made). IndexesHold z.0.rows) (sym now) g))))
