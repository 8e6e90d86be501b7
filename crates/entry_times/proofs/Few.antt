-- A command makes two entries at most.
use Rattle.std.proofs.Common.{◌≡◌, ◌≤◌, List, [], ◌∷◌, length, Bool, true, false, subst, arith, Option, Some, None, Result, Ok, Err}
use Rattle.bson_value.specs.declared.namespace.NsName.{NsName}
use Rattle.bson_value.specs.declared.value.Value.{Value, Object}
use Rattle.bson_encode.specs.Key.{key_of}
use Rattle.doc_path.specs.declared.parts.Form.{Form}
use Rattle.json_tree.specs.declared.tree.Tree.{Tree}
use Rattle.coll_state.specs.Rows.{Document as Fields, Row, Rows, id_of}
use Rattle.update_model.specs.declared.updated.Updated.{Updated}
use Rattle.update_model.specs.Equality.{same}
use Rattle.schedule_model.specs.declared.command.DocumentCommand.{DocumentCommand}
use Rattle.schedule_model.specs.declared.command.DocumentCommand.TheVariants.{Insert, Replace, Update, Delete}
use Rattle.schedule_model.specs.declared.command.Command.{Command}
use Rattle.schedule_model.specs.declared.command.Command.TheVariants as commands
use Rattle.schedule_model.specs.declared.refused.Refused.{Refused}
use Rattle.history_model.specs.Documents.{id_first, normal_of}
use Rattle.history_model.specs.Entries.{update_item}
use Rattle.history_model.specs.Entries as entries
use Rattle.history_model.specs.Stages.{Stage, Effect}
use Rattle.history_model.specs.Refusals.{is_there, row_at, update_of, first_of}
use Rattle.history_model.specs.Commands.{RecordedWrite, put_change, unless_same, update_changes, replace_changes, insert_changes, under_id, document_changes, changes_together, group_of, is_too_large, or_too_large, grouped, one_each, unless_refused, index_effects, command_rows, command_effects, effects}

abbrev AreFew : List RecordedWrite → Type 0
AreFew cs = length cs ≤ 2

unless_few : (old new : Fields) (cs : List RecordedWrite) → length cs ≤ 2 → length (unless_same old new cs) ≤ 2
unless_few old new cs h = elim (same (Object old) (Object new)) as (λ b. AreFew (elim b [ true ↦ [] | false ↦ cs ])) [ true ↦ omega arith | false ↦ h ]

insert_few : (b : Bool) (n : NsName) (id : Value) (d : Fields) → length (insert_changes b n id d) ≤ 2
insert_few true n id d = omega arith
insert_few false n id d = omega arith

replace_few : (n : NsName) (id : Value) (d : Fields) (o : Option Row) → length (replace_changes n id d o) ≤ 2
replace_few n id d None = omega arith
replace_few n id d (Some row) = unless_few row.document d (put_change n id d (entries.Whole n id d) ∷ []) (omega arith)

update_few : (f : Form) (n : NsName) (id : Value) (o : Option Row) (u : Option Updated) → length (update_changes f n id o u) ≤ 2
update_few f n id None u = omega arith
update_few f n id (Some row) None = omega arith
update_few f n id (Some row) (Some u) = unless_few row.document u.doc (put_change n id u.doc (update_item f n id u.doc u.touches) ∷ []) (omega arith)

under_few : (g : Value → List RecordedWrite) (o : Option Value) → ((id : Value) → length (g id) ≤ 2) → length (under_id g o) ≤ 2
under_few g None h = omega arith
under_few g (Some id) h = h id

changes_few : (f : Form) (c : DocumentCommand) (r : Rows) → length (document_changes f c r) ≤ 2
changes_few f (Insert n d) r = under_few (λ id. insert_changes (is_there n r) n id (id_first d)) (id_of d) (λ id. insert_few (is_there n r) n id (id_first d))
changes_few f (Replace n d) r = under_few (λ id. replace_changes n id (id_first d) (row_at n (key_of id) r)) (id_of d) (λ id. replace_few n id (id_first d) (row_at n (key_of id) r))
changes_few f (Update n id ops) r = update_few f n id (row_at n (key_of id) r) (update_of (row_at n (key_of id) r) ops)
changes_few f (Delete n id) r = omega arith

each_same : (cs : List RecordedWrite) → length (one_each cs) ≡ length cs
each_same [] = omega arith
each_same (c ∷ cs) = omega (arith, each_same cs)

index_few : (n : NsName) (o : Option Tree) → length (index_effects n o) ≤ 2
index_few n None = omega arith
index_few n (Some d) = omega arith

command_few : (k : Command) (st : Stage) → length (command_effects k st) ≤ 2
command_few (commands.At s) st = omega arith
command_few (commands.Recording f) st = omega arith
command_few (commands.Create n o) st = omega arith
command_few (commands.DropColl n) st = omega arith
command_few (commands.DropDatabase db) st = omega arith
command_few (commands.Rename a b) st = omega arith
command_few (commands.Document d) st = omega (arith, each_same (document_changes st.form d st.rows), changes_few st.form d st.rows)
command_few (commands.CreateIndex n d) st = index_few n (normal_of d)
command_few (commands.DropIndex n i) st = omega arith
command_few (commands.Txn ds) st = omega arith

abbrev Answer : Type 0
Answer = Result (List Effect) Refused

same_list : (ds es : List Effect) → ◌≡◌ {A = Answer} (Ok ds) (Ok es) → length ds ≤ 2 → length es ≤ 2
same_list ds es e h = let q : ds ≡ es = cc in subst (λ (l : List Effect). length l ≤ 2) q h

told : (x : Option Refused) (ds es : List Effect) → unless_refused x ds ≡ Ok es → length ds ≤ 2 → length es ≤ 2
told (Some x) ds es e h = absurd cc
told None ds es e h = same_list ds es e h

group_few : (cs : List RecordedWrite) → length (group_of cs) ≤ 2
group_few [] = omega arith
group_few (c ∷ cs) = omega arith

grouped_few : (x : Result (List RecordedWrite) Refused) (ds : List Effect) → grouped x ≡ Ok ds → length ds ≤ 2
grouped_few (Err x) ds e = absurd cc
grouped_few (Ok cs) ds e = by (is_too_large (group_of cs)) e
  where
    by : (b : Bool) → or_too_large b (group_of cs) ≡ Ok ds → length ds ≤ 2
    by true q = absurd cc
    by false q = same_list (group_of cs) ds q (group_few cs)

pub effects_few : (k : Command) (st : Stage) (ds : List Effect) → effects k st ≡ Ok ds → length ds ≤ 2
effects_few (commands.Txn cs) st ds e = grouped_few (changes_together st.form cs st.rows) ds e
effects_few (commands.At s) st ds e = told (first_of (command_rows (commands.At s) st)) (command_effects (commands.At s) st) ds e (command_few (commands.At s) st)
effects_few (commands.Recording f) st ds e = told (first_of (command_rows (commands.Recording f) st)) (command_effects (commands.Recording f) st) ds e (command_few (commands.Recording f) st)
effects_few (commands.Create n o) st ds e = told (first_of (command_rows (commands.Create n o) st)) (command_effects (commands.Create n o) st) ds e (command_few (commands.Create n o) st)
effects_few (commands.DropColl n) st ds e = told (first_of (command_rows (commands.DropColl n) st)) (command_effects (commands.DropColl n) st) ds e (command_few (commands.DropColl n) st)
effects_few (commands.DropDatabase db) st ds e = told (first_of (command_rows (commands.DropDatabase db) st)) (command_effects (commands.DropDatabase db) st) ds e (command_few (commands.DropDatabase db) st)
effects_few (commands.Rename a b) st ds e = told (first_of (command_rows (commands.Rename a b) st)) (command_effects (commands.Rename a b) st) ds e (command_few (commands.Rename a b) st)
effects_few (commands.Document d) st ds e = told (first_of (command_rows (commands.Document d) st)) (command_effects (commands.Document d) st) ds e (command_few (commands.Document d) st)
effects_few (commands.CreateIndex n d) st ds e = told (first_of (command_rows (commands.CreateIndex n d) st)) (command_effects (commands.CreateIndex n d) st) ds e (command_few (commands.CreateIndex n d) st)
effects_few (commands.DropIndex n i) st ds e = told (first_of (command_rows (commands.DropIndex n i) st)) (command_effects (commands.DropIndex n i) st) ds e (command_few (commands.DropIndex n i) st)
