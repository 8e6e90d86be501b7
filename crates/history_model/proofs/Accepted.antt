-- What a command makes where no row refuses it is recorded on the rows before it.
use Rattle.std.proofs.Common.{◌≡◌, List, [], ◌∷◌, ◌++◌, Bool, true, false, not, refl, sym, ap, ◌∙◌, subst, Option, Some, None, Result, Ok, Err, inl, inr}
use Rattle.std.specs.Prelude.{⊤, option_map, is_some, map as each}
use Rattle.std.specs.FinMap as map
use Rattle.bson_value.specs.declared.namespace.NsName.{NsName}
use Rattle.bson_value.specs.declared.value.Value.{Value, Object}
use Rattle.bson_value.specs.Place.{shape}
use Rattle.bson_encode.specs.Key.{key_of}
use Rattle.json_tree.specs.declared.tree.Tree.{Tree}
use Rattle.doc_path.specs.declared.parts.Form.{Form}
use Rattle.doc_path.specs.declared.touches.Touch.{Touch}
use Rattle.doc_path.specs.Played.{touch_of}
use Rattle.doc_path.proofs.Steps.{shape-object}
use Rattle.state_model.specs.Keys.{Key}
use Rattle.state_model.specs.States.{Collection}
use Rattle.state_model.specs.Moves.{Move}
use Rattle.state_model.specs.Moves as moves
use Rattle.state_model.specs.Fits.{IsThere}
use Rattle.state_model.proofs.Maps.{ns_insert_here}
use Rattle.coll_state.specs.Rows.{Document as Fields, Row, Rows, Table, row_of, AreSound, id_of, collection_of, state_of}
use Rattle.coll_state.specs.Changes.{fresh_table, create}
use Rattle.coll_state.proofs.Links.{get_collection, get_document}
use Rattle.update_model.specs.declared.updated.Updated.{Updated}
use Rattle.update_model.specs.Equality.{same}
use Rattle.update_model.specs.Reading.{operators, ops_fault}
use Rattle.update_model.specs.Updating.{updated}
use Rattle.schedule_model.specs.declared.command.DocumentCommand.{DocumentCommand}
use Rattle.schedule_model.specs.declared.command.DocumentCommand.TheVariants.{Insert, Replace, Update, Delete}
use Rattle.schedule_model.specs.declared.command.Command.{Command}
use Rattle.schedule_model.specs.declared.command.Command.TheVariants.{At, Recording, Create, DropColl, DropDatabase, Rename, Document, CreateIndex, DropIndex, Txn}
use Rattle.schedule_model.specs.declared.refused.Refused.{Refused}
use Rattle.copy_model.specs.Writes.{IsRecorded, PutInIsRecorded, PutIsRecorded, change_rows}
use Rattle.copy_model.specs.Writes as writes
use Rattle.copy_model.proofs.RowWrites.{change_sound}
use Rattle.history_model.specs.Documents.{id_first, options_of, normal_of}
use Rattle.update_action.specs.Recorded.{recorded}
use Rattle.history_model.specs.Entries.{Item, item_moves, delta_or_whole, update_item}
use Rattle.history_model.specs.Entries as entries
use Rattle.history_model.specs.Stages.{Stage, Effect, rows_by, stage_by, made_in}
use Rattle.history_model.specs.Refusals.{first_of, document_rows, document_refusal, index_rows, row_in, row_at, row_named, accepted, update_of}
use Rattle.history_model.specs.Commands.{RecordedWrite, put_change, unless_same, update_changes, replace_changes, insert_changes, under_id, document_changes, rows_of_changes, and_then, changes_together, group_of, is_too_large, grouped, one_each, unless_refused, index_effects, command_rows, command_effects, effects}
use Rattle.history_model.specs.Recordings.{EachRecorded, IsRecordedBy, AllMade}
use Rattle.bson_value.specs.WellFormed.{IsWellFormedDocument}
use Rattle.update_records.specs.Laws.{AreRecorded, UpdatesRecord}
use Rattle.history_model.specs.WellFormed.{AreWellFormed, IsWellFormedChange, AreWellFormedChanges, IsWellFormedCommand}
use Rattle.history_model.proofs.WellFormed.{accepted_ok, there_formed, made_leaves, document_formed, small_enough as not_too_large}

-- where nothing is refused no condition holds
abbrev pub AllFalse : List (Bool × Refused) → Type 0
AllFalse [] = ⊤
AllFalse (e ∷ es) = (e.0 ≡ false) × AllFalse es

pub all_false : (es : List (Bool × Refused)) → first_of es ≡ None → AllFalse es
all_false [] h = tt
all_false (e ∷ es) h = one e.0 (all_false es) h
  where
    one : (b : Bool) → (first_of es ≡ None → AllFalse es) → elim b as (λ b. Option Refused) [ true ↦ Some e.1 | false ↦ first_of es ] ≡ None → (b ≡ false) × AllFalse es
    one true rest g = cc
    one false rest g = (refl, rest g)

-- changes one after the other, each recorded by its item
abbrev pub ChangesOk : List RecordedWrite → Rows → Type 0
ChangesOk [] r = ⊤
ChangesOk (c ∷ cs) r = IsRecorded c.0 (state_of r) (item_moves c.1) × ChangesOk cs (change_rows c.0 r)

-- a put on a collection that is there
pub put_recorded : (n : NsName) (k : Key) (d : Fields) (ms : List Move) (r : Rows) (t : Table) → map.get r.tables n ≡ Some t → PutIsRecorded n k d (option_map (λ (x : Row). Object x.document) (row_of t.rows k)) ms → IsRecorded (writes.Put n k d) (state_of r) ms
put_recorded n k d ms r t e h =
    subst (λ (o : Option Collection). PutInIsRecorded n k d o ms) (sym (get_collection r n ∙ ap (option_map collection_of) e)) (subst (λ (o : Option Value). PutIsRecorded n k d o ms) (sym (get_document t k)) h)

same_shape : (d e : Fields) → shape (Object d) ≡ shape (Object e)
same_shape d e = shape-object d ∙ sym (shape-object e)

-- the row that a document's `_id` names
abbrev row_found : Option Value → Option Table → Option Row
row_found None u = None
row_found (Some id) u = row_in (key_of id) u

insert_ok : (n : NsName) (d : Fields) (r : Rows) (o : Option Value) (u : Option Table) → map.get r.tables n ≡ u → is_some (row_found o u) ≡ false → ChangesOk (under_id (λ id. insert_changes (is_some u) n id d) o) r
insert_ok n d r None u e h = tt
insert_ok n d r (Some id) None e h =
    (refl, (put_recorded n (key_of id) d (moves.Put n (key_of id) (Object d) ∷ []) (create n (options_of []) r) (fresh_table r.count (options_of [])) (ns_insert_here r.tables n (fresh_table r.count (options_of []))) refl, tt))
insert_ok n d r (Some id) (Some t) e h = (put_recorded n (key_of id) d (moves.Put n (key_of id) (Object d) ∷ []) r t e (fresh (row_of t.rows (key_of id)) h), tt)
  where
    fresh : (w : Option Row) → is_some w ≡ false → PutIsRecorded n (key_of id) d (option_map (λ (x : Row). Object x.document) w) (moves.Put n (key_of id) (Object d) ∷ [])
    fresh None g = refl
    fresh (Some w) g = cc

unless_ok : (old new : Fields) (cs : List RecordedWrite) (r : Rows) → ChangesOk cs r → ChangesOk (unless_same old new cs) r
unless_ok old new cs r h = elim (same (Object old) (Object new)) as (λ b. ChangesOk (elim b [ true ↦ [] | false ↦ cs ]) r) [ true ↦ tt | false ↦ h ]

-- a put in the place of the document of a row
put_over : (n : NsName) (id : Value) (d : Fields) (i : Item) (r : Rows) (t : Table) (w : Row) → map.get r.tables n ≡ Some t → row_of t.rows (key_of id) ≡ Some w → PutIsRecorded n (key_of id) d (Some (Object w.document)) (item_moves i) → ChangesOk (put_change n id d i ∷ []) r
put_over n id d i r t w e f h =
    (put_recorded n (key_of id) d (item_moves i) r t e (subst (λ (z : Option Row). PutIsRecorded n (key_of id) d (option_map (λ (x : Row). Object x.document) z) (item_moves i)) (sym f) h), tt)

replace_ok : (n : NsName) (id : Value) (d : Fields) (r : Rows) (u : Option Table) → map.get r.tables n ≡ u → ChangesOk (replace_changes n id d (row_in (key_of id) u)) r
replace_ok n id d r None e = tt
replace_ok n id d r (Some t) e = there (row_of t.rows (key_of id)) refl
  where
    there : (w : Option Row) → row_of t.rows (key_of id) ≡ w → ChangesOk (replace_changes n id d w) r
    there None f = tt
    there (Some w) f = unless_ok w.document d (put_change n id d (entries.Whole n id d) ∷ []) r (put_over n id d (entries.Whole n id d) r t w e f (inl (refl, same_shape d w.document)))

update_ok : UpdatesRecord → (f : Form) (n : NsName) (id : Value) (ops : Fields) (r : Rows) (u : Option Table) → map.get r.tables n ≡ u → IsWellFormedDocument ops → AreWellFormed r → ChangesOk (update_changes f n id (row_in (key_of id) u) (update_of (row_in (key_of id) u) ops)) r
update_ok are_recorded f n id ops r None e k h = tt
update_ok are_recorded f n id ops r (Some t) e k formed = there (row_of t.rows (key_of id)) refl
  where
    entry : (w : Row) (u : Updated) (o : Option (Form × List Touch)) → AreRecorded o w.document u.doc → PutIsRecorded n (key_of id) u.doc (Some (Object w.document)) (item_moves (delta_or_whole n id u.doc o))
    entry w u None h = inl (refl, same_shape u.doc w.document)
    entry w u (Some x) h = inr (record { form = x.0; touches = each touch_of x.1; deltas_of = refl; none_left = h.0; records = h.1 })

    told : (w : Row) (u : Updated) → row_of t.rows (key_of id) ≡ Some w → accepted (ops_fault ops) (updated (operators ops) w.document) ≡ Some u → AreRecorded (recorded f u.doc u.touches) w.document u.doc
    told w u q g = (let b = accepted_ok (ops_fault ops) (updated (operators ops) w.document) u g in are_recorded f w.document ops u (there_formed r n (key_of id) t w formed e q) k b.0 b.1)

    made : (w : Row) → row_of t.rows (key_of id) ≡ Some w → (x : Option Updated) → accepted (ops_fault ops) (updated (operators ops) w.document) ≡ x → ChangesOk (update_changes f n id (Some w) x) r
    made w g None h = tt
    made w g (Some u) h =
        unless_ok w.document u.doc (put_change n id u.doc (update_item f n id u.doc u.touches) ∷ []) r
        (put_over n id u.doc (update_item f n id u.doc u.touches) r t w e g (entry w u (recorded f u.doc u.touches) (told w u g h)))

    there : (w : Option Row) → row_of t.rows (key_of id) ≡ w → ChangesOk (update_changes f n id w (update_of w ops)) r
    there None g = tt
    there (Some w) g = made w g (accepted (ops_fault ops) (updated (operators ops) w.document)) refl

pub document_ok : UpdatesRecord → (f : Form) (in_txn : Bool) (d : DocumentCommand) (r : Rows) → IsWellFormedChange d → AreWellFormed r → document_refusal in_txn d r ≡ None → ChangesOk (document_changes f d r) r
document_ok recorded f in_txn (Insert n d) r w formed h = insert_ok n (id_first d) r (id_of d) (map.get r.tables n) refl (named_false (id_of d) (all_false (document_rows in_txn (Insert n d) r) h).1.0)
  where
    named_false : (o : Option Value) → is_some (row_named n o r) ≡ false → is_some (row_found o (map.get r.tables n)) ≡ false
    named_false None g = refl
    named_false (Some id) g = g
document_ok recorded f in_txn (Replace n d) r w formed h = under (id_of d)
  where
    under : (o : Option Value) → ChangesOk (under_id (λ id. replace_changes n id (id_first d) (row_at n (key_of id) r)) o) r
    under None = tt
    under (Some id) = replace_ok n id (id_first d) r (map.get r.tables n) refl
document_ok recorded f in_txn (Update n id ops) r w formed h = update_ok recorded f n id ops r (map.get r.tables n) refl w formed
document_ok recorded f in_txn (Delete n id) r w formed h = (refl, tt)

-- changes one after the other
pub changes_sound : (cs : List RecordedWrite) (r : Rows) → AreSound r → AreSound (rows_of_changes cs r)
changes_sound [] r ok = ok
changes_sound (c ∷ cs) r ok = changes_sound cs (change_rows c.0 r) (change_sound c.0 r ok)

changes_joined : (cs more : List RecordedWrite) (r : Rows) → ChangesOk cs r → ChangesOk more (rows_of_changes cs r) → ChangesOk (cs ++ more) r
changes_joined [] more r a b = b
changes_joined (c ∷ cs) more r a b = (a.0, changes_joined cs more (change_rows c.0 r) a.1 b)

abbrev pub Answer : Type 0 → Type 0
Answer A = Result A Refused

pub same_ok : {A : Type 0} (a b : A) → ◌≡◌ {A = Answer A} (Ok a) (Ok b) → a ≡ b
same_ok a b e = cc

together_ok : UpdatesRecord → (f : Form) (ds : List DocumentCommand) (r : Rows) (all : List RecordedWrite) → AreWellFormedChanges ds → AreWellFormed r → changes_together f ds r ≡ Ok all → ChangesOk all r
together_ok recorded f [] r all w formed h = subst (λ (z : List RecordedWrite). ChangesOk z r) (same_ok [] all h) tt
together_ok recorded f (d ∷ ds) r all w formed h =
    both (λ more g. together_ok recorded f ds (rows_of_changes (document_changes f d r) r) more w.1 (made_leaves (document_changes f d r) r (document_formed f d r w.0 formed) formed) g)
    (document_refusal true d r) refl (changes_together f ds (rows_of_changes (document_changes f d r) r)) refl h
  where
    both : ((more : List RecordedWrite) → changes_together f ds (rows_of_changes (document_changes f d r) r) ≡ Ok more → ChangesOk more (rows_of_changes (document_changes f d r) r)) →
        (x : Option Refused) → document_refusal true d r ≡ x → (y : Result (List RecordedWrite) Refused) → changes_together f ds (rows_of_changes (document_changes f d r) r) ≡ y →
        and_then x (document_changes f d r) y ≡ Ok all → ChangesOk all r
    both rest (Some x) e y g k = cc
    both rest None e (Err x) g k = cc
    both rest None e (Ok more) g k =
        (let one = document_ok recorded f true d r w.0 formed e in
        subst (λ (z : List RecordedWrite). ChangesOk z r) (same_ok (document_changes f d r ++ more) all k) (changes_joined (document_changes f d r) more r one (rest more g)))

-- what a command makes, each recorded on the rows before it
abbrev pub EffectsOk : List Effect → Rows → Type 0
EffectsOk [] r = ⊤
EffectsOk (d ∷ ds) r = IsRecordedBy d.0 d.1 r × EffectsOk ds (rows_by d.0 r)

one_each_ok : (cs : List RecordedWrite) (r : Rows) → ChangesOk cs r → EffectsOk (one_each cs) r
one_each_ok [] r h = tt
one_each_ok (c ∷ cs) r h = (h.0, one_each_ok cs (change_rows c.0 r) h.1)

each_ok : (cs : List RecordedWrite) (r : Rows) → ChangesOk cs r → EachRecorded (each (λ (x : RecordedWrite). x.0) cs) (each (λ (x : RecordedWrite). x.1) cs) r
each_ok [] r h = tt
each_ok (c ∷ cs) r h = (h.0, each_ok cs (change_rows c.0 r) h.1)

group_ok : (cs : List RecordedWrite) (r : Rows) → ChangesOk cs r → EffectsOk (group_of cs) r
group_ok [] r h = tt
group_ok (c ∷ cs) r h = (each_ok (c ∷ cs) r h, tt)

grouped_ok : (x : Result (List RecordedWrite) Refused) (r : Rows) (ds : List Effect) → ((cs : List RecordedWrite) → x ≡ Ok cs → ChangesOk cs r) → grouped x ≡ Ok ds → EffectsOk ds r
grouped_ok (Err x) r ds h e = cc
grouped_ok (Ok cs) r ds h e = subst (λ (z : List Effect). EffectsOk z r) (not_too_large (is_too_large (group_of cs)) (group_of cs) ds e) (group_ok cs r (h cs refl))

-- what isn't refused, and that it isn't
pub refused_none : (x : Option Refused) (ds es : List Effect) → unless_refused x ds ≡ Ok es → (x ≡ None) × (ds ≡ es)
refused_none (Some x) ds es h = cc
refused_none None ds es h = (refl, cc)

told_by : (x : Option Refused) (ds es : List Effect) (r : Rows) → (x ≡ None → EffectsOk ds r) → unless_refused x ds ≡ Ok es → EffectsOk es r
told_by x ds es r h e = subst (λ (z : List Effect). EffectsOk z r) (refused_none x ds es e).1 (h (refused_none x ds es e).0)

is_found : (n : NsName) (r : Rows) (u : Option Table) → map.get r.tables n ≡ u → not (is_some u) ≡ false → IsThere (map.get (state_of r) n)
is_found n r None e h = cc
is_found n r (Some t) e h = subst IsThere (sym (get_collection r n ∙ ap (option_map collection_of) e)) tt

index_ok : (n : NsName) (o : Option Tree) (r : Rows) → IsThere (map.get (state_of r) n) → EffectsOk (index_effects n o) r
index_ok n None r h = tt
index_ok n (Some d) r h = ((refl, h), tt)

effect_ok : UpdatesRecord → (k : Command) (st : Stage) → IsWellFormedCommand k → AreWellFormed st.rows → first_of (command_rows k st) ≡ None → EffectsOk (command_effects k st) st.rows
effect_ok recorded (At s) st w formed e = tt
effect_ok recorded (Recording f) st w formed e = tt
effect_ok recorded (Create n o) st w formed e = (refl, tt)
effect_ok recorded (DropColl n) st w formed e = (refl, tt)
effect_ok recorded (DropDatabase db) st w formed e = (refl, tt)
effect_ok recorded (Rename a b) st w formed e = ((refl, refl), tt)
effect_ok recorded (Document d) st w formed e = one_each_ok (document_changes st.form d st.rows) st.rows (document_ok recorded st.form false d st.rows w formed e)
effect_ok recorded (CreateIndex n d) st w formed e = index_ok n (normal_of d) st.rows (is_found n st.rows (map.get st.rows.tables n) refl (all_false (index_rows n d st.rows) e).0)
effect_ok recorded (DropIndex n k) st w formed e = (refl, tt)
effect_ok recorded (Txn cs) st w formed e = tt

pub command_ok : UpdatesRecord → (k : Command) (st : Stage) (ds : List Effect) → IsWellFormedCommand k → AreWellFormed st.rows → effects k st ≡ Ok ds → EffectsOk ds st.rows
command_ok recorded (Txn cs) st ds w formed h = grouped_ok (changes_together st.form cs st.rows) st.rows ds (λ all e. together_ok recorded st.form cs st.rows all w formed e) h
command_ok recorded (At s) st ds w formed h = told_by (first_of (command_rows (At s) st)) (command_effects (At s) st) ds st.rows (effect_ok recorded (At s) st w formed) h
command_ok recorded (Recording f) st ds w formed h = told_by (first_of (command_rows (Recording f) st)) (command_effects (Recording f) st) ds st.rows (effect_ok recorded (Recording f) st w formed) h
command_ok recorded (Create n o) st ds w formed h = told_by (first_of (command_rows (Create n o) st)) (command_effects (Create n o) st) ds st.rows (effect_ok recorded (Create n o) st w formed) h
command_ok recorded (DropColl n) st ds w formed h = told_by (first_of (command_rows (DropColl n) st)) (command_effects (DropColl n) st) ds st.rows (effect_ok recorded (DropColl n) st w formed) h
command_ok recorded (DropDatabase db) st ds w formed h = told_by (first_of (command_rows (DropDatabase db) st)) (command_effects (DropDatabase db) st) ds st.rows (effect_ok recorded (DropDatabase db) st w formed) h
command_ok recorded (Rename a b) st ds w formed h = told_by (first_of (command_rows (Rename a b) st)) (command_effects (Rename a b) st) ds st.rows (effect_ok recorded (Rename a b) st w formed) h
command_ok recorded (Document d) st ds w formed h = told_by (first_of (command_rows (Document d) st)) (command_effects (Document d) st) ds st.rows (effect_ok recorded (Document d) st w formed) h
command_ok recorded (CreateIndex n d) st ds w formed h = told_by (first_of (command_rows (CreateIndex n d) st)) (command_effects (CreateIndex n d) st) ds st.rows (effect_ok recorded (CreateIndex n d) st w formed) h
command_ok recorded (DropIndex n k) st ds w formed h = told_by (first_of (command_rows (DropIndex n k) st)) (command_effects (DropIndex n k) st) ds st.rows (effect_ok recorded (DropIndex n k) st w formed) h

-- effects as what is made, at their timestamps
pub made_ok : (ds : List Effect) (st : Stage) → EffectsOk ds st.rows → AllMade (made_in ds st) st.rows
made_ok [] st h = tt
made_ok (d ∷ ds) st h = (h.0, made_ok ds (stage_by d st) h.1)
