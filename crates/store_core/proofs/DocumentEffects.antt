-- Replacements, updates and removals: what they make of a store.
use Rattle.std.proofs.Common.{◌≡◌, ℕ, List, [], ◌∷◌, false, not, refl, sym, ap, ◌∙◌, subst, Option, Some, None, Ok}
use Rattle.std.specs.Prelude.{is_some}
use Rattle.std.specs.FinMap as map
use Rattle.bson_value.specs.declared.namespace.NsName.{NsName}
use Rattle.bson_value.specs.declared.value.Ts.{Ts}
use Rattle.bson_value.specs.declared.value.Value.{Value}
use Rattle.bson_value.specs.Spelling.{document_text}
use Rattle.bson_encode.specs.Key.{key_of}
use Rattle.doc_path.specs.declared.parts.Form.{Form}
use Rattle.doc_path.specs.declared.touches.Touch.{Touch}
use Rattle.entry_model.specs.Spelling.{entry_fields}
use Rattle.state_model.specs.Keys.{Key}
use Rattle.coll_state.specs.Rows.{Document as Fields, Row, Rows, Table, row_of, key_in, id_of}
use Rattle.coll_state.specs.Changes.{put, put_under, document_of, document_in, document_at}
use Rattle.copy_model.specs.Writes as writes
use Rattle.schedule_model.specs.declared.command.Command.{Command}
use Rattle.schedule_model.specs.declared.command.DocumentCommand.TheVariants.{Update}
use Rattle.update_action.specs.Recorded.{recorded, action_of}
use Rattle.update_action.specs.Recorded as record_of
use Rattle.history_model.specs.Entries.{entry_with, item_entry, update_item, delta_or_whole}
use Rattle.history_model.specs.Entries as entries
use Rattle.history_model.specs.Indexes.{IndexesHold}
use Rattle.history_model.specs.Refusals.{row_in, row_at, update_of, document_rows, document_refusal}
use Rattle.history_model.specs.Commands.{only, effects, put_change, under_id, one_each}
use Rattle.history_model.proofs.Accepted.{all_false}
use Rattle.store_log.specs.Logged.{Logged, next_ts, logged}
use Rattle.store_core.specs.Stores.{Stored}
use Rattle.store_core.specs.Applying.{Makes, stage_in, stored_set}
use Rattle.store_core.specs.Documents.{replace_effects}
use Rattle.store_core.proofs.Made.{holds_one, made_one}

abbrev stored : Rows → Logged → Stored
stored r l = record { rows = r; log = l }

-- ---- a document that is put under an `_id`

pub put_holds : (c : Command) (s : Stored) (n : NsName) (id : Value) (d : Fields) (i : entries.Item) → key_in (id_of d) ≡ key_of id → IndexesHold s.rows → effects c (stage_in s) ≡ Ok (only (writes.Put n (key_of id) d) i) → IndexesHold (put n d s.rows)
put_holds c s n id d i k h e = subst (λ (q : Key). IndexesHold (put_under n q d s.rows)) (sym k) (holds_one c s (writes.Put n (key_of id) d) i h e)

pub put_made : (c : Command) (n : NsName) (id : Value) (d : Fields) (i : entries.Item) (old new : Stored) (bytes : List ℕ) (ts : Ts) → stored_set c old ≡ old → key_in (id_of d) ≡ key_of id → effects c (stage_in old) ≡ Ok (only (writes.Put n (key_of id) d) i) →
    ts ≡ next_ts old.log.clock old.log.newest → bytes ≡ document_text (entry_fields (item_entry ts i)) → new ≡ record { rows = put n d old.rows; log = logged bytes old.log } → Makes c old 1 new
put_made c n id d i old new bytes ts same k e t b f =
    made_one c (writes.Put n (key_of id) d) i old new bytes ts same e t b (f ∙ ap (λ (q : Key). stored (put_under n q d old.rows) (logged bytes old.log)) k)

pub replace_is : (n : NsName) (d : Fields) (id : Value) → id_of d ≡ Some id → replace_effects n (Some d) ≡ only (writes.Put n (key_of id) d) (entries.Whole n id d)
replace_is n d id e = ap (λ (o : Option Value). one_each (under_id (λ i. put_change n i d (entries.Whole n i d) ∷ []) o)) e

-- the entry of an update has its action
pub update_entry : (ts : Ts) (f : Form) (n : NsName) (id : Value) (new : Fields) (us : List Touch) → item_entry ts (update_item f n id new us) ≡ entry_with ts n (action_of f id new us)
update_entry ts f n id new us = by (recorded f new us)
  where
    by : (o : Option (Form × List Touch)) → item_entry ts (delta_or_whole n id new o) ≡ entry_with ts n (record_of.delta_or_whole id new o)
    by None = refl
    by (Some r) = refl

-- ---- a document that isn't there

pub no_row : (n : NsName) (k : Key) (r : Rows) → document_at n k r.tables ≡ None → row_at n k r ≡ None
no_row n k r e = by (map.get r.tables n) e
  where
    of_rows : (o : Option Row) → document_of o ≡ None → o ≡ None
    of_rows None f = refl
    of_rows (Some x) f = cc

    by : (o : Option Table) → document_in k o ≡ None → row_in k o ≡ None
    by None f = refl
    by (Some t) f = of_rows (row_of t.rows k) f

pub no_update : (n : NsName) (id : Value) (ops : Fields) (r : Rows) → row_at n (key_of id) r ≡ None → None ≡ update_of (row_at n (key_of id) r) ops
no_update n id ops r e = ap (λ (o : Option Row). update_of o ops) (sym e)

pub missing_is_refused : (n : NsName) (id : Value) (ops : Fields) (r : Rows) → row_at n (key_of id) r ≡ None → document_refusal false (Update n id ops) r ≡ None → ⊥
missing_is_refused n id ops r e f =
    (let g : not (is_some (row_at n (key_of id) r)) ≡ false = (all_false (document_rows false (Update n id ops) r) f).1.1.0 in
    let h = ap (λ (o : Option Row). not (is_some o)) e in
    let k = sym h ∙ g in
    cc)
