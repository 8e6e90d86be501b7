use Rattle.std.proofs.Common.{◌≡◌, false, sym, ap, ◌∙◌, Option, Some, None}
use Rattle.bson_encode.specs.Key.{key_of}
use Rattle.coll_state.specs.Changes.{document_at}
use Rattle.coll_state.specs.Rows.{Document, id_of}
use Rattle.update_action.specs.Recorded.{action_of}
use Rattle.update_model.specs.declared.updated.Updated.{Updated}
use Rattle.schedule_model.specs.declared.command.DocumentCommand.TheVariants.{Update}
use Rattle.history_model.specs.Refusals.{document_refusal}
use Rattle.transactions.specs.declared.change_record.ChangeRecord.{ChangeRecord}
use Rattle.transactions.specs.Steps.{changes_nothing, update_made}
use Rattle.transactions.proofs.Steps.{IsUpdated, update_stands, held_key, named_by, short_text, update_done}
use Rattle.transactions.proofs.step.update.Goals as goal

pub update_action-requires : goal.update_action-requires
update_action-requires c =
    let made : Some c.in-Some-made.field-0 ≡ update_made c.in_ok-old.old c.args.ops.now = sym c.in-Some-made.is ∙ (c.in_ok-made.ensures ∙ ap (λ (o : Option Document). update_made o c.args.ops.now) c.as_ref.ensures.value) in
    let w : IsUpdated c.args.id.now c.in-Some-made.field-0 = update_stands c.args.id.now c.args.ops.now c.in-Some-made.field-0 c.in_ok-old.old made (λ d e. held_key c.args.id.now c.in_ok-old.old d c.in_ok-old.ensures.id e) in
    short_text c.in-Some-made.field-0.doc w.short

pub put-requires : goal.put-requires
put-requires c =
    let made : Some c.in-Some-made.field-0 ≡ update_made c.in_ok-old.old c.args.ops.now = sym c.in-Some-made.is ∙ (c.in_ok-made.ensures ∙ ap (λ (o : Option Document). update_made o c.args.ops.now) c.as_ref.ensures.value) in
    let w : IsUpdated c.args.id.now c.in-Some-made.field-0 = update_stands c.args.id.now c.args.ops.now c.in-Some-made.field-0 c.in_ok-old.old made (λ d e. held_key c.args.id.now c.in_ok-old.old d c.in_ok-old.ensures.id e) in
    named_by c.args.id.now (id_of c.in-Some-made.field-0.doc) w.key

pub returns : goal.returns
returns c =
    let none : document_refusal false (Update c.args.ns.now c.args.id.now c.args.ops.now) c.args.rows.now ≡ None = sym c.update_refusal.ensures ∙ c.in_default.is in
    let old = document_at c.args.ns.now (key_of c.args.id.now) c.args.rows.now.tables in
    let u : Updated = c.in-Some-made.field-0 in
    let made : Some u ≡ update_made c.in_ok-old.old c.args.ops.now = sym c.in-Some-made.is ∙ (c.in_ok-made.ensures ∙ ap (λ (o : Option Document). update_made o c.args.ops.now) c.as_ref.ensures.value) in
    let w : IsUpdated c.args.id.now u = update_stands c.args.id.now c.args.ops.now u c.in_ok-old.old made (λ d e. held_key c.args.id.now c.in_ok-old.old d c.in_ok-old.ensures.id e) in
    let x : ChangeRecord = record { change = c.in_ok-change.change; action = c.in_ok-action.action } in
    update_done c.args.form c.args.ns.now c.args.id.now c.args.ops.now u c.is_kept.result x c.args.rows.now c.put.new.rows none c.requires.there
    (made ∙ ap (λ (o : Option Document). update_made o c.args.ops.now) c.in_ok-old.ensures.doc) w
    (c.is_kept.ensures ∙ ap (λ (o : Option Document). changes_nothing o u.doc) (c.as_ref-4.ensures.value ∙ c.in_ok-old.ensures.doc)) c.if-is_kept.false c.in_ok-change.ensures
    (c.in_ok-action.ensures ∙ ap (action_of c.args.form c.args.id.now u.doc) c.as_slice.ensures)
