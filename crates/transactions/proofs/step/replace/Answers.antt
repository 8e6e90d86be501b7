use Rattle.std.proofs.Common.{◌≡◌, true, false, sym, ap, ◌∙◌, subst, Option, Some, None}
use Rattle.std.specs.Prelude.{is_some}
use Rattle.bson_encode.specs.Key.{key_of}
use Rattle.coll_state.specs.Changes.{document_at}
use Rattle.coll_state.specs.Rows.{Document, id_of}
use Rattle.entry_model.specs.declared.entry.Action.TheVariants as actions
use Rattle.schedule_model.specs.declared.command.DocumentCommand.TheVariants.{Replace}
use Rattle.history_model.specs.Documents.{id_first}
use Rattle.history_model.specs.Refusals.{document_refusal}
use Rattle.transactions.specs.declared.change_record.ChangeRecord.{ChangeRecord}
use Rattle.transactions.specs.Steps.{IsPut, changes_nothing}
use Rattle.transactions.proofs.Steps.{replaced_good, good_named, replace_made}
use Rattle.transactions.proofs.step.replace.Goals as goal

pub id_in-requires : goal.id_in-requires
id_in-requires c =
    let none : document_refusal false (Replace c.args.ns.now c.args.doc.now) c.args.rows.now ≡ None = sym c.replace_refusal.ensures ∙ c.in_default.is in
    subst (λ (z : Document). is_some (id_of z) ≡ true) (sym c.in_ok-first.ensures) (good_named c.args.doc.now (replaced_good c.args.ns.now c.args.doc.now c.args.rows.now none))

pub returns : goal.returns
returns c =
    λ f.
    let none : document_refusal false (Replace c.args.ns.now c.args.doc.now) c.args.rows.now ≡ None = sym c.replace_refusal.ensures ∙ c.in_default.is in
    let x : ChangeRecord = record { change = c.in_ok-change.change; action = actions.Whole c.in_ok-id.id c.in_ok-copy.copy } in
    let first : c.in_ok-first.first ≡ id_first c.args.doc.now = c.in_ok-first.ensures in
    let id : id_of (id_first c.args.doc.now) ≡ Some c.in_ok-id.id = ap (λ (z : Document). id_of z) (sym first) ∙ c.in_ok-id.ensures in
    let old = document_at c.args.ns.now (key_of c.in_ok-id.id) c.args.rows.now.tables in
    let kept : c.is_kept.result ≡ changes_nothing old (id_first c.args.doc.now) = c.is_kept.ensures ∙ (ap (λ (o : Option Document). changes_nothing o c.in_ok-first.first) (c.as_ref.ensures.value ∙ c.in_ok-old.ensures.doc) ∙ ap (changes_nothing old) first) in
    replace_made f c.args.ns.now c.args.doc.now c.in_ok-id.id c.is_kept.result x c.args.rows.now c.put.new.rows none c.requires.there id kept c.if-is_kept.false
    (subst (λ (z : Document). IsPut x.change c.args.ns.now z c.args.rows.now c.put.new.rows) first c.in_ok-change.ensures)
    (ap (λ (z : Document). actions.Whole c.in_ok-id.id z) (c.in_ok-copy.ensures ∙ first))
