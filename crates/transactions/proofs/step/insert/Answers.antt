use Rattle.std.proofs.Common.{◌≡◌, true, false, sym, ap, ◌∙◌, subst, None}
use Rattle.std.specs.Prelude.{is_some}
use Rattle.coll_state.specs.Rows.{Document, id_of}
use Rattle.entry_model.specs.declared.entry.Action.TheVariants as actions
use Rattle.schedule_model.specs.declared.command.DocumentCommand.TheVariants.{Insert}
use Rattle.history_model.specs.Refusals.{document_refusal}
use Rattle.transactions.specs.declared.change_record.ChangeRecord.{ChangeRecord}
use Rattle.transactions.specs.Steps.{IsPut}
use Rattle.transactions.proofs.Steps.{inserted_good, good_named, insert_made}
use Rattle.transactions.proofs.step.insert.Goals as goal

pub put-requires : goal.put-requires
put-requires c =
    let none : document_refusal false (Insert c.args.ns.now c.args.doc.now) c.args.rows.now ≡ None = sym c.insert_refusal.ensures ∙ c.in_default.is in
    subst (λ (z : Document). is_some (id_of z) ≡ true) (sym c.in_ok-first.ensures) (good_named c.args.doc.now (inserted_good c.args.ns.now c.args.doc.now c.args.rows.now none))

pub returns : goal.returns
returns c =
    λ f.
    let none : document_refusal false (Insert c.args.ns.now c.args.doc.now) c.args.rows.now ≡ None = sym c.insert_refusal.ensures ∙ c.in_default.is in
    let x : ChangeRecord = record { change = c.in_ok-change.change; action = actions.Put c.in_ok-copy.copy } in
    insert_made f c.args.ns.now c.args.doc.now x c.args.rows.now c.put.new.rows none c.requires.there
    (subst (λ (z : Document). IsPut x.change c.args.ns.now z c.args.rows.now c.put.new.rows) c.in_ok-first.ensures c.in_ok-change.ensures)
    (ap (λ (z : Document). actions.Put z) (c.in_ok-copy.ensures ∙ c.in_ok-first.ensures))
