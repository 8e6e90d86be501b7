use Rattle.std.proofs.Common.{◌≡◌, sym, ap, ◌∙◌}
use Rattle.bson_value.specs.declared.value.Value.{Object}
use Rattle.bson_value.specs.declared.value.Value.TheVariants.{outs-Object}
use Rattle.coll_state.specs.Rows.{Document}
use Rattle.update_model.specs.Updating.{fields_in, fields_of}
use Rattle.update_model.proofs.SameValues.{same_told}
use Rattle.stored_documents.proofs.equality.same_document.Goals as goal

fields_are : (a b : Document) → Object a ≡ Object b → a ≡ b
fields_are a b e = sym (ap fields_in (outs-Object a)) ∙ (ap fields_of e ∙ ap fields_in (outs-Object b))

pub returns : goal.returns
returns c =
    (let h = c.same_fields.ensures in
    let a = c.entries.ensures.entries in
    let b = c.entries-2.ensures.entries in
    same_told c.same_fields.result (Object c.args.a.now) (Object c.args.b.now) (
      (λ t. ap (λ (d : Document). Object d) (sym a ∙ (h.0 t ∙ b))),
      (λ e. h.1 (a ∙ (fields_are c.args.a.now c.args.b.now e ∙ sym b))),
    ))
