use Rattle.std.proofs.Common.{List, ℕ, ◌++◌, ap, ◌∙◌}
use Rattle.std.specs.Prelude.{codes}
use Rattle.bson_value.specs.Spelling.{elements_of}
use Rattle.entry_model.specs.Spelling.{id_alone}
use Rattle.std.proofs.lemmas.Result.{on_ok_weaker}
use Rattle.entry_writer.proofs.Bytes.{closed, field_is, as_fields}
use Rattle.entry_writer.proofs.body.put_id.Goals as goal

pub returns : goal.returns
returns c =
    on_ok_weaker c.close.result
    (λ h. closed c.args.out.now.items c.args.name.now c.open.new.out.items (elements_of (id_alone c.args.id.now)) c.put_element.new.out.items c.close.new.out.items c.len-start.result
    c.in_ok-open.ensures (c.len-start.ensures ∙ c.open.new.out.ok.0) (as_fields c.open.new.out.items c.put_element.new.out.items (codes "_id") c.args.id.now c.in_ok-put_element.ensures) h
    ∙ ap (λ (b : List ℕ). c.args.out.now.items ++ b) (field_is c.args.name.now (id_alone c.args.id.now)))
    c.close.ensures
