use Rattle.std.proofs.Common.{◌≡◌, ◌++◌, sym, subst}
use Rattle.std.specs.Prelude.{OnOk}
use Rattle.bson_value.specs.Spelling.{elements_of}
use Rattle.doc_path.specs.declared.parts.Form.{Form}
use Rattle.entry_model.specs.Spelling.{level_limit}
use Rattle.entry_model.specs.Touches.{written}
use Rattle.entry_writer.proofs.body.put_form.Goals as goal

pub returns-in-V2 : goal.returns-in-V2
returns-in-V2 c =
    subst (λ (f : Form). OnOk c.put_second_form.result (c.put_second_form.new.out.items ≡ c.args.out.now.items ++ elements_of (written f level_limit c.args.touches.now))) (sym c.in-V2.is) c.put_second_form.ensures
