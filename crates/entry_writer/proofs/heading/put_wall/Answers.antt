use Rattle.std.proofs.Common.{[], ◌∷◌, ◌++◌, ap, ◌∙◌}
use Rattle.std.specs.Prelude.{codes}
use Rattle.bson_value.specs.declared.value.Value.{Value}
use Rattle.bson_value.specs.Spelling.{elements_of}
use Rattle.std.proofs.lemmas.Result.{on_ok_weaker}
use Rattle.entry_writer.proofs.Bytes.{as_fields}
use Rattle.entry_writer.proofs.heading.put_wall.Goals as goal

pub returns : goal.returns
returns c =
    on_ok_weaker c.put_element.result
    (λ h. as_fields c.args.out.now.items c.put_element.new.out.items (codes "wall") c.wall.result h ∙ ap (λ (v : Value). c.args.out.now.items ++ elements_of ((codes "wall", v) ∷ [])) c.wall.ensures)
    c.put_element.ensures
