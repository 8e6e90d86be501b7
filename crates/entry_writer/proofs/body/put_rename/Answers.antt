use Rattle.std.proofs.Common.{◌≡◌, List, ℕ, [], ◌∷◌, ◌++◌, ap, ◌∙◌}
use Rattle.std.specs.Prelude.{codes}
use Rattle.bson_value.specs.declared.value.Value.{Str}
use Rattle.bson_value.specs.Spelling.{elements_of}
use Rattle.entry_model.specs.Spelling.{text_of, command_body, body_fields}
use Rattle.std.proofs.lemmas.Result.{on_ok_weaker}
use Rattle.entry_writer.proofs.body.put_rename.Goals as goal

pub returns : goal.returns
returns c =
    let to : c.entries.result.now ≡ (codes "to", Str (text_of c.args.to.now)) ∷ [] =
    c.entries.ensures.entries ∙ (c.in_ok-fields.ensures ∙ ap (λ (t : List ℕ). (codes "to", Str t) ∷ []) c.in_ok-name_text-2.ensures) in
    on_ok_weaker c.put_command.result
    (λ h. h ∙ (λ i. c.args.out.now.items ++ elements_of (body_fields (command_body c.args.ns.now (codes "renameCollection") (Str (c.in_ok-name_text.ensures i)) (to i)) [])))
    c.put_command.ensures
