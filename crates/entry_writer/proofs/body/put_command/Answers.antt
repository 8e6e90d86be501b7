use Rattle.std.proofs.Common.{List, ℕ, [], ◌∷◌, ◌++◌, ap, ◌∙◌}
use Rattle.std.specs.Prelude.{codes}
use Rattle.bson_value.specs.declared.value.Value.{Str}
use Rattle.bson_value.specs.Spelling.{elements_of}
use Rattle.entry_model.specs.Written.{Fields}
use Rattle.entry_model.specs.Spelling.{namespace_text}
use Rattle.std.proofs.lemmas.Result.{on_ok_weaker}
use Rattle.entry_writer.proofs.Bytes.{put_in, as_fields, both_put}
use Rattle.entry_writer.proofs.body.put_command.Goals as goal

abbrev heading : List ℕ → Fields
heading ns = (codes "op", Str (codes "c")) ∷ (codes "ns", Str ns) ∷ []

pub returns : goal.returns
returns c =
    on_ok_weaker c.close.result
    (λ h. put_in c.args.out.now.items c.put_head.new.out.items c.open.new.out.items c.put_fields.new.out.items c.close.new.out.items (codes "o") (heading (namespace_text c.args.ns.now.db (codes "$cmd"))) ((c.args.name.now, c.args.value.now) ∷ c.args.fields.now) c.len-start.result
    (c.in_ok-put_head.ensures ∙ ap (λ (ns : List ℕ). c.args.out.now.items ++ elements_of (heading ns)) (c.in_ok-text.ensures ∙ ap (λ (db : List ℕ). namespace_text db (codes "$cmd")) c.as_str.ensures))
    c.in_ok-open.ensures (c.len-start.ensures ∙ c.open.new.out.ok.0)
    (both_put c.open.new.out.items c.put_element.new.out.items c.put_fields.new.out.items ((c.args.name.now, c.args.value.now) ∷ []) c.args.fields.now
    (as_fields c.open.new.out.items c.put_element.new.out.items c.args.name.now c.args.value.now c.in_ok-put_element.ensures) c.in_ok-put_fields.ensures) h)
    c.close.ensures
