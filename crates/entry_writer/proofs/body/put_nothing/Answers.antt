use Rattle.std.proofs.Common.{List, ℕ, [], ◌∷◌, ◌++◌, ap, ◌∙◌}
use Rattle.std.specs.Prelude.{codes}
use Rattle.bson_value.specs.declared.value.Value.{Str}
use Rattle.bson_value.specs.Spelling.{elements_of}
use Rattle.entry_model.specs.Written.{Fields}
use Rattle.std.proofs.lemmas.Result.{on_ok_weaker}
use Rattle.entry_writer.proofs.Bytes.{put_in, as_fields}
use Rattle.entry_writer.proofs.body.put_nothing.Goals as goal

abbrev heading : List ℕ → Fields
heading ns = (codes "op", Str (codes "n")) ∷ (codes "ns", Str ns) ∷ []

pub returns : goal.returns
returns c =
    on_ok_weaker c.close.result
    (λ h. put_in c.args.out.now.items c.put_head.new.out.items c.open.new.out.items c.put_element.new.out.items c.close.new.out.items (codes "o") (heading []) ((codes "msg", Str (codes "initiating set")) ∷ []) c.len-start.result
    (c.in_ok-put_head.ensures ∙ ap (λ (ns : List ℕ). c.args.out.now.items ++ elements_of (heading ns)) c.new.ensures)
    c.in_ok-open.ensures (c.len-start.ensures ∙ c.open.new.out.ok.0)
    (as_fields c.open.new.out.items c.put_element.new.out.items (codes "msg") (Str c.in_ok-text.text) c.in_ok-put_element.ensures ∙ ap (λ (t : List ℕ). c.open.new.out.items ++ elements_of ((codes "msg", Str t) ∷ [])) c.in_ok-text.ensures) h)
    c.close.ensures
