use Rattle.std.proofs.Common.{ℕ, List, [], ◌∷◌, ◌++◌, ap, ◌∙◌}
use Rattle.bson_value.specs.Spelling.{tag_of, spelled}
use Rattle.entry_writer.proofs.Bytes.{keyed}
use Rattle.entry_writer.proofs.elements.put_element.Goals as goal

pub returns : goal.returns
returns c =
    keyed c.args.out.now.items c.push.new.self.items c.extend_from_slice.new.self.items c.put_key.new.out.items c.args.name.now (spelled c.args.value.now) (tag_of c.args.value.now) c.len-end.result
    (c.in_ok-push.ensures.items ∙ ap (λ (t : ℕ). c.args.out.now.items ++ t ∷ []) c.type_of.ensures)
    (c.in_ok-extend_from_slice.ensures.items ∙ ap (λ (l : List ℕ). c.push.new.self.items ++ l) c.as_bytes.ensures.value)
    (c.len-end.ensures ∙ c.extend_from_slice.new.self.ok.0) c.in_ok-put_key.ensures
