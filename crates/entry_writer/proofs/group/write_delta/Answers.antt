use Rattle.std.proofs.Common.{ℕ, List, [], ◌∷◌, ◌++◌, ap, ◌∙◌}
use Rattle.entry_model.specs.Touches.{written}
use Rattle.entry_model.specs.Spelling.{level_limit}
use Rattle.entry_writer.proofs.Items.{fields_put}
use Rattle.entry_writer.proofs.group.write_delta.Goals as goal

pub returns : goal.returns
returns c =
    c.from_vec.ensures
    ∙ fields_put (written c.args.form level_limit c.args.touches.now) c.extend_from_slice.new.self.items c.put_form.new.out.items c.close.new.out.items
    (c.in_ok-extend_from_slice.ensures.items ∙ ap (λ (l : List ℕ). l ++ (0 ∷ (0 ∷ (0 ∷ (0 ∷ []))))) c.in_ok-out.ensures.items)
    c.in_ok-put_form.ensures c.in_ok-close.ensures
