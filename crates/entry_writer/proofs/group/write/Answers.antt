use Rattle.std.proofs.Common.{ℕ, List, [], ◌∷◌, ◌++◌, ap, ◌∙◌}
use Rattle.entry_writer.proofs.Items.{entry_put}
use Rattle.entry_writer.proofs.group.write.Goals as goal

pub returns : goal.returns
returns c =
    c.in_ok-bytes.ensures ∙ c.as_slice.ensures.value
    ∙ entry_put c.args.entry.now c.extend_from_slice.new.self.items c.put_front.new.out.items c.put_body.new.out.items c.put_wall.new.out.items c.close.new.out.items
    (c.in_ok-extend_from_slice.ensures.items ∙ ap (λ (l : List ℕ). l ++ (0 ∷ (0 ∷ (0 ∷ (0 ∷ []))))) c.in_ok-out.ensures.items)
    c.in_ok-put_front.ensures c.in_ok-put_body.ensures
    c.in_ok-put_wall.ensures
    c.in_ok-close.ensures
