use Rattle.std.proofs.Common.{[], ◌∷◌, ◌++◌, ap, sym, ◌∙◌, append_assoc}
use Rattle.std.specs.Int.{w32, to_le_bytes}
use Rattle.bson_value.specs.Spelling.{Typed, element}
use Rattle.entry_model.specs.Written.{l_name}
use Rattle.entry_writer.proofs.Bytes.{int_spelling}
use Rattle.entry_writer.proofs.level.put_length.Goals as goal

pub returns : goal.returns
returns c =
    c.in_ok-extend_from_slice-2.ensures.items
    ∙ ((λ i. c.in_ok-extend_from_slice.ensures.items i ++ c.to_le_bytes.ensures i)
    ∙ (append_assoc c.args.out.now.items (16 ∷ (108 ∷ (0 ∷ []))) (to_le_bytes w32 c.args.len)
    ∙ ap (λ (t : Typed). c.args.out.now.items ++ element (l_name, t)) (sym (int_spelling c.args.len))))
