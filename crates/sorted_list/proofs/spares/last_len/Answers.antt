use Rattle.std.proofs.Common.{◌-◌, length, refl, ap, sym, ◌∙◌}
use Rattle.std.specs.Option.{option_copied}
use Rattle.sorted_list.proofs.Rooms.{last_at}
use Rattle.sorted_list.proofs.spares.last_len.Goals as goal

pub returns-in-Some : goal.returns-in-Some
returns-in-Some g c =
    let cs = c.args.chunks.now in
    c.len.ensures.len ∙ sym (last_at cs (length cs - 1) c.in-Some.chunk.now refl (sym c.last.ensures.value ∙ ap option_copied c.in-Some.is))
