use Rattle.std.proofs.Common.{ap, sym, ◌∙◌}
use Rattle.std.specs.Option.{option_copied}
use Rattle.sorted_list.proofs.Edits.{get_at}
use Rattle.sorted_list.proofs.list.item_at.Goals as goal

pub returns-in-Some : goal.returns-in-Some
returns-in-Some g c = (
  c.in_ok-get.field-0.now,
  (
    get_at c.args.chunks.now c.args.chunk c.in_ok-get.field-0.now c.in_ok-get.ensures.lookup.3.0 c.in_ok-get.ensures.lookup.1,
    sym c.get-2.ensures ∙ ap option_copied c.in-Some.is,
  ),
)
