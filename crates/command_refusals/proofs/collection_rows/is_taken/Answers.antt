use Rattle.std.proofs.Common.{Bool, Option, sym, ap, ◌∙◌}
use Rattle.std.specs.Prelude.{◌||◌}
use Rattle.std.specs.Option.{option_copied}
use Rattle.state_model.specs.Keys.{Key}
use Rattle.command_refusals.specs.Collections.{is_among, is_taken}
use Rattle.command_refusals.proofs.collection_rows.is_taken.Goals as goal

pub returns-else-is_primary : goal.returns-else-is_primary
returns-else-is_primary c =
    c.is_among.ensures
    ∙ (ap (λ (b : Bool). b || is_among c.in-Some.name.now c.args.defs.now) (sym c.if-is_primary.false ∙ c.is_primary.ensures)
    ∙ ap (λ (o : Option Key). is_taken o c.args.defs.now) (ap option_copied (sym c.in-Some.is)))
