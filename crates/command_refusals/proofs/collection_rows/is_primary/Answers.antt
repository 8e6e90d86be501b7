use Rattle.std.proofs.Common.{◌∙◌}
use Rattle.std.specs.Prelude.{codes}
use Rattle.command_refusals.proofs.RowTests.{bytes_key}
use Rattle.command_refusals.proofs.collection_rows.is_primary.Goals as goal

pub returns : goal.returns
returns c = c.eq.ensures ∙ bytes_key c.args.name.now (codes "_id_")
