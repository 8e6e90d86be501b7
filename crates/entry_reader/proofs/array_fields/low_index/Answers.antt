use Rattle.std.proofs.Common.{◌∙◌}
use Rattle.entry_reader.proofs.Elements.{no_text}
use Rattle.entry_reader.proofs.array_fields.low_index.Goals as goal

pub returns-in_err-as_text : goal.returns-in_err-as_text
returns-in_err-as_text c = c.from_residual.ensures ∙ no_text c.args.name.now c.in_err-as_text.ensures
