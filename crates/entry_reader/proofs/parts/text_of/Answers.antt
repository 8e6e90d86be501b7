use Rattle.std.proofs.Common.{◌∙◌}
use Rattle.entry_reader.proofs.Values.{text_read}
use Rattle.entry_reader.proofs.parts.text_of.Goals as goal

pub returns : goal.returns
returns c = c.as_str.ensures ∙ text_read c.read.result _ c.read.ensures
