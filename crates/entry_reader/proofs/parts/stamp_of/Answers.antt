use Rattle.std.proofs.Common.{◌∙◌}
use Rattle.entry_reader.proofs.Values.{stamp_read}
use Rattle.entry_reader.proofs.parts.stamp_of.Goals as goal

pub returns : goal.returns
returns c = c.as_ts.ensures ∙ stamp_read c.read.result _ c.read.ensures
