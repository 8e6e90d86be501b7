use Rattle.std.proofs.Common.{arith}
use Rattle.std.proofs.lemmas.Str.Pattern.{strip_prefix_char}
use Rattle.oplog_entry.proofs.Letters.{behind_is}
use Rattle.oplog_entry.proofs.delta.behind_s.Goals as goal

pub returns : goal.returns
returns c = behind_is 115 c.args.name.now c.strip_prefix.result (strip_prefix_char 115 c.args.name.now c.strip_prefix.result c.strip_prefix.ensures.cases (omega arith))
