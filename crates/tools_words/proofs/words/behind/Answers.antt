use Rattle.std.proofs.Common.{rules}
use Rattle.tools_words.proofs.Behind.{behind_is}
use Rattle.tools_words.proofs.words.behind.Goals as goal

pub returns : goal.returns
returns c = behind_is c.args.name.now c.args.word.now c.strip_prefix.result (search rules)
