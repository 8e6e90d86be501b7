use Rattle.entry_reader.proofs.Names.{split_is}
use Rattle.entry_reader.proofs.parts.namespace.Goals as goal

pub returns : goal.returns
returns c = split_is c.args.text.now c.split.result c.split.ensures.some c.split.ensures.none
