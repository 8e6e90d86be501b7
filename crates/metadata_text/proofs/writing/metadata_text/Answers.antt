use Rattle.metadata_text.proofs.ReadBack.{text_back}
use Rattle.metadata_text.proofs.writing.metadata_text.Goals as goal

pub returns-clause-read : goal.returns-clause-read
returns-clause-read c = λ shallow normal. text_back c.written.result c.args.ns.now.coll c.args.options.now c.args.defs.now c.written.ensures.text c.written.ensures.well_formed shallow normal
