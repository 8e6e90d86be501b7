use Rattle.bson_encode.proofs.Grammar.{written_spells}
use Rattle.bson_encode.proofs.writing.encode.Goals as goal

pub returns-clause-spells : goal.returns-clause-spells
returns-clause-spells c = written_spells c.args.doc.now c.whole.result c.whole.ensures.bytes c.whole.ensures.well_formed
