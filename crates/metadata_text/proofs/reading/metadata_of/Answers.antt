use Rattle.metadata_text.proofs.Normal.{read_formed, read_normal, read_levels, read_shallow}
use Rattle.metadata_text.proofs.reading.metadata_of.Goals as goal

pub returns-clause-well_formed : goal.returns-clause-well_formed
returns-clause-well_formed c = read_formed c.metadata.result c.args.text.now c.metadata.ensures

pub returns-clause-normal : goal.returns-clause-normal
returns-clause-normal c = read_normal c.metadata.result c.args.text.now c.metadata.ensures

pub returns-clause-levels : goal.returns-clause-levels
returns-clause-levels c = read_levels c.metadata.result c.args.text.now c.metadata.ensures

pub returns-clause-shallow : goal.returns-clause-shallow
returns-clause-shallow c = read_shallow c.metadata.result c.args.text.now c.metadata.ensures
