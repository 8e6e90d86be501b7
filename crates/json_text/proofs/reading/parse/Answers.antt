use Rattle.json_text.proofs.FoundWell.{read_well, read_levels}
use Rattle.json_text.proofs.reading.parse.Goals as goal

pub returns-clause-well_formed : goal.returns-clause-well_formed
returns-clause-well_formed c = read_well c.whole.result c.args.text.now c.whole.ensures

pub returns-clause-levels : goal.returns-clause-levels
returns-clause-levels c = read_levels c.whole.result c.args.text.now c.whole.ensures
