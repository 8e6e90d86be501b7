use Rattle.std.proofs.Common.{◌∙◌}
use Rattle.command_rules.proofs.Spelled.{good_fits, good_less}
use Rattle.command_rules.proofs.documents.is_good_document.Goals as goal

pub returns-then-fits : goal.returns-then-fits
returns-then-fits c = c.is_good_id.ensures ∙ good_fits c.args.doc.now c.fits.result c.fits.ensures c.if-fits.true

pub returns-else-fits : goal.returns-else-fits
returns-else-fits c = good_less c.args.doc.now c.fits.result c.fits.ensures c.if-fits.false
