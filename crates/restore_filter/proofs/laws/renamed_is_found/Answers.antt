use Rattle.restore_filter.proofs.Texts.{renamed_found}
use Rattle.restore_filter.proofs.laws.renamed_is_found.Goals as goal

pub returns : goal.returns
returns c = renamed_found
