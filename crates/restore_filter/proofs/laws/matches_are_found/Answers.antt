use Rattle.restore_filter.proofs.Texts.{matches_is}
use Rattle.restore_filter.proofs.laws.matches_are_found.Goals as goal

pub returns : goal.returns
returns c = matches_is
