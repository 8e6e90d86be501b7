use Rattle.archive_format.proofs.Spelled.{heads_are_read as law}
use Rattle.archive_format.proofs.laws.heads_are_read.Goals as goal

pub returns : goal.returns
returns c = law
