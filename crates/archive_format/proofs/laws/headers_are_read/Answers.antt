use Rattle.archive_format.proofs.Spelled.{headers_are_read as law}
use Rattle.archive_format.proofs.laws.headers_are_read.Goals as goal

pub returns : goal.returns
returns c = law
