use Rattle.metadata_again.proofs.Read.{kept_again, start_again}
use Rattle.metadata_again.proofs.laws.kept_is_read_again.Goals as goal

pub returns : goal.returns
returns c = record { kept = kept_again c.written_is_read.ensures; start = start_again c.written_is_read.ensures }
