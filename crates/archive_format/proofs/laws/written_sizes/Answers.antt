use Rattle.archive_format.proofs.Spelled.{head_size, meta_size, header_size}
use Rattle.archive_format.proofs.laws.written_sizes.Goals as goal

pub returns : goal.returns
returns c = (head_size, meta_size, header_size)
