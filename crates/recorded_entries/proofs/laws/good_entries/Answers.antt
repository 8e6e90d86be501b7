use Rattle.recorded_entries.proofs.Written.{good_writable, good_read}
use Rattle.recorded_entries.proofs.laws.good_entries.Goals as goal

pub returns : goal.returns
returns c = record { writable = good_writable; read = good_read c.entry_reads_back.ensures }
