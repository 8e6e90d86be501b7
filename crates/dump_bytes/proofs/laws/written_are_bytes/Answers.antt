use Rattle.dump_bytes.proofs.Written.{written_bytes}
use Rattle.dump_bytes.proofs.laws.written_are_bytes.Goals as goal

pub returns : goal.returns
returns c = written_bytes c.documents_are_bytes.ensures c.metadata_fits.ensures c.steps_follow.ensures c.done_is_healed_before.ensures c.recorded_is_good.ensures.recorded
