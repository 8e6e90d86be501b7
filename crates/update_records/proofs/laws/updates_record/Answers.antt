use Rattle.update_records.proofs.Records.{updates_record}
use Rattle.update_records.proofs.laws.updates_record.Goals as goal

pub returns : goal.returns
returns c = updates_record c.spelling_spells.ensures c.spelled_once.ensures c.written_is_document.ensures c.delta_is_read.ensures
