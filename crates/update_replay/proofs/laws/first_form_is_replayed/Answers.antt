use Rattle.update_replay.proofs.Replayed.{first_form_records, first_form_replays}
use Rattle.update_replay.proofs.laws.first_form_is_replayed.Goals as goal

pub returns : goal.returns
returns c = record { records = first_form_records; replays = first_form_replays }
