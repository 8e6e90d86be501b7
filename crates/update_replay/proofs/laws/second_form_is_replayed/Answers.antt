use Rattle.update_replay.proofs.Lengths.{second_records}
use Rattle.update_replay.proofs.Replayed.{second_form_replays}
use Rattle.update_replay.proofs.laws.second_form_is_replayed.Goals as goal

pub returns : goal.returns
returns c = record { records = second_records; replays = second_form_replays }
