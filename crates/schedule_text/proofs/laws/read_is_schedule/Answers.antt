use Rattle.schedule_text.proofs.Steps.{read_is_schedule}
use Rattle.schedule_text.proofs.laws.read_is_schedule.Goals as goal

pub returns : goal.returns
returns c = λ text s e. read_is_schedule c.read_is_json.ensures text s e
