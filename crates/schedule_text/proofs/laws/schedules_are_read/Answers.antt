use Rattle.schedule_text.proofs.StepsBack.{schedules_are_read}
use Rattle.schedule_text.proofs.laws.schedules_are_read.Goals as goal

pub returns : goal.returns
returns c = λ text s i. schedules_are_read c.json_is_read.ensures text s i
