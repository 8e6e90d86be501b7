use Rattle.drill_schedule.proofs.Whole.{drill_read}
use Rattle.drill_schedule.proofs.laws.drills_are_schedules.Goals as goal

pub returns : goal.returns
returns c = drill_read c.print_is_json.ensures c.schedules_are_read.ensures
