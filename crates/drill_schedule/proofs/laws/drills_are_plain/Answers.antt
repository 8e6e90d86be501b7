use Rattle.drill_schedule.proofs.Counts.{drill_counted}
use Rattle.drill_schedule.proofs.Plain.{drill_plain}
use Rattle.drill_schedule.proofs.laws.drills_are_plain.Goals as goal

pub returns-clause-lines : goal.returns-clause-lines
returns-clause-lines c = drill_plain

pub returns-clause-count : goal.returns-clause-count
returns-clause-count c = drill_counted
