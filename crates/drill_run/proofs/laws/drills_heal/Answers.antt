use Rattle.drill_run.proofs.Healing.{heals}
use Rattle.drill_run.proofs.laws.drills_heal.Goals as goal

pub returns : goal.returns
returns c =
    heals c.drills_are_schedules.ensures c.drills_are_plain.ensures.lines c.drills_are_plain.ensures.count c.plain_dumps_are_done.ensures c.dumps_start.ensures c.unmarked_dumps_end_last.ensures.states
    c.read_is_dumped.ensures c.archives_are_short.ensures c.names_stay.ensures c.archive_restores.ensures c.lists_whole_source.ensures
