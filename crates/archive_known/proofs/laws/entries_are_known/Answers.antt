use Rattle.archive_known.proofs.Known.{entries_known}
use Rattle.archive_known.proofs.laws.entries_are_known.Goals as goal

pub returns : goal.returns
returns c = entries_known c.takings_are.ensures c.done_is_healed_before.ensures c.history_is_recorded.ensures c.window_has_no_rename.ensures c.good_moves.ensures.played
