use Rattle.std.proofs.Common.{◌+◌, ◌*◌, ◌≤◌, map, take}
use denote.Param.Weighed.{most}
use Rattle.entry_model.specs.declared.entry.Entry.{size-Entry}
use Rattle.entry_model.specs.Edits.{gathered}
use Rattle.replay.specs.Moves.{steps_of, item_count, total}
use Rattle.replay.specs.Steps.{Made}
use Rattle.replay.proofs.playing.+playing.Given as goal

abbrev pub decreases-play : goal.decreases-play
decreases-play l = 2 * size-Entry l.entry.now

abbrev pub decreases-play_all : goal.decreases-play_all
decreases-play_all l = 2 * most (λ e. size-Entry e) l.entries.now + 1

abbrev pub invariant-play_all-loop-entry : goal.invariant-play_all-loop-entry
invariant-play_all-loop-entry l = Made (gathered steps_of (take l.entry-index l.entries)) l.fn.state l.state × (l.state.count ≤ l.fn.state.count + total (map item_count (take l.entry-index l.entries)))
