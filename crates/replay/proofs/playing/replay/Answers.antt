use Rattle.replay.specs.Moves.{steps_of}
use Rattle.replay.proofs.Made.{made_is_replayed}
use Rattle.replay.proofs.playing.replay.Goals as goal

pub returns-clause-moves : goal.returns-clause-moves
returns-clause-moves c = made_is_replayed (steps_of c.args.entry.now) c.args.state.now c.play.new.state c.in_ok-play.ensures.ok
