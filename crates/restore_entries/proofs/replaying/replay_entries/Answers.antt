use Rattle.std.proofs.Common.{map}
use Rattle.coll_state.specs.Rows.{state_of}
use Rattle.replay.specs.Refusals.{first, first_refused}
use Rattle.restore_entries.proofs.Plays.{played_more, none_more}
use Rattle.restore_entries.proofs.replaying.replay_entries.Goals as goal

pub loop-entry-preserved : goal.loop-entry-preserved
loop-entry-preserved c =
    let es = c.args.entries.now in
    let i = c.loop-entry.entry-index in
    let e = c.entry-item.result in
    record {
      moves = played_more es i e c.loop-entry-test.true c.entry-item.is (state_of c.args.state.now) (state_of c.loop-entry.state) (state_of c.replay_one.new.state) c.loop-entry.invariant.moves c.in_ok-replay_one.ensures.moves;
      none = none_more es i e c.loop-entry-test.true c.entry-item.is (first (map first_refused es)) c.loop-entry.invariant.none c.in_ok-replay_one.ensures.answer;
    }
