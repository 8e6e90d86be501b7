use Rattle.state_model.proofs.Moves.{replay_goes, states_step, states_steps}
use Rattle.state_model.proofs.laws.replay_keeps_agreement.Goals as goal

pub returns : goal.returns
returns c =
    let played = c.playing_keeps_agreement.ensures.same in
    let root = c.covers_all_below.ensures.root in
    let below = c.covers_all_below.ensures.hereditary in
    record {
      same = λ m d y x mono fits same. replay_goes played root m d mono y x fits same;
      one = states_step played root below;
      all = states_steps played root below;
    }
