use Rattle.copy_model.proofs.Interleavings.{agrees, healed_rows}
use Rattle.copy_model.proofs.Filtered.{cut_heals}
use Rattle.copy_model.proofs.laws.copy_heals.Goals as goal

pub returns : goal.returns
returns c =
    let keep = c.moves_change_what_they_cover.ensures in
    let settle = c.made_moves.ensures.settled in
    let hereditary = c.moves_cover_all_below.ensures in
    let heals = c.window_heals.ensures.heals in
    record {
      agrees = λ before first es f ended. agrees keep settle hereditary before first es f.sound f.before_start f.since ended;
      heals = healed_rows keep settle hereditary heals;
      cut = cut_heals c.cut_is_replayed.ensures.replay c.same_is_shown_alike.ensures (healed_rows keep settle hereditary heals);
    }
