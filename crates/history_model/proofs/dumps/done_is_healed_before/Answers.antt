use Rattle.history_model.proofs.HealedBefore.{run_healed_before}
use Rattle.history_model.proofs.dumps.done_is_healed_before.Goals as goal

pub returns : goal.returns
returns c = run_healed_before c.copy_heals.ensures.heals c.cut_is_replayed.ensures.replay c.same_is_shown_alike.ensures c.updates_record.ensures
