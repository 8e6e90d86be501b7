use Rattle.restored_dump.proofs.Restored.{it_restores}
use Rattle.restored_dump.proofs.laws.archive_restores.Goals as goal

pub returns : goal.returns
returns c =
    it_restores c.archive_has_content.ensures c.archive_is_taken.ensures c.entries_are_known.ensures c.archive_heals.ensures c.done_is_healed_before.ensures c.moments_are_faultless.ensures c.taken_are_faultless.ensures c.same_states.ensures.faults
