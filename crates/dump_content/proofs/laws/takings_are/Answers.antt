use Rattle.dump_content.proofs.Takings.{takings_are}
use Rattle.dump_content.proofs.laws.takings_are.Goals as goal

pub returns : goal.returns
returns c = takings_are c.written_is_content.ensures c.content_or_fault.ensures c.done_is_healed_before.ensures
