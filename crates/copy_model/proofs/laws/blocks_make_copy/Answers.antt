use Rattle.copy_model.proofs.Blocks.{blocks_make_copy}
use Rattle.copy_model.proofs.laws.blocks_make_copy.Goals as goal

pub returns : goal.returns
returns c = blocks_make_copy
