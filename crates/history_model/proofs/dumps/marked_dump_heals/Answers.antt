use Rattle.history_model.proofs.WindowMoves.{torn_window}
use Rattle.history_model.proofs.dumps.marked_dump_heals.Goals as goal

pub returns : goal.returns
returns c = λ caps r s ls. torn_window c.copy_heals.ensures.heals c.updates_record.ensures caps r s ls
