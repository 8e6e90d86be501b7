use Rattle.std.proofs.lemmas.Result.{IfOk-weaker}
use Rattle.archive_rows.proofs.Writing.{told}
use Rattle.archive_rows.proofs.blocks.written_blocks.Goals as goal

pub returns : goal.returns
returns c = IfOk-weaker c.written.result _ _ (λ text e. told c.in_ok-answer.answer _ _ _ _ c.in_ok-sink.ensures c.in_ok-answer.ensures e) c.written.ensures
