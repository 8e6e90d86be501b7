use Rattle.std.proofs.Common.{◌∙◌, string_bytes}
use Rattle.std.proofs.lemmas.Result.{IfOk-weaker}
use Rattle.archive_rows.specs.Rows.{crc_text, truth_text}
use Rattle.archive_rows.proofs.Heads.{line_is}
use Rattle.archive_rows.proofs.blocks.head_line.Goals as goal

pub returns : goal.returns
returns c = IfOk-weaker c.format.result _ _ (λ text e. e ∙ line_is c.args.head.db.now c.args.head.coll.now (truth_text c.args.head.eof) (string_bytes c.in_ok-crc.crc) (crc_text c.args.head.crc) c.in_ok-crc.ensures) c.format.ensures.ok
