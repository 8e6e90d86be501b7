use Rattle.bson_view.proofs.Meanings.{faultless}
use Rattle.bson_view.proofs.document_bytes.DocumentBytes.as_slice.Goals as goal

pub returns-clause-spelled : goal.returns-clause-spelled
returns-clause-spelled c = rw c.as_slice.ensures (faultless 16793600 200 c.args.self.now.bytes c.args.self.now.checked)
