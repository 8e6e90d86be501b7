use Rattle.std.proofs.lemmas.Result.{IfOk-weaker}
use Rattle.index_rows.proofs.keys.told_under.Goals as goal

pub returns : goal.returns
returns c = IfOk-weaker c.keys_text.result _ _ (λ answer e. (c.in_ok-doc.doc, c.in_ok-doc.ensures, e)) c.keys_text.ensures
