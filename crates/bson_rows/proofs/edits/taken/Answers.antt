use Rattle.std.proofs.Common.{rules}
use Rattle.std.proofs.lemmas.Result.{IfOk-weaker}
use Rattle.bson_rows.proofs.edits.taken.Goals as goal

pub returns : goal.returns
returns c = IfOk-weaker c.field_text.result _ _ (λ answer e. (c.in_ok-doc.doc, c.take-field.result, c.in_ok-doc.ensures, c.take-field.ensures.entry, (search rules))) c.field_text.ensures
