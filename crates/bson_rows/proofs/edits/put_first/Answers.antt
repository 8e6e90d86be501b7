use Rattle.std.proofs.Common.{rules}
use Rattle.std.proofs.lemmas.Result.{IfOk-weaker}
use Rattle.bson_rows.proofs.edits.put_first.Goals as goal

pub returns : goal.returns
returns c = IfOk-weaker c.spelled.result _ _ (λ answer e. (c.in_ok-doc-2.doc, c.in_ok-first_field.field-0, (search rules), (search rules), (search rules))) c.spelled.ensures
