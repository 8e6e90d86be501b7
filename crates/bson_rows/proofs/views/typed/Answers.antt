use Rattle.bson_rows.proofs.Shown.{behind_text}
use Rattle.bson_rows.proofs.views.typed.Goals as goal

pub returns : goal.returns
returns c = behind_text c.args.spelled c.args.built c.args.text.now _ _ c.in_ok-format.ensures.ok
