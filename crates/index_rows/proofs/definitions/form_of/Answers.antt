use Rattle.std.proofs.Common.{◌∙◌, sym}
use Rattle.index_rows.proofs.definitions.form_of.Goals as goal

pub form_text-requires : goal.form_text-requires
form_text-requires c = c.normal_once.ensures c.args.tree.now c.in-Some.form (sym c.in_ok-form.ensures ∙ c.in-Some.is)
