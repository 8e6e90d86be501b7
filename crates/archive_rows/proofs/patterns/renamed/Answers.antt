use Rattle.std.proofs.Common.{◌∙◌, ap, rules, string_bytes, subst, sym}
use Rattle.std.proofs.lemmas.Result.{IfOk-weaker}
use Rattle.row_script.specs.Rows.{before_blank, behind_blank}
use Rattle.ns_patterns.specs.Literals.{literals_of}
use Rattle.archive_rows.specs.Rows.{TellsRenamed}
use Rattle.archive_rows.proofs.patterns.renamed.Goals as goal

pub returns : goal.returns
returns c = IfOk-weaker c.renamed_from.result _ _ (λ answer e. (
  c.in_ok-from-2.from,
  e.0,
  (search rules),
  ap literals_of (sym (c.in_ok-to.ensures.word ∙ ap before_blank c.in_ok-from.ensures.behind)) ∙ e.1,
  subst (λ name. TellsRenamed c.in_ok-from-2.from e.0 name (string_bytes answer)) (c.in_ok-to.ensures.behind ∙ ap behind_blank c.in_ok-from.ensures.behind) e.2,
)) c.renamed_from.ensures
