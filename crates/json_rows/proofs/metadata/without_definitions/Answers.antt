use Rattle.std.proofs.Common.{◌∙◌, List, ap, rules}
use Rattle.std.proofs.lemmas.Result.{IfOk-weaker}
use Rattle.json_tree.specs.declared.tree.Tree.{Tree}
use Rattle.json_text.specs.Print.{text_of}
use Rattle.metadata_text.specs.Metadata.{metadata_tree}
use Rattle.json_rows.proofs.metadata.without_definitions.Goals as goal

pub returns : goal.returns
returns c = IfOk-weaker c.named-2.result _ _ (λ text e. (
  e.0,
  c.in_ok-options.options,
  e.1,
  (search rules),
  e.2 ∙ ap (λ (defs : List Tree). text_of (metadata_tree e.0.coll c.in_ok-options.options defs)) c.new.ensures,
)) c.named-2.ensures
