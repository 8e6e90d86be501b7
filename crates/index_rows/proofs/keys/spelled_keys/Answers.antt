use Rattle.std.proofs.Common.{◌∙◌, List, ℕ, ap, arith}
use Rattle.bson_view.specs.Meaning.{document_in}
use Rattle.index_keys.specs.Texts.{key_texts}
use Rattle.index_rows.proofs.keys.spelled_keys.Goals as goal

pub returns-in_ok-keys-in-Ok : goal.returns-in_ok-keys-in-Ok
returns-in_ok-keys-in-Ok c = (
  (omega (arith, c.in-Ok.ensures.document.short)),
  c.in_ok-keys-in-Ok.ensures.keys ∙ ap (λ (bytes : List ℕ). key_texts c.args.plan.now (document_in bytes)) c.in-Ok.ensures.bytes,
)
