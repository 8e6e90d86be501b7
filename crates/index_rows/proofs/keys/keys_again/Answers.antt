use Rattle.std.proofs.Common.{◌∙◌, ◌<◌, ◌^◌, ap, arith, length}
use Rattle.std.proofs.lemmas.Result.{IfOk-weaker}
use Rattle.bson_view.specs.Meaning.{document_in}
use Rattle.index_keys.specs.Texts.{key_texts}
use Rattle.index_rows.proofs.keys.keys_again.Goals as goal

pub returns : goal.returns
returns c =
    let bytes = c.in_ok-bytes.bytes in
    let doc = c.args.doc.now in
    IfOk-weaker c.spelled_keys.result _ _ (λ keys e.
    let is_short : length bytes < 2 ^ 31 = omega (arith, ap length c.as_slice.ensures, e.0) in
    e.1 ∙ ap (key_texts c.args.plan.now) (ap document_in c.as_slice.ensures ∙ c.one_document.ensures bytes doc (c.in_ok-bytes.ensures.spells is_short))) c.spelled_keys.ensures
