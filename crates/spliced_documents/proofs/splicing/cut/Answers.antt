use Rattle.std.proofs.Common.{arith}
use Rattle.bson_view.specs.Views.{document, view_bytes}
use Rattle.spliced_documents.proofs.Cut.{cut_made}
use Rattle.spliced_documents.proofs.splicing.cut.Goals as goal

pub returns-clause-some : goal.returns-clause-some
returns-clause-some c =
    cut_made c.args.name.now (view_bytes c.args.view.now) c.around.result.0.now c.around.result.1.now c.around.ensures.front c.around.ensures.rest (document c.args.view.now) c.around.ensures.spelled c.requires
    c.in_ok-joined.field-0 (omega (arith, c.if-front-rest-gt-MAX_BYTES.false)) c.in_ok-joined.ensures
