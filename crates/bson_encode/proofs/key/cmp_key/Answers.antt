use Rattle.std.proofs.Common.{ap, ◌∙◌}
use Rattle.std.specs.Ordering.{nat_cmp, ordering_then}
use Rattle.std.specs.Cmp.Lexicographic.{slice_cmp}
use Rattle.bson_value.specs.Spelling.{spelled}
use Rattle.bson_encode.specs.Comparing.{at_end}
use Rattle.bson_encode.proofs.Comparing.{State, ends}
use Rattle.bson_encode.proofs.key.cmp_key.Goals as goal

pub returns : goal.returns
returns c =
    let sp = spelled c.args.id.now in
    let bytes = c.args.bytes.now in
    c.last.ensures
    ∙ (ap (λ (s : State). at_end s.0 s.1) c.value.ensures ∙ (ends c.cmp.result sp bytes ∙ ap (λ o. ordering_then o (slice_cmp nat_cmp sp bytes)) (c.cmp.ensures ∙ ap (λ n. nat_cmp n c.args.tag) c.type_of.ensures)))
