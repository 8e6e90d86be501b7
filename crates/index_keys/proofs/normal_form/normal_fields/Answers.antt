use Rattle.std.proofs.Common.{sym, subst}
use Rattle.containers.specs.Entries.{AreDistinct, names_of}
use Rattle.index_keys.specs.Definition.{Members}
use Rattle.index_keys.proofs.Others.{distinct_arranged}
use Rattle.index_keys.proofs.normal_form.normal_fields.Goals as goal

pub of_distinct-requires : goal.of_distinct-requires
of_distinct-requires c =
    subst (λ (es : Members). AreDistinct (names_of es)) (sym c.in_ok-entries.ensures) (distinct_arranged c.args.key.now c.args.name.now c.args.fields.now c.len-count.ensures.distinct)
