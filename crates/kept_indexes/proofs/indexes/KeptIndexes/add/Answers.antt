use Rattle.std.proofs.Common.{ap, ◌∙◌}
use Rattle.kept_indexes.specs.Kept.{KeptCollections, kept_at}
use Rattle.kept_indexes.proofs.Moving.{others_stay}
use Rattle.kept_indexes.proofs.indexes.KeptIndexes.add.Goals as goal

pub returns-clause-others : goal.returns-clause-others
returns-clause-others c n e =
    others_stay c.self.inside.collections.entries c.set.new.collections.entries c.args.ns.now c.set.result c.set.ensures.others c.set.ensures.err n e ∙ ap (λ (k : KeptCollections). kept_at k n) c.self.view_is
