use Rattle.index_build.proofs.Swapped.{kept_new}
use Rattle.index_build.proofs.index.Index.new.Goals as goal

pub invariant_of-result : goal.invariant_of-result
invariant_of-result c = kept_new c.args.plan _ _ _ c.new.ensures c.new-2.ensures.none.0 c.new-2.ensures.none.1
