use Rattle.std.proofs.Common.{arith}
use Rattle.json_tree.proofs.Depth.{le-most}
use Rattle.json_tree.specs.declared.tree.Tree.{size-Tree}
use Rattle.json_tree.proofs.tree.+same.Goals as goal

pub same_items-same-requires : goal.same_items-same-requires
same_items-same-requires t c =
    (omega (arith, rw (← c.index-a-i.is) at (le-most (λ v. size-Tree v) c.args.a.now c.loop-i.i c.index-a-i.result c.loop-i-test.true)), tt)
