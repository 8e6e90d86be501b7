use Rattle.std.proofs.Common.{arith}
use Rattle.bson_value.proofs.Depth.{le-most}
use Rattle.bson_value.specs.declared.value.Value.{size-Value}
use Rattle.bson_value.proofs.value.+same.Goals as goal

pub same_items-same-requires : goal.same_items-same-requires
same_items-same-requires t c =
    (omega (arith, rw (← c.index-a-i.is) at (le-most (λ v. size-Value v) c.args.a.now c.loop-i.i c.index-a-i.result c.loop-i-test.true)), tt)
