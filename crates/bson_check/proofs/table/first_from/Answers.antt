use Rattle.std.proofs.Common.{sym, ◌∙◌, arith}
use Rattle.bson_check.proofs.Order.{low_before, high_behind}
use Rattle.bson_check.proofs.table.first_from.Goals as goal

pub halves-preserved-then-is_below : goal.halves-preserved-then-is_below
halves-preserved-then-is_below c = record {
  ordered = omega arith;
  within = omega arith;
  below = λ i lt. low_before c.args.body.now c.args.block.now c.requires c.args.name.now i _ (omega arith) (omega arith) (sym c.is_below.ensures ∙ c.if-is_below.true);
  above = c.halves.invariant.above;
}

pub halves-preserved : goal.halves-preserved
halves-preserved c = record {
  ordered = omega arith;
  within = omega arith;
  below = c.halves.invariant.below;
  above = λ i le lt. high_behind c.args.body.now c.args.block.now c.requires c.args.name.now _ i le lt (sym c.is_below.ensures ∙ c.if-is_below.false);
}
