use Rattle.std.proofs.Common.{length, ap, arith}
use Rattle.bson_view.specs.Views.{parts_left}
use Rattle.document_lines.proofs.Fields.{fewer_parts}
use Rattle.document_lines.proofs.plain.are_plain.Goals as goal

pub overflow_add-index : goal.overflow_add-index
overflow_add-index c = omega (arith, c.loop-elem.invariant.count, ap length c.in-Some.ensures.steps, fewer_parts (parts_left c.args.elements), c.requires, c.ranges.room)
