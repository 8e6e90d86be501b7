use Rattle.std.proofs.Common.{◌≡◌, ◌++◌, take, map}
use Rattle.bson_value.specs.Spelling.{items_of}
use Rattle.entry_model.specs.Spelling.{item_value}
use Rattle.entry_writer.proofs.group.put_items.Given as goal

abbrev pub invariant-loop-at : goal.invariant-loop-at
invariant-loop-at l = l.out.items ≡ l.fn.out.items ++ items_of (take l.at (map item_value l.entries))
