use Rattle.std.proofs.Common.{◌+◌, ◌*◌, ◌<◌, ◌^◌, length}
use Rattle.std.specs.Prelude.{◌↔◌}
use Rattle.bson_view.specs.Parts.{AreNames, bytes_of}
use Rattle.bson_view.specs.Views.{parts_left}
use Rattle.bson_spelling.specs.Spelled.{AreSpelledFields, AreSpelledItems}
use Rattle.bson_spelling.proofs.walk.+walk.Given as goal

abbrev pub decreases-is_value : goal.decreases-is_value
decreases-is_value l = 4 * l.levels + 3

abbrev pub decreases-is_scoped : goal.decreases-is_scoped
decreases-is_scoped l = 4 * l.levels + 2

abbrev pub decreases-is_document : goal.decreases-is_document
decreases-is_document l = 4 * l.levels + 1

abbrev pub decreases-is_array : goal.decreases-is_array
decreases-is_array l = 4 * l.levels + 1

abbrev pub decreases-are_fields : goal.decreases-are_fields
decreases-are_fields l = 4 * l.levels + 4

abbrev pub decreases-are_items : goal.decreases-are_items
decreases-are_items l = 4 * l.levels + 4

abbrev pub invariant-are_fields-loop-elem : goal.invariant-are_fields-loop-elem
invariant-are_fields-loop-elem l = record {
  same : AreSpelledFields l.levels (parts_left l.elements) ↔ AreSpelledFields l.levels (parts_left l.elem-iterator);
  short : length (bytes_of (parts_left l.elem-iterator)) < 2 ^ 31;
}

abbrev pub invariant-are_items-loop-elem : goal.invariant-are_items-loop-elem
invariant-are_items-loop-elem l = record {
  same : AreSpelledItems l.levels 0 (parts_left l.elements) ↔ AreSpelledItems l.levels l.index (parts_left l.elem-iterator);
  short : l.index + length (bytes_of (parts_left l.elem-iterator)) < 2 ^ 31;
  names : AreNames (parts_left l.elem-iterator);
}
