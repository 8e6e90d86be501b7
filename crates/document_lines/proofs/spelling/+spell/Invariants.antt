use Rattle.std.proofs.Common.{◌≡◌, ◌+◌, ◌-◌, ◌*◌, ◌<◌, ◌++◌, take, map, length}
use Rattle.bson_value.specs.Alike.{ordered}
use Rattle.bson_value.specs.Spelling.{spelling, elements_of, items_of, numbered}
use Rattle.bson_view.specs.Parts.{bytes_of, values_of}
use Rattle.bson_view.specs.Views.{parts_left}
use Rattle.document_lines.specs.Elems.{ordered_elems}
use Rattle.document_lines.proofs.spelling.+spell.Given as goal

abbrev pub decreases-put_value : goal.decreases-put_value
decreases-put_value l = 5 * length l.elem.now.value.now + 1

abbrev pub decreases-put_document_value : goal.decreases-put_document_value
decreases-put_document_value l = 5 * length l.elem.now.value.now

abbrev pub decreases-put_array_value : goal.decreases-put_array_value
decreases-put_array_value l = 5 * length l.elem.now.value.now

abbrev pub decreases-put_scoped : goal.decreases-put_scoped
decreases-put_scoped l = 5 * length l.elem.now.value.now

abbrev pub decreases-put_element : goal.decreases-put_element
decreases-put_element l = 5 * length l.elem.now.value.now + 2

abbrev pub decreases-put_document : goal.decreases-put_document
decreases-put_document l = 5 * l.room - 1

abbrev pub decreases-put_array : goal.decreases-put_array
decreases-put_array l = 5 * l.room - 1

abbrev pub decreases-put_fields : goal.decreases-put_fields
decreases-put_fields l = 5 * l.room - 2

abbrev pub decreases-put_items : goal.decreases-put_items
decreases-put_items l = 5 * l.room - 2

abbrev pub invariant-put_fields-loop-elem : goal.invariant-put_fields-loop-elem
invariant-put_fields-loop-elem l = l.out.items ≡ l.fn.out.items ++ elements_of (ordered_elems (take l.elem-index l.fields))

abbrev pub invariant-put_items-loop-elem : goal.invariant-put_items-loop-elem
invariant-put_items-loop-elem l = record {
  bytes : l.out.items ++ numbered l.index (map spelling (map ordered (values_of (parts_left l.elem-iterator)))) ≡ l.fn.out.items ++ items_of (map ordered (values_of (parts_left l.elements)));
  fits : length (bytes_of (parts_left l.elem-iterator)) < l.room;
  count : l.index + length (parts_left l.elem-iterator) ≡ length (parts_left l.elements);
}
