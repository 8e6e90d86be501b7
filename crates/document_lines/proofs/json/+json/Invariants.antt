use Rattle.std.proofs.Common.{◌≡◌, ◌+◌, ◌-◌, ◌*◌, ◌<◌, ◌++◌, ◌∷◌, [], length, map, drop}
use Rattle.bson_value.specs.Alike.{ordered}
use Rattle.bson_view.specs.Parts.{bytes_of, values_of}
use Rattle.bson_view.specs.Views.{parts_left}
use Rattle.json_text.specs.Print.{with_commas}
use Rattle.document_lines.specs.Elems.{ordered_elems}
use Rattle.document_lines.specs.Json.{json_of, field_json, listed}
use Rattle.document_lines.proofs.json.+json.Given as goal

abbrev pub decreases-put_value : goal.decreases-put_value
decreases-put_value l = 5 * length l.elem.now.value.now + 1

abbrev pub decreases-put_scoped : goal.decreases-put_scoped
decreases-put_scoped l = 5 * length l.elem.now.value.now

abbrev pub decreases-put_field : goal.decreases-put_field
decreases-put_field l = 5 * length l.elem.now.value.now + 2

abbrev pub decreases-put_document : goal.decreases-put_document
decreases-put_document l = 5 * l.room - 1

abbrev pub decreases-put_items : goal.decreases-put_items
decreases-put_items l = 5 * l.room - 1

abbrev pub invariant-put_document-loop-elem : goal.invariant-put_document-loop-elem
invariant-put_document-loop-elem l =
    l.out.items ++ listed l.first (map field_json (ordered_elems (drop l.elem-index l.fields))) ≡ (l.fn.out.items ++ 123 ∷ []) ++ with_commas (map field_json (ordered_elems l.fields))

abbrev pub invariant-put_items-loop-elem : goal.invariant-put_items-loop-elem
invariant-put_items-loop-elem l = record {
  bytes : l.out.items ++ listed l.first (map json_of (map ordered (values_of (parts_left l.elem-iterator)))) ≡ (l.fn.out.items ++ 91 ∷ []) ++ with_commas (map json_of (map ordered (values_of (parts_left l.elements))));
  fits : length (bytes_of (parts_left l.elem-iterator)) < l.room;
}
