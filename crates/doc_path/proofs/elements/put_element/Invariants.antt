use Rattle.std.proofs.Common.{◌≡◌, length, take}
use Rattle.bson_value.specs.declared.value.Value.{Value}
use Rattle.bson_value.specs.Place.{put_item}
use Rattle.doc_path.proofs.elements.put_element.Given as goal

abbrev pub invariant-pad : goal.invariant-pad
invariant-pad l = record {
  front : take l.count l.items ≡ l.fn.items;
  padded : (a : Value) → put_item l.items l.at a ≡ put_item l.fn.items l.at a;
  kept : l.value ≡ l.fn.value;
  count : length l.items ≡ l.counter;
}
