use Rattle.std.proofs.Common.{◌≡◌, ◌+◌, ◌<◌, length}
use Rattle.bson_view.specs.Parts.{bytes_of}
use Rattle.bson_view.specs.Views.{parts_left}
use Rattle.document_lines.proofs.PlainArrays.{ArePlain}
use Rattle.document_lines.proofs.plain.are_plain.Given as goal

abbrev pub invariant-loop-elem : goal.invariant-loop-elem
invariant-loop-elem l = record {
  plain : ArePlain l.index (parts_left l.elem-iterator) → ArePlain 0 (parts_left l.elements);
  fits : length (bytes_of (parts_left l.elem-iterator)) < l.room;
  count : l.index + length (parts_left l.elem-iterator) ≡ length (parts_left l.elements);
}
