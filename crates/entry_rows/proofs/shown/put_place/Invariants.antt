use Rattle.std.proofs.Common.{◌≡◌, ◌++◌, take, string_bytes}
use Rattle.std.specs.List.{flat_map}
use Rattle.entry_rows.specs.Rows.{part_text}
use Rattle.entry_rows.proofs.shown.put_place.Given as goal

abbrev pub invariant-loop-part : goal.invariant-loop-part
invariant-loop-part l = string_bytes l.out ≡ string_bytes l.fn.out ++ flat_map part_text (take l.part-index l.part-items)
