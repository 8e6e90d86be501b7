use Rattle.std.proofs.Common.{◌≡◌, ◌++◌, take, string_bytes}
use Rattle.std.specs.List.{flat_map}
use Rattle.entry_rows.specs.Rows.{touch_text}
use Rattle.entry_rows.proofs.shown.put_touches.Given as goal

abbrev pub invariant-loop-touch : goal.invariant-loop-touch
invariant-loop-touch l = string_bytes l.out ≡ string_bytes l.fn.out ++ flat_map touch_text (take l.touch-index l.touches)
