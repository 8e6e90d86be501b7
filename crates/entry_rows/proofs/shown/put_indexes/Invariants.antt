use Rattle.std.proofs.Common.{◌≡◌, ◌++◌, take, string_bytes}
use Rattle.std.specs.Prelude.{codes}
use Rattle.std.specs.List.{flat_map}
use Rattle.entry_rows.specs.Rows.{definition_text}
use Rattle.entry_rows.proofs.shown.put_indexes.Given as goal

abbrev pub invariant-loop-def : goal.invariant-loop-def
invariant-loop-def l = string_bytes l.out ≡ string_bytes l.fn.out ++ codes "indexes" ++ flat_map definition_text (take l.def-index l.defs)
