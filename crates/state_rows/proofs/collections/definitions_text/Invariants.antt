use Rattle.std.proofs.Common.{◌≡◌, ◌++◌, take, string_bytes}
use Rattle.std.specs.List.{flat_map}
use Rattle.json_text.specs.Print.{text_of}
use Rattle.state_rows.specs.Rows.{definition_text}
use Rattle.state_rows.proofs.collections.definitions_text.Given as goal

abbrev pub invariant-loop-def : goal.invariant-loop-def
invariant-loop-def l = string_bytes l.text ≡ text_of l.options ++ flat_map definition_text (take l.def-index l.def-items)
