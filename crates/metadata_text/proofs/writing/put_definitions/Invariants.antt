use Rattle.std.proofs.Common.{◌≡◌, ◌++◌, take}
use Rattle.std.specs.Prelude.{map, string_bytes}
use Rattle.json_tree.specs.WellFormed.{AreWellFormedItems}
use Rattle.json_text.specs.Print.{text_of, behind_commas}
use Rattle.metadata_text.proofs.writing.put_definitions.Given as goal

abbrev pub invariant-loop-def : goal.invariant-loop-def
invariant-loop-def l = record {
  text : string_bytes l.out ≡ string_bytes l.fn.out ++ behind_commas (map text_of (take l.def-index l.defs));
  well_formed : AreWellFormedItems (take l.def-index l.defs);
}
