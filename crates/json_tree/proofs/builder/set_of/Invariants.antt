use Rattle.std.proofs.Common.{take}
use Rattle.containers.specs.Entries.{names_of}
use Rattle.json_tree.specs.Covers.{Covers}
use Rattle.json_tree.proofs.builder.set_of.Given as goal

abbrev pub invariant-loop-entry : goal.invariant-loop-entry
invariant-loop-entry g l = Covers l.names (names_of (take l.entry-index l.entries))
