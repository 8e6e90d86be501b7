use Rattle.std.proofs.Common.{◌≡◌, ◌++◌, take, Some, length}
use Rattle.metadata_text.specs.Metadata.{by_bytes, definitions_of, trees_of}
use Rattle.metadata_text.proofs.Definitions.{Gathered}
use Rattle.metadata_text.proofs.reading.definitions.Given as goal

abbrev pub invariant-loop-tree : goal.invariant-loop-tree
invariant-loop-tree l = Gathered (by_bytes l.kept.entries) (take l.tree-index l.trees)

abbrev pub invariant-defs : goal.invariant-defs
invariant-defs l = definitions_of l.trees ≡ Some (l.defs ++ trees_of (by_bytes l.kept.entries))

abbrev pub decreases-defs : goal.decreases-defs
decreases-defs l = length l.kept.entries
