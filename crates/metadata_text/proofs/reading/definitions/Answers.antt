use Rattle.metadata_text.specs.Metadata.{by_bytes}
use Rattle.metadata_text.proofs.Definitions.{none_gathered, no_definitions, more, all_gathered}
use Rattle.metadata_text.proofs.reading.definitions.Goals as goal

pub loop-tree-init : goal.loop-tree-init
loop-tree-init c = rw c.new-kept.ensures.empty (none_gathered c.args.trees.now)

pub returns-in_default : goal.returns-in_default
returns-in_default c = no_definitions c.args.trees.now c.loop-tree.tree-index c.tree-item.result c.loop-tree-test.true c.tree-item.is c.in_default.ensures

pub loop-tree-preserved : goal.loop-tree-preserved
loop-tree-preserved c = more (by_bytes c.loop-tree.kept.entries) c.args.trees.now c.loop-tree.tree-index c.tree-item.result c.in-Some.name.now c.loop-tree-test.true c.tree-item.is c.in-Some.ensures c.loop-tree.invariant _ c.in_ok-keep.ensures

pub defs-init : goal.defs-init
defs-init c = rw c.new-defs.ensures (all_gathered (by_bytes c.loop-tree.kept.entries) c.args.trees.now c.loop-tree.tree-index c.loop-tree-test.false c.loop-tree.invariant)
