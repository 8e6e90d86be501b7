use Rattle.std.proofs.Common.{◌+◌, ◌*◌, max, take}
use denote.Param.Weighed.{most}
use Rattle.json_tree.specs.declared.tree.Tree.{size-Tree}
use Rattle.json_tree.specs.WellFormed.{AreWellFormedItems, AreWellFormedEntries}
use Rattle.json_tree.proofs.+well_formed.Given as goal

abbrev pub decreases-well_formed::field : goal.decreases-well_formed::field
decreases-well_formed::field l = 3 * size-Tree l.entry.now.1 + 1

abbrev pub decreases-well_formed::fields : goal.decreases-well_formed::fields
decreases-well_formed::fields l = 3 * most (λ e. max 0 (size-Tree e.1)) l.entries.now + 2

abbrev pub decreases-well_formed::items : goal.decreases-well_formed::items
decreases-well_formed::items l = 3 * most (λ v. size-Tree v) l.items.now + 2

abbrev pub decreases-tree::Tree::is_well_formed : goal.decreases-tree::Tree::is_well_formed
decreases-tree::Tree::is_well_formed l = 3 * size-Tree l.self.now

abbrev pub invariant-well_formed::fields-loop-entry : goal.invariant-well_formed::fields-loop-entry
invariant-well_formed::fields-loop-entry l = AreWellFormedEntries (take l.entry-index l.entries)

abbrev pub invariant-well_formed::items-loop-item : goal.invariant-well_formed::items-loop-item
invariant-well_formed::items-loop-item l = AreWellFormedItems (take l.item-index l.items)
