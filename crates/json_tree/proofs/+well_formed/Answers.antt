use Rattle.json_tree.specs.WellFormed.{IsWellFormed, IsWellFormedEntry}
use Rattle.json_tree.proofs.WellFormed.{all_more}
use Rattle.json_tree.proofs.+well_formed.Goals as goal

pub well_formed::fields-loop-entry-preserved : goal.well_formed::fields-loop-entry-preserved
well_formed::fields-loop-entry-preserved t c =
    all_more IsWellFormedEntry c.args.entries.now c.loop-entry.entry-index c.entry-item.result c.loop-entry-test.true c.entry-item.is c.loop-entry.invariant c.field.ensures

pub well_formed::items-loop-item-preserved : goal.well_formed::items-loop-item-preserved
well_formed::items-loop-item-preserved t c =
    all_more IsWellFormed c.args.items.now c.loop-item.item-index c.item-item.result c.loop-item-test.true c.item-item.is c.loop-item.invariant c.is_well_formed.ensures
