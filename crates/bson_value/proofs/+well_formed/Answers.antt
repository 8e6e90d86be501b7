use Rattle.bson_value.specs.WellFormed.{IsName, IsWellFormed}
use Rattle.bson_value.proofs.WellFormed.{all_more}
use Rattle.bson_value.proofs.+well_formed.Goals as goal

pub well_formed::fields-loop-entry-preserved : goal.well_formed::fields-loop-entry-preserved
well_formed::fields-loop-entry-preserved t c =
    let i = c.loop-entry.entry-index in
    let e = c.entry-item.result in
    record {
      names = all_more (λ f. IsName f.0) c.args.entries.now i e c.loop-entry-test.true c.entry-item.is c.loop-entry.invariant.names c.field.ensures.name;
      values = all_more (λ f. IsWellFormed f.1) c.args.entries.now i e c.loop-entry-test.true c.entry-item.is c.loop-entry.invariant.values c.field.ensures.value;
    }

pub well_formed::items-loop-item-preserved : goal.well_formed::items-loop-item-preserved
well_formed::items-loop-item-preserved t c =
    all_more IsWellFormed c.args.items.now c.loop-item.item-index c.item-item.result c.loop-item-test.true c.item-item.is c.loop-item.invariant c.is_well_formed.ensures
