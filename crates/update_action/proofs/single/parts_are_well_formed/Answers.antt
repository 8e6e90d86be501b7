use Rattle.bson_value.proofs.WellFormed.{all_more}
use Rattle.update_action.specs.Single.{IsWellFormedPart}
use Rattle.update_action.proofs.single.parts_are_well_formed.Goals as goal

pub loop-part-preserved : goal.loop-part-preserved
loop-part-preserved c =
    all_more IsWellFormedPart c.args.parts.now c.loop-part.part-index c.part-item.result c.loop-part-test.true c.part-item.is c.loop-part.invariant c.part_is_well_formed.ensures
