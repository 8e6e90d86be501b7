use Rattle.std.proofs.Common.{◌+◌, ◌*◌, max, take}
use denote.Param.Weighed.{most}
use Rattle.std.specs.List.{AllByRecursion}
use Rattle.bson_value.specs.declared.value.Value.{size-Value}
use Rattle.bson_value.specs.WellFormed.{IsName, AreWellFormedItems, AreWellFormedFields}
use Rattle.bson_value.proofs.+well_formed.Given as goal

abbrev pub decreases-well_formed::field : goal.decreases-well_formed::field
decreases-well_formed::field l = 4 * size-Value l.entry.now.1 + 1

abbrev pub decreases-well_formed::fields : goal.decreases-well_formed::fields
decreases-well_formed::fields l = 4 * most (λ e. max 0 (size-Value e.1)) l.entries.now + 2

abbrev pub decreases-well_formed::Fields+Value::is_well_formed : goal.decreases-well_formed::Fields+Value::is_well_formed
decreases-well_formed::Fields+Value::is_well_formed l = 4 * most (λ e. max 0 (size-Value e.1)) l.self.now + 3

abbrev pub decreases-well_formed::items : goal.decreases-well_formed::items
decreases-well_formed::items l = 4 * most (λ v. size-Value v) l.items.now + 2

abbrev pub decreases-value::Value::is_well_formed : goal.decreases-value::Value::is_well_formed
decreases-value::Value::is_well_formed l = 4 * size-Value l.self.now

abbrev pub invariant-well_formed::fields-loop-entry : goal.invariant-well_formed::fields-loop-entry
invariant-well_formed::fields-loop-entry l = record {
  names : AllByRecursion (λ e. IsName e.0) (take l.entry-index l.entries);
  values : AreWellFormedFields (take l.entry-index l.entries);
}

abbrev pub invariant-well_formed::items-loop-item : goal.invariant-well_formed::items-loop-item
invariant-well_formed::items-loop-item l = AreWellFormedItems (take l.item-index l.items)
