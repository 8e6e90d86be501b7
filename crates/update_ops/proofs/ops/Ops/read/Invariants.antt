use Rattle.std.proofs.Common.{◌≡◌, [], take}
use Rattle.std.specs.List.{flat_map}
use Rattle.update_model.specs.Reading.{all_met, operators}
use Rattle.update_ops.specs.Behind.{Goes}
use Rattle.update_ops.proofs.ops.Ops.read.Given as goal

abbrev pub invariant-loop-entry : goal.invariant-loop-entry
invariant-loop-entry l = record {
  goes : Goes (all_met (take l.entry-index l.entry-items)) [] l.reader.paths;
  operators : l.reader.operators ≡ operators (take l.entry-index l.entry-items);
}
