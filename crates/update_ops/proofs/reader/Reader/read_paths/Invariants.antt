use Rattle.std.proofs.Common.{◌≡◌, ◌++◌, take}
use Rattle.std.specs.List.{flat_map}
use Rattle.doc_path.specs.Paths.{parts_of}
use Rattle.update_model.specs.Arguments.{operator_of}
use Rattle.update_model.specs.Reading.{met_at, listed}
use Rattle.update_ops.specs.Behind.{Goes}
use Rattle.update_ops.proofs.reader.Reader.read_paths.Given as goal

abbrev pub invariant-loop-entry : goal.invariant-loop-entry
invariant-loop-entry l = record {
  goes : Goes (flat_map (met_at l.name) (take l.entry-index l.entry-items)) l.fn.self.paths l.self.paths;
  operators : l.self.operators ≡ l.fn.self.operators ++ flat_map (λ f. listed (operator_of l.name (parts_of f.0) f.1)) (take l.entry-index l.entry-items);
}
