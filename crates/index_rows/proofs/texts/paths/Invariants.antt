use Rattle.std.proofs.Common.{◌≡◌, All, None, map as each}
use Rattle.doc_path.specs.Paths.{parts_of, path_fault}
use Rattle.index_rows.proofs.texts.paths.Given as goal

abbrev pub invariant-loop-field : goal.invariant-loop-field
invariant-loop-field l = record {
  next : (goal.iterator-loop-field).can_next l.field-iterator;
  ends : (goal.iterator-loop-field).is_finite l.field-iterator;
  read : l.paths ≡ each parts_of (each (λ x. x.now) l.yielded);
  faultless : All (λ field. path_fault field ≡ None) (each (λ x. x.now) l.yielded);
}
