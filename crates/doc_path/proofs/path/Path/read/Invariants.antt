use Rattle.std.proofs.Common.{◌≡◌, length, drop, map}
use Rattle.doc_path.specs.Paths.{parts_of, first_fault}
use Rattle.doc_path.proofs.path.Path.read.Given as goal

abbrev pub invariant-loop-part : goal.invariant-loop-part
invariant-loop-part l = record {
  next : (goal.iterator-loop-part).can_next l.part-iterator;
  ends : (goal.iterator-loop-part).is_finite l.part-iterator;
  named : l.names ≡ map (λ x. x.now) l.yielded;
  passed : first_fault (parts_of l.text) ≡ first_fault (drop (length l.yielded) (parts_of l.text));
}
