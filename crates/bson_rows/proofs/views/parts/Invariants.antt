use Rattle.std.proofs.Common.{◌≡◌, map}
use Rattle.bson_rows.proofs.views.parts.Given as goal

abbrev pub invariant-loop-word : goal.invariant-loop-word
invariant-loop-word l = record {
  next : (goal.iterator-loop-word).can_next l.word-iterator;
  ends : (goal.iterator-loop-word).is_finite l.word-iterator;
  named : l.names ≡ map (λ x. x.now) l.yielded;
}
