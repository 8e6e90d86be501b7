use Rattle.std.proofs.Common.{map}
use Rattle.std.specs.List.{FoldsTo}
use Rattle.bson_rows.specs.Rows.{IsPlaced}
use Rattle.bson_rows.proofs.orders.count_words.Given as goal

abbrev pub invariant-loop-word : goal.invariant-loop-word
invariant-loop-word l = record {
  next : (goal.iterator-loop-word).can_next l.word-iterator;
  ends : (goal.iterator-loop-word).is_finite l.word-iterator;
  counted : FoldsTo IsPlaced (l.fn.counts.entries, 0) (map (λ x. x.now) l.yielded) (l.counts.entries, l.place);
}
