use Rattle.std.proofs.Common.{◌≡◌, map as each, string_bytes}
use Rattle.row_script.proofs.texts.all_words.Given as goal

abbrev pub invariant-loop-word : goal.invariant-loop-word
invariant-loop-word l = record {
  next : (goal.iterator-loop-word).can_next l.word-iterator;
  ends : (goal.iterator-loop-word).is_finite l.word-iterator;
  read : each string_bytes l.words.items ≡ each (λ x. x.now) l.yielded;
}
