use Rattle.std.proofs.Common.{◌≡◌, ◌≤◌, ◌++◌, length, take}
use Rattle.coll_state.specs.Walks.{looks_left}
use Rattle.copy_cursor.specs.Looks.{AllShort, texts_shown, last_shown}
use Rattle.copy_cursor.proofs.cursor.add_all.Given as goal

abbrev pub invariant-documents : goal.invariant-documents
invariant-documents l = record {
  texts : l.out ++ texts_shown (looks_left l.left) ≡ l.fn.out ++ texts_shown (looks_left l.initial.left);
  last : last_shown l.last (looks_left l.left) ≡ last_shown l.position (looks_left l.initial.left);
  short : AllShort (looks_left l.left);
  front : take (length l.fn.out) l.out ≡ l.fn.out;
  longer : length l.fn.out ≤ length l.out;
}

abbrev pub decreases-documents : goal.decreases-documents
decreases-documents l = length (looks_left l.left)
