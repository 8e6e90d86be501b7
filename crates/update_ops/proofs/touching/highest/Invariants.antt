use Rattle.std.proofs.Common.{◌≡◌, List, ℕ, take}
use Rattle.update_ops.specs.Prefixes.{has_front}
use Rattle.update_ops.specs.PlaceKeys.{is_covered, AreCleanMarks}
use Rattle.update_ops.proofs.touching.highest.Given as goal

abbrev pub invariant-loop-mark : goal.invariant-loop-mark
invariant-loop-mark l = record {
  covers : (t : List ℕ) → has_front l.tops t ≡ is_covered (take l.mark-index l.marks) t;
  clean : AreCleanMarks (take l.mark-index l.marks);
}
