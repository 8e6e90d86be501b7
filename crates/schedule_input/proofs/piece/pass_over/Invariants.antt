use Rattle.std.proofs.Common.{◌<◌, ◌≤◌, length}
use Rattle.schedule_input.proofs.piece.pass_over.Given as goal

abbrev pub invariant-pieces : goal.invariant-pieces
invariant-pieces g l = record {
  piece : 0 < length l.piece;
  later : (g.S.Source.end l.fn.input).faults ≤ (g.S.Source.end l.input).faults;
}

abbrev pub decreases-pieces : goal.decreases-pieces
decreases-pieces g l = l.room
