use Rattle.std.proofs.Common.{◌+◌, ◌-◌, ◌<◌, ◌≤◌, length}
use Rattle.schedule_input.specs.Inputs.{Grown}
use Rattle.schedule_input.proofs.Pieces.{lacks_front}
use Rattle.schedule_input.proofs.piece.read_line.Given as goal

abbrev pub invariant-pieces : goal.invariant-pieces
invariant-pieces g l = record {
  read : Grown l.fn.unread l.unread (g.S.Source.end l.fn.input).bytes (g.S.Source.end l.input).bytes;
  searched : l.searched ≤ length l.unread;
  none : lacks_front l.searched l.unread;
  within : l.end + length l.unread ≤ 67108865;
  piece : 0 < length l.piece;
  later : (g.S.Source.end l.fn.input).faults ≤ (g.S.Source.end l.input).faults;
}

abbrev pub decreases-pieces : goal.decreases-pieces
decreases-pieces g l = 67108865 - l.end - length l.unread
