use Rattle.std.proofs.Common.{suc, ◌≤◌, length, []}
use Rattle.json_text.specs.Reading.{steps_at, piece_at}
use Rattle.json_text.proofs.Loop.{Left}
use Rattle.json_text.proofs.tokens.pieces.Given as goal

abbrev pub invariant-pieces : goal.invariant-pieces
invariant-pieces l = record {
  left : Left (piece_at l.start l.end) l.end l.text.items l.rest (steps_at (piece_at l.start l.end) (suc (length l.bytes)) l.end [] l.bytes);
  fits : length l.rest ≤ length l.bytes;
}

abbrev pub decreases-pieces : goal.decreases-pieces
decreases-pieces l = length l.rest
