use Rattle.std.proofs.Common.{◌≤◌, ◌-◌, length, take, drop}
use Rattle.std.specs.Prelude.{◌≡◌}
use Rattle.std.specs.Io.KnownBytes.{Appends}
use Rattle.tool_io.proofs.standard.StdSinkSink.write.Given as goal

abbrev pub invariant-writes : goal.invariant-writes
invariant-writes g l = record {
  later : l.fn.self.faults ≤ l.self-inside.faults;
  short : length l.rest ≤ length l.fn.piece;
  rest : l.rest ≡ drop (length l.fn.piece - length l.rest) l.fn.piece;
  taken : Appends (g.W.Write.contents l.fn.self.inner) (g.W.Write.contents l.self-inside.inner) (take (length l.fn.piece - length l.rest) l.fn.piece);
}

abbrev pub decreases-writes : goal.decreases-writes
decreases-writes g l = length l.rest
