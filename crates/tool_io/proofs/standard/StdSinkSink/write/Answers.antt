use Rattle.std.proofs.Common.{arith}
use Rattle.tool_io.proofs.Pieces.{still_short, still_rest, still_taken}
use Rattle.tool_io.proofs.standard.StdSinkSink.write.Goals as goal

pub writes-preserved : goal.writes-preserved
writes-preserved g c =
    let now = c.writes.invariant in
    record {
      later = omega arith;
      short = still_short _ c.writes.rest.now _ now.short;
      rest = still_rest _ c.writes.rest.now _ now.short c.in-Ok.ensures.bound now.rest;
      taken = still_taken _ c.writes.rest.now _ _ _ _ now.short c.in-Ok.ensures.bound now.rest now.taken c.in-Ok.ensures.bytes;
    }
