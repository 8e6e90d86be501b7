use Rattle.std.proofs.Common.{◌≡◌, ◌+◌, ◌-◌, ◌≤◌, length}
use Rattle.archive_format.specs.Archive.{limit}
use Rattle.demux.specs.Steps.{stage_of}
use Rattle.demux.specs.Told.{Stands}
use Rattle.demux.proofs.run.Demux.run.Given as goal

abbrev pub invariant-turns : goal.invariant-turns
invariant-turns g l =
    let taker = g.T.DocTaker in
    record {
      stands : Stands (g.S.Source.end l.fn.source).bytes (g.S.Source.end l.source).bytes (stage_of l.progress) l.at l.window.bytes (taker.adds l.fn.taker) (taker.known l.fn.taker) (taker.known l.taker);
      same : taker.adds l.taker ≡ taker.adds l.fn.taker;
      stops : taker.stops l.taker ≡ 0;
      starved : taker.starved l.taker ≡ 0;
      within : l.at ≤ limit;
      size : l.window.size ≡ 16793600;
      room : length l.window.bytes ≤ 16793600;
      later : (g.S.Source.end l.fn.source).faults ≤ (g.S.Source.end l.source).faults;
    }

abbrev pub decreases-turns : goal.decreases-turns
decreases-turns g l = (limit + limit + 16793601) - (l.at + (l.at + length l.window.bytes))
