use Rattle.std.proofs.Common.{◌≤◌, length}
use Rattle.state_listing.specs.Listed.{index_lines}
use Rattle.state_listing.proofs.Fronts.{Left}
use Rattle.state_listing.proofs.listing.list_indexes.Given as goal

abbrev pub invariant-indexes : goal.invariant-indexes
invariant-indexes g l = record {
  left : Left (g.K.Sink.end l.fn.sink).bytes (g.K.Sink.end l.sink).bytes (index_lines l.counts l.ns l.defs) (index_lines l.counts l.ns l.left);
  later : (g.K.Sink.end l.fn.sink).faults ≤ (g.K.Sink.end l.sink).faults;
}

abbrev pub decreases-indexes : goal.decreases-indexes
decreases-indexes g l = length l.left
