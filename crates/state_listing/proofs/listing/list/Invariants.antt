use Rattle.std.proofs.Common.{◌≤◌}
use Rattle.coll_state.specs.Rows.{state_of}
use Rattle.coll_state.specs.Walks.{names_left}
use Rattle.state_listing.specs.Listing.{listing}
use Rattle.state_listing.proofs.Fronts.{Left}
use Rattle.state_listing.proofs.Texts.{collections_text}
use Rattle.state_listing.proofs.listing.list.Given as goal

abbrev pub invariant-collections : goal.invariant-collections
invariant-collections g l = record {
  left : Left (g.K.Sink.end l.fn.sink).bytes (g.K.Sink.end l.sink).bytes (listing l.form (state_of l.state)) (collections_text l.form (state_of l.state) (names_left l.left));
  later : (g.K.Sink.end l.fn.sink).faults ≤ (g.K.Sink.end l.sink).faults;
}
