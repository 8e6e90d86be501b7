use Rattle.std.proofs.Common.{subst, OnErr}
use Rattle.tool_io.specs.Causes.{AppendsFront}
use Rattle.coll_state.specs.Rows.{Rows, state_of}
use Rattle.state_listing.specs.Listing.{listing}
use Rattle.store_listing.proofs.listing.list_store.Goals as goal

pub returns-clause-err : goal.returns-clause-err
returns-clause-err g c =
    let before = (g.K.Sink.end c.args.output.now).bytes in
    let after = (g.K.Sink.end c.list.new.sink).bytes in
    subst (λ (r : Rows). OnErr c.list.result (AppendsFront before after (listing c.args.form (state_of r)))) c.state.ensures c.list.ensures.err
