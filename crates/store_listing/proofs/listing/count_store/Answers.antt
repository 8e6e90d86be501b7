use Rattle.std.proofs.Common.{ap, ◌∙◌}
use Rattle.coll_state.specs.Rows.{Rows, state_of}
use Rattle.index_build.specs.Faults.{fault}
use Rattle.store_listing.proofs.Faultless.{never_parallel, never_duplicate}
use Rattle.store_listing.proofs.listing.count_store.Goals as goal

pub unreachable-requires : goal.unreachable-requires
unreachable-requires c =
    never_parallel _ _ _ _ _ (ap (λ (r : Rows). fault (state_of r)) c.state.ensures ∙ c.held_are_faultless.ensures c.args.store.now.rows c.indexes_hold.ensures)
    c.in-Err-Parallel.field-0-is c.in-Err-Parallel.ensures.fault

pub unreachable-requires-in-Err-Duplicate : goal.unreachable-requires-in-Err-Duplicate
unreachable-requires-in-Err-Duplicate c =
    never_duplicate _ _ _ _ _ _ (ap (λ (r : Rows). fault (state_of r)) c.state.ensures ∙ c.held_are_faultless.ensures c.args.store.now.rows c.indexes_hold.ensures)
    c.in-Err-Duplicate.field-0-is c.in-Err-Duplicate.ensures.fault
