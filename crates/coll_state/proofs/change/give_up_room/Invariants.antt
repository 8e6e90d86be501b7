use Rattle.std.proofs.Common.{◌≡◌}
use Rattle.coll_state.specs.Tables.{tables_in}
use Rattle.coll_state.proofs.change.give_up_room.Given as goal

abbrev pub invariant-loop-change : goal.invariant-loop-change
invariant-loop-change l = tables_in l.tables ≡ tables_in l.fn.tables
