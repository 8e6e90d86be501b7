use Rattle.std.proofs.Common.{sym, ap, ◌∙◌}
use Rattle.coll_state.proofs.Named.{table_of, get_table, taken_out}
use Rattle.coll_state.proofs.tables.take.Goals as goal

pub returns-clause-collection : goal.returns-clause-collection
returns-clause-collection c = ap table_of c.remove.ensures.value ∙ sym (get_table c.args.tables.now c.args.ns.now)

pub returns-clause-tables : goal.returns-clause-tables
returns-clause-tables c = taken_out c.args.tables.now c.remove.new.self c.args.ns.now c.remove.ensures.updates.0
