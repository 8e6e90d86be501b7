use Rattle.std.proofs.Common.{sym, ap, ◌∙◌}
use Rattle.coll_state.proofs.Named.{table_of, get_table, seen}
use Rattle.coll_state.proofs.tables.get.Goals as goal

pub returns : goal.returns
returns c = seen c.get.result ∙ (ap table_of c.get.ensures.value ∙ sym (get_table c.args.tables.now c.args.ns.now))
