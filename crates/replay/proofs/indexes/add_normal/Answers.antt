use Rattle.std.proofs.Common.{◌≡◌, rules, true, false}
use Rattle.std.specs.Prelude.{codes}
use Rattle.std.specs.Str.{bytes_eq}
use Rattle.doc_path.proofs.Steps.{on_ok}
use Rattle.coll_state.specs.Rows.{state_of}
use Rattle.coll_state.specs.Definitions.{definition_name}
use Rattle.replay.proofs.Calls.{passed_over, definition_added}
use Rattle.replay.proofs.indexes.add_normal.Goals as goal

pub returns-then-eq-clause-ok : goal.returns-then-eq-clause-ok
returns-then-eq-clause-ok c =
    let e : bytes_eq (definition_name c.args.def) (codes "_id_") ≡ true = search rules in
    passed_over c.args.ns.now c.args.def (state_of c.args.state.now) e

pub returns-clause-ok : goal.returns-clause-ok
returns-clause-ok c =
    let e : bytes_eq (definition_name c.args.def) (codes "_id_") ≡ false = search rules in
    on_ok c.add_index.result (λ new. definition_added c.args.ns.now c.args.def c.args.state.now c.add_index.new.self e new) c.add_index.ensures.ok
