use Rattle.std.proofs.Common.{List, ℕ, ap, ◌∙◌}
use Rattle.std.specs.Str.{bytes_eq}
use Rattle.std.specs.FinMap as map
use Rattle.coll_state.specs.Walks.{names_left}
use Rattle.command_refusals.proofs.RowTests.{bytes_key, found_there, passed_over, none_there}
use Rattle.command_refusals.proofs.collection_rows.has_database.Goals as goal

pub returns-then-eq : goal.returns-then-eq
returns-then-eq c =
    found_there c.args.db.now c.in-Some.name.now (names_left c.names.left) (names_left c.next.new.self) (names_left c.namespaces-left.result) (map.entries c.args.state.now.tables) c.eq.result c.names.invariant c.in-Some.ensures.steps c.namespaces-left.ensures
    (c.eq.ensures ∙ (ap (λ (x : List ℕ). bytes_eq x c.args.db.now) c.as_str.ensures ∙ bytes_key c.in-Some.name.now.db c.args.db.now)) c.if-eq.true

pub names-preserved : goal.names-preserved
names-preserved c =
    passed_over c.args.db.now c.in-Some.name.now (names_left c.names.left) (names_left c.next.new.self) (names_left c.namespaces-left.result) c.eq.result c.names.invariant c.in-Some.ensures.steps
    (c.eq.ensures ∙ (ap (λ (x : List ℕ). bytes_eq x c.args.db.now) c.as_str.ensures ∙ bytes_key c.in-Some.name.now.db c.args.db.now)) c.if-eq.false

pub returns : goal.returns
returns c = none_there c.args.db.now (names_left c.names.left) (names_left c.namespaces-left.result) (map.entries c.args.state.now.tables) c.names.invariant c.in_default.ensures.steps.0 c.namespaces-left.ensures
