use Rattle.std.proofs.Common.{arith, ◌≡◌, ap, ◌∙◌, rules, []}
use Rattle.std.specs.FinMap as map
use Rattle.coll_state.specs.Rows.{Rows}
use Rattle.coll_state.specs.Walks.{names_left}
use Rattle.dump_copies.proofs.First.{names_init, first_init, writable_init, names_push, first_push, writable_push, names_all, next_there, first_copies, begun_are, none_of_oplog}
use Rattle.dump_copies.proofs.copies.Copies.begin.Goals as goal

pub collections-init : goal.collections-init
collections-init c = let items : c.new-items.result.items ≡ [] = search rules in record {
  names = names_init c.new-items.result.items (names_left c.namespaces-left.result) (map.keys c.args.store.now.rows.tables) items (c.namespaces-left.ensures ∙ ap (λ (s : Rows). map.keys s.tables) c.state.ensures);
  first = first_init c.args.store.now.rows.tables c.new-items.result.items items;
  writable = writable_init c.new-items.result.items items;
}

pub begin_one-requires : goal.begin_one-requires
begin_one-requires c =
    next_there c.args.store.now.rows.tables c.collections.items.items (names_left c.collections.left) (names_left c.next.new.self) c.in-Some.ns.now c.collections.invariant.names c.in-Some.ensures.steps

pub collections-preserved : goal.collections-preserved
collections-preserved c =
    let cs = c.collections.items.items in
    let next = c.push.new.self.items in
    let n = c.in-Some.ns.now in
    let one = c.in_ok-copy.copy in
    let pushed = c.in_ok-push.ensures.items in
    let first = c.in_ok-copy.ensures.first in
    record {
      names = names_push cs next (names_left c.collections.left) (names_left c.next.new.self) (map.keys c.args.store.now.rows.tables) n one c.collections.invariant.names c.in-Some.ensures.steps pushed first.0;
      first = first_push c.args.store.now.rows.tables cs next n one pushed c.collections.invariant.first first;
      writable = writable_push cs next n one pushed c.collections.invariant.writable first.0 c.in_ok-copy.ensures.writable;
    }

pub invariant_of-result : goal.invariant_of-result
invariant_of-result c =
    let names = names_all c.collections.items.items (names_left c.collections.left) (map.keys c.args.store.now.rows.tables) c.collections.invariant.names c.in_default.ensures.steps.0 in
    first_copies c.args.store.now.rows.tables c.collections.items.items c.len-open.result c.collections.invariant.first names (let e = c.len-open.ensures in let f = c.collections.items.ok.0 in omega (arith, e, f))

pub returns-clause-begun : goal.returns-clause-begun
returns-clause-begun c =
    let names = names_all c.collections.items.items (names_left c.collections.left) (map.keys c.args.store.now.rows.tables) c.collections.invariant.names c.in_default.ensures.steps.0 in
    begun_are c.args.store.now.rows c.collections.items.items c.collections.invariant.first names

pub returns-clause-others : goal.returns-clause-others
returns-clause-others c = none_of_oplog c.collections.items.items c.collections.invariant.writable
