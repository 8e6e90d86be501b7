use Rattle.std.proofs.Common.{◌≡◌, sym, ◌∙◌, subst, arith}
use Rattle.std.specs.FinMap as map
use Rattle.coll_state.specs.Rows.{state_of}
use Rattle.coll_state.specs.Walks.{names_left}
use Rattle.index_build.proofs.Walks.{names_of_state}
use Rattle.state_listing.specs.Listing.{collection_text, listing}
use Rattle.state_listing.proofs.Fronts.{Left, left_all, left_on, left_stop}
use Rattle.state_listing.proofs.Texts.{collections_text, collection_first}
use Rattle.state_listing.proofs.listing.list.Goals as goal

pub collections-init : goal.collections-init
collections-init g c =
    let s = state_of c.args.state.now in
    let now = (g.K.Sink.end c.args.sink.now).bytes in
    let names : map.keys s ≡ names_left c.namespaces-left.result = names_of_state c.args.state.now ∙ sym c.namespaces-left.ensures in
    record {
      left = subst (λ ns. Left now now (listing c.args.form s) (collections_text c.args.form s ns)) names (left_all now (listing c.args.form s));
      later = omega arith;
    }

pub collections-preserved : goal.collections-preserved
collections-preserved g c =
    let before = (g.K.Sink.end c.args.sink.now).bytes in
    let now = (g.K.Sink.end c.collections.sink).bytes in
    let s = state_of c.args.state.now in
    let form = c.args.form in
    let n = c.in-Some.ns.now in
    let text = listing form s in
    record {
      left = left_on before now (g.K.Sink.end c.list_collection.new.sink).bytes text (collection_text form n (map.get s n)) (collections_text form s (names_left c.next.new.self))
          (subst (Left before now text) (collection_first form s (names_left c.collections.left) (names_left c.next.new.self) n c.in-Some.ensures.steps) c.collections.invariant.left) c.in-Ok.ensures.ok;
      later = omega (arith, c.collections.invariant.later, c.list_collection.ensures.later);
    }

pub returns-in-Err-clause-err : goal.returns-in-Err-clause-err
returns-in-Err-clause-err g c =
    let before = (g.K.Sink.end c.args.sink.now).bytes in
    let now = (g.K.Sink.end c.collections.sink).bytes in
    let s = state_of c.args.state.now in
    let form = c.args.form in
    let n = c.in-Some.ns.now in
    let text = listing form s in
    left_stop before now (g.K.Sink.end c.list_collection.new.sink).bytes text (collection_text form n (map.get s n)) (collections_text form s (names_left c.next.new.self))
    (subst (Left before now text) (collection_first form s (names_left c.collections.left) (names_left c.next.new.self) n c.in-Some.ensures.steps) c.collections.invariant.left) c.in-Err.ensures.err
