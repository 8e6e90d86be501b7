use Rattle.std.proofs.Common.{Some, sym, ap, ◌∙◌}
use Rattle.std.specs.Prelude.{if◌then◌else◌}
use Rattle.std.specs.Ordering.{nat_cmp}
use Rattle.std.specs.Cmp.Lexicographic.{slice_cmp}
use Rattle.std.specs.BTreeMap.{get}
use Rattle.coll_state.proofs.Rooms.{nothing_left}
use Rattle.index_build.specs.Owners.{Texts, has}
use Rattle.index_build.proofs.Repeated.{one_owned}
use Rattle.index_build.proofs.owners.own.Goals as goal

pub loop-key-init : goal.loop-key-init
loop-key-init c = λ t. ap (λ (ks : Texts). if has t ks then Some c.args.place else get (slice_cmp nat_cmp) c.args.owners.now t) (c.into_iter-key-iterator.ensures.into_iter_gives.0 ∙ c.into_vec-key-items.ensures)

pub loop-key-preserved : goal.loop-key-preserved
loop-key-preserved c = λ t.
    one_owned c.in-Some.key c.next.new.self.rest.items c.args.place t (get (slice_cmp nat_cmp) c.insert.new.self t) (get (slice_cmp nat_cmp) c.loop-key.owners t) (c.in_ok-insert.ensures.updates.0 t)
    ∙ (ap (λ (ks : Texts). if has t ks then Some c.args.place else get (slice_cmp nat_cmp) c.loop-key.owners t) (sym c.in-Some.ensures.steps.0) ∙ c.loop-key.invariant t)

pub returns : goal.returns
returns c = λ t.
    let rest = nothing_left c.loop-key.key-iterator.rest.items c.loop-key.key-iterator.rest.len c.loop-key.key-iterator.rest.ok.0 c.in-None.ensures.steps.0 in
    ap (λ (ks : Texts). if has t ks then Some c.args.place else get (slice_cmp nat_cmp) c.loop-key.owners t) (sym rest) ∙ c.loop-key.invariant t
