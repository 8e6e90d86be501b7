use Rattle.std.proofs.Common.{◌≡◌, ◌++◌, List, rules, sym, ap, ◌∙◌, subst}
use Rattle.coll_state.specs.declared.change.Change.{Change}
use Rattle.coll_state.specs.declared.prepared_change.PreparedChange.{PreparedChange}
use Rattle.coll_state.specs.ChangeAll.{HaveIds}
use Rattle.coll_state.specs.PreparedChange.{change_of, changes_of}
use Rattle.coll_state.proofs.Rooms.{nothing_left, listed, ids_now, ids_later, nothing_behind}
use Rattle.coll_state.proofs.change.prepare.Goals as goal

pub loop-change-init : goal.loop-change-init
loop-change-init c =
    let items = c.into_iter-change-iterator.ensures.into_iter_gives.0 ∙ c.into_vec-change-items.ensures in
    (ap (λ (ps : List PreparedChange). changes_of ps ++ c.into_iter-change-iterator.result.rest.items) c.new-prepared.ensures.items ∙ items, subst HaveIds (sym items) c.requires)

pub prepare_one-requires : goal.prepare_one-requires
prepare_one-requires c = ids_now c.loop-change.change-iterator.rest.items c.in-Some.change c.next.new.self.rest.items c.in-Some.ensures.steps.0 c.loop-change.invariant.1

pub loop-change-preserved : goal.loop-change-preserved
loop-change-preserved c =
    let rest = c.in-Some.ensures.steps.0 in
    let is : change_of c.in_ok-prepare_one.field-0 ≡ c.in-Some.change = search rules in (
      ap (λ (ps : List PreparedChange). changes_of ps ++ c.next.new.self.rest.items) c.in_ok-push.ensures.items
          ∙ listed c.loop-change.prepared.items c.in_ok-prepare_one.field-0 c.in-Some.change c.next.new.self.rest.items c.args.changes is
          (ap (λ (cs : List Change). changes_of c.loop-change.prepared.items ++ cs) (sym rest) ∙ c.loop-change.invariant.0),
      ids_later c.loop-change.change-iterator.rest.items c.in-Some.change c.next.new.self.rest.items rest c.loop-change.invariant.1,
    )

pub returns : goal.returns
returns c =
    let rest = nothing_left c.loop-change.change-iterator.rest.items c.loop-change.change-iterator.rest.len c.loop-change.change-iterator.rest.ok.0 c.in-None.ensures.steps.0 in
    sym (nothing_behind (changes_of c.loop-change.prepared.items)) ∙ (ap (λ (cs : List Change). changes_of c.loop-change.prepared.items ++ cs) (sym rest) ∙ c.loop-change.invariant.0)
