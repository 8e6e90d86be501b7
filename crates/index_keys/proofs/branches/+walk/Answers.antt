use Rattle.std.proofs.Common.{◌≡◌, ◌++◌, sym, ap, ◌∙◌, subst, OnOk, List, option_map}
use Rattle.bson_view.specs.Held.{held_value}
use Rattle.bson_view.specs.HeldWalk.{items_left}
use Rattle.index_keys.specs.Branches.{Branch, Path, branches}
use Rattle.index_keys.specs.HeldBranches.{branches_of}
use Rattle.index_keys.proofs.Ways.{way_some, way_none}
use Rattle.index_keys.proofs.branches.+walk.Goals as goal

pub walk-returns-in-Some-items : goal.walk-returns-in-Some-items
walk-returns-in-Some-items t c =
    let e = way_some c.in-Some.name.now c.in-Some.rest.now (held_value c.args.value) (items_left c.in-Some-items.items) (sym c.items.ensures ∙ ap (option_map items_left) c.in-Some-items.is) in
    subst (λ (bs : List Branch). OnOk c.walk_each.result (branches_of c.walk_each.new.out.items ≡ branches_of c.args.out.now.items ++ bs))
    (sym e ∙ ap (λ (p : Path). branches p (held_value c.args.value)) (sym c.in-Some.ensures.cases.0)) c.walk_each.ensures

pub walk-returns-in-None-items : goal.walk-returns-in-None-items
walk-returns-in-None-items t c =
    let e = way_none c.in-Some.name.now c.in-Some.rest.now (held_value c.args.value) (sym c.items.ensures ∙ ap (option_map items_left) c.in-None-items.is) in
    subst (λ (bs : List Branch). OnOk c.walk_one.result (branches_of c.walk_one.new.out.items ≡ branches_of c.args.out.now.items ++ bs))
    (sym e ∙ ap (λ (p : Path). branches p (held_value c.args.value)) (sym c.in-Some.ensures.cases.0)) c.walk_one.ensures
