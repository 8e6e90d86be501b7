use Rattle.std.proofs.Common.{◌≡◌, ◌++◌, sym, ap, ◌∙◌, subst, OnOk, List, option_map}
use Rattle.std.proofs.lemmas.List.{map-append}
use Rattle.bson_view.specs.Held.{held_value}
use Rattle.bson_view.specs.HeldWalk.{items_left}
use Rattle.index_keys.specs.Branches.{Branch}
use Rattle.index_keys.specs.HeldBranches.{branches_of, branch_of}
use Rattle.index_keys.proofs.Ways.{end_some, end_none}
use Rattle.index_keys.proofs.branches.end.Goals as goal

pub returns-in-Some : goal.returns-in-Some
returns-in-Some c =
    let e = end_some (held_value c.args.value) (items_left c.in-Some.items) (sym c.items.ensures ∙ ap (option_map items_left) c.in-Some.is) in
    subst (λ (bs : List Branch). OnOk c.end_items.result (branches_of c.end_items.new.out.items ≡ branches_of c.args.out.now.items ++ bs)) (sym e) c.end_items.ensures

pub returns-in_ok-push-in-None : goal.returns-in_ok-push-in-None
returns-in_ok-push-in-None c =
    let e = end_none (held_value c.args.value) (sym c.items.ensures ∙ ap (option_map items_left) c.in-None.is) in
    ap branches_of c.in_ok-push-in-None.ensures.items ∙ (map-append branch_of c.args.out.now.items _ ∙ ap (λ (bs : List Branch). branches_of c.args.out.now.items ++ bs) (sym e))
