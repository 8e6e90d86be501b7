use Rattle.std.proofs.Common.{◌≡◌, List, [], ◌∷◌, ◌++◌, sym, ap, subst, ◌∙◌, rules}
use Rattle.entry_writer.specs.Groups.{Group, group_in, groups_in}
use Rattle.entry_writer.specs.Order.{laid, IsLaid}
use Rattle.entry_writer.proofs.Groups.{mapped-append}
use Rattle.entry_writer.proofs.Order.{all_put, last_put, turned}
use Rattle.entry_writer.proofs.rising.rising.Goals as goal

pub left-preserved : goal.left-preserved
left-preserved c =
    let now = laid c.left.front.entries c.left.behind.items in
    let rest = groups_in c.pop.new.self.items in
    let g = group_in c.in-Some.group in
    let is : groups_in c.left.left.items ≡ rest ++ g ∷ [] = ap groups_in c.in-Some.ensures.items ∙ mapped-append group_in c.pop.new.self.items (c.in-Some.group ∷ []) in
    let laid_so : IsLaid c.left.front c.left.behind.items (rest ++ g ∷ []) = subst (IsLaid c.left.front c.left.behind.items) is c.left.invariant.1 in
    (ap (λ (l : List Group). all_put l rest) (c.in_ok-place.ensures.all rest laid_so) ∙ (sym (last_put rest g now) ∙ (ap (all_put now) (sym is) ∙ c.left.invariant.0)), c.in_ok-place.ensures.laid rest laid_so)

pub returns : goal.returns
returns c =
    let none : c.left.left.items ≡ [] = search rules in
    ap groups_in c.reverse.ensures.items ∙ (turned c.unload.new.behind.items ∙ (c.in_ok-unload.ensures.all
    ∙ (ap (λ l. all_put (laid c.left.front.entries c.left.behind.items) (groups_in l)) (sym none) ∙ c.left.invariant.0)))
