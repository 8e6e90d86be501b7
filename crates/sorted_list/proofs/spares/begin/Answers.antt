use Rattle.std.proofs.Common.{List, [], ◌∷◌, ◌++◌, length, ap, ◌∙◌, subst, arith}
use Rattle.sorted_list.specs.Chunks.{AreEmpty}
use Rattle.sorted_list.proofs.Edits.{empty_front, empty_last}
use Rattle.sorted_list.proofs.spares.begin.Goals as goal

pub push-requires : goal.push-requires
push-requires g c =
    let e = empty_last c.pop.new.self.items c.in-Some.chunk (subst AreEmpty c.in-Some.ensures.items c.requires.empty) in
    omega (arith, ap length e)

pub returns-clause-items : goal.returns-clause-items
returns-clause-items g c =
    let cs = c.args.chunks.now.items in
    let empty = subst AreEmpty c.in-Some.ensures.items c.requires.empty in
    let one = c.push.ensures ∙ ap (λ (l : List g.row.T.Denot). l ++ c.args.item ∷ []) (empty_last c.pop.new.self.items c.in-Some.chunk empty) in
    c.in-Ok.ensures.items ∙ ap (λ (l : List g.row.T.Denot). cs ++ l ∷ []) one

pub returns-clause-empty : goal.returns-clause-empty
returns-clause-empty g c = empty_front c.pop.new.self.items c.in-Some.chunk (subst AreEmpty c.in-Some.ensures.items c.requires.empty)
