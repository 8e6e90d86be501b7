use Rattle.std.proofs.Common.{List, ℕ, suc, ◌+◌, ◌≡◌, length, ap, sym, ◌∙◌, subst, arith}
use Rattle.std.specs.Prelude.{slice_set}
use Rattle.std.specs.List.{insert}
use Rattle.sorted_list.specs.Chunks.{AreRoomy, AreEmpty, joined}
use Rattle.sorted_list.specs.Rooms.{surplus}
use Rattle.sorted_list.proofs.Rooms.{surplus_set, surplus_insert}
use Rattle.sorted_list.proofs.Edits.{get_at, roomy_set, roomy_insert, parted_joined, set_same, set_twice, empty_front, empty_last}
use Rattle.sorted_list.proofs.parting.part.Goals as goal

pub halve-requires-clause-empty : goal.halve-requires-clause-empty
halve-requires-clause-empty g c = empty_last c.pop.new.self.items c.in-Some.upper (subst AreEmpty c.in-Some.ensures.items c.requires.empty)

pub returns-clause-empty : goal.returns-clause-empty
returns-clause-empty g c = empty_front c.pop.new.self.items c.in-Some.upper (subst AreEmpty c.in-Some.ensures.items c.requires.empty)

pub returns-clause-items : goal.returns-clause-items
returns-clause-items g c =
    let cs = c.args.chunks.now.items in
    let next : c.args.at + 1 ≡ suc c.args.at = omega arith in
    ap joined (c.in-Ok.ensures.items ∙ ap (λ (n : ℕ). insert (slice_set cs c.args.at c.halve.new.self) n c.halve.new.upper) next)
    ∙ (parted_joined cs c.args.at c.index_mut.result.now c.halve.new.self c.halve.new.upper c.requires.within c.halve.ensures.all
    ∙ ap joined (set_same cs c.args.at c.index_mut.result.now c.requires.within c.index_mut.ensures.value))

pub returns-clause-roomy : goal.returns-clause-roomy
returns-clause-roomy g c = λ ds d r e.
    subst AreRoomy (sym (c.in-Ok.ensures.items ∙ ap (λ (l : List (List g.row.T.Denot)). insert l (c.args.at + 1) c.halve.new.upper) (ap (λ (l : List (List g.row.T.Denot)). slice_set l c.args.at c.halve.new.self) e ∙ set_twice ds c.args.at d c.halve.new.self)))
    (roomy_insert (slice_set ds c.args.at c.halve.new.self) (c.args.at + 1) c.halve.new.upper
    (roomy_set ds c.args.at c.halve.new.self r (omega (arith, c.halve.ensures.lower)) (omega (arith, c.halve.ensures.lower)))
    (omega (arith, c.halve.ensures.upper)) (omega (arith, c.halve.ensures.upper)))

pub returns-clause-surplus : goal.returns-clause-surplus
returns-clause-surplus g c =
    let cs = c.args.chunks.now.items in
    let d = c.index_mut.result.now in
    let got = get_at cs c.args.at d c.requires.within c.index_mut.ensures.value in
    let set = surplus_set cs c.args.at d c.halve.new.self got in
    let put = surplus_insert (slice_set cs c.args.at c.halve.new.self) (c.args.at + 1) c.halve.new.upper in
    let is = ap surplus c.in-Ok.ensures.items in
    omega (arith, set, put, is, c.halve.ensures.lower, c.halve.ensures.upper, c.requires.is_full d, ap length c.index_mut.ensures.value)
