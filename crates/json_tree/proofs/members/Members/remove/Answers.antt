use Rattle.std.proofs.Common.{refl, length, sym, ◌∙◌}
use Rattle.std.proofs.lemmas.Option.{slice_get_read}
use Rattle.containers.proofs.Entries.{place_is, has_not, distinct_remove}
use Rattle.json_tree.proofs.members.Members.remove.Goals as goal

pub invariant_of-self : goal.invariant_of-self
invariant_of-self g c = rw c.remove-value.ensures.items (distinct_remove c.self.inside.entries.items c.in-Some.at c.self.invariant)

pub returns-in-Some-clause-value : goal.returns-in-Some-clause-value
returns-in-Some-clause-value g c =
    let p = place_is c.args.name.now c.args.self.now c.in-Some.at c.in-Some.ensures.place in
    let v = rw c.self.view_is at c.remove-value.ensures.value in
    let at = slice_get_read c.args.self.now (length c.args.self.now) c.in-Some.at c.remove-value.result refl p.within v in
    sym (p.found ∙ rw at refl)

pub returns-in-Some-clause-rest : goal.returns-in-Some-clause-rest
returns-in-Some-clause-rest g c =
    let p = place_is c.args.name.now c.args.self.now c.in-Some.at c.in-Some.ensures.place in
    let d = rw c.self.view_is at c.self.invariant in
    c.remove-value.ensures.items ∙ rw c.self.view_is (sym (p.removed d))

pub returns-in-None-clause-value : goal.returns-in-None-clause-value
returns-in-None-clause-value g c = sym (has_not c.args.name.now c.args.self.now c.in-None.ensures.place).found

pub returns-in-None-clause-rest : goal.returns-in-None-clause-rest
returns-in-None-clause-rest g c = sym (has_not c.args.name.now c.args.self.now c.in-None.ensures.place).removed
