use Rattle.std.proofs.Common.{sym, ◌∙◌}
use Rattle.containers.proofs.Entries.{place_is, has_not, distinct_push}
use Rattle.json_tree.proofs.members.Members.set.Goals as goal

pub invariant_of-self-in-None : goal.invariant_of-self-in-None
invariant_of-self-in-None g c =
    let h = rw c.as_str.ensures at (has_not c.as_str.result.now c.args.self.now c.in-None.ensures.place) in
    rw c.in_ok-push-in-None.ensures.items (distinct_push c.self.inside.entries.items c.args.name c.args.value (rw c.self.view_is h.absent) c.self.invariant)

pub returns-in-Some-clause-ok : goal.returns-in-Some-clause-ok
returns-in-Some-clause-ok g c =
    let p = rw c.as_str.ensures at (place_is c.as_str.result.now c.args.self.now c.in-Some.at c.in-Some.ensures.place) in
    c.replace.ensures.new ∙ sym (p.written c.args.value)

pub returns-in_ok-push-in-None-clause-ok : goal.returns-in_ok-push-in-None-clause-ok
returns-in_ok-push-in-None-clause-ok g c =
    let h = rw c.as_str.ensures at (has_not c.as_str.result.now c.args.self.now c.in-None.ensures.place) in
    c.in_ok-push-in-None.ensures.items ∙ rw c.self.view_is (sym (h.written c.args.value))
