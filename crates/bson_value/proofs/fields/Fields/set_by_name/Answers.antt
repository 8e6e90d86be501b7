use Rattle.std.proofs.Common.{sym, ◌∙◌}
use Rattle.containers.proofs.Entries.{place_is, has_not, distinct_push}
use Rattle.bson_value.proofs.fields.Fields.set_by_name.Goals as goal

pub invariant_of-self-in-None : goal.invariant_of-self-in-None
invariant_of-self-in-None g c =
    let h = has_not c.args.name.now c.args.self.now c.in-None.ensures.place in
    rw (c.in_ok-push-in-None.ensures.items, c.in_ok-name-in-None.ensures) (distinct_push c.self.inside.entries.items c.args.name.now c.args.value (rw c.self.view_is h.absent) c.self.invariant)

pub returns-in-Some-clause-ok : goal.returns-in-Some-clause-ok
returns-in-Some-clause-ok g c =
    let p = place_is c.args.name.now c.args.self.now c.in-Some.at c.in-Some.ensures.place in
    c.replace.ensures.new ∙ sym (p.written c.args.value)

pub returns-in_ok-push-in-None-clause-ok : goal.returns-in_ok-push-in-None-clause-ok
returns-in_ok-push-in-None-clause-ok g c =
    let h = has_not c.args.name.now c.args.self.now c.in-None.ensures.place in
    c.in_ok-push-in-None.ensures.items ∙ rw (c.in_ok-name-in-None.ensures, c.self.view_is) (sym (h.written c.args.value))
