use Rattle.std.proofs.Common.{◌≡◌, sym, ap, ◌∙◌, subst, OnOk, Option}
use Rattle.bson_value.specs.declared.value.Value.{Value, Object}
use Rattle.update_model.specs.declared.operator.Number.{Number}
use Rattle.update_model.specs.Located.{Located}
use Rattle.update_model.specs.Acts.{count, counted, counted_as, changed_at, made_at}
use Rattle.update_ops.specs.Operations.{applied}
use Rattle.update_ops.specs.Sites.{located_as}
use Rattle.update_ops.specs.Drafts.{Does}
use Rattle.update_ops.proofs.draft.Draft.count.Goals as goal

pub returns-in_ok-change-in-There-clause-does : goal.returns-in_ok-change-in-There-clause-does
returns-in_ok-change-in-There-clause-does c =
    let v = Object c.args.self.now.doc in
    let ws = c.locate.new.way in
    let p = c.in-There.last in
    let old = c.in-There.old.now in
    let at = c.in_ok-last.ensures ∙ ap (located_as ws) c.in-There.is in
    subst (λ (l : Located). Does (count l (λ (m : Number). applied c.args.operation m c.args.by) c.args.first v) c.args.self.now c.change.new.self) (sym at)
    (subst (λ (o : Option Number). Does (counted ws p old (λ (m : Number). applied c.args.operation m c.args.by) o v) c.args.self.now c.change.new.self) (sym c.in-Some.is ∙ c.number_of.ensures)
    (subst (λ (o : Option Number). Does (counted_as ws p old o v) c.args.self.now c.change.new.self) (sym c.in-Some-combined.is ∙ c.combined.ensures)
    (subst (λ (a : Value). Does (changed_at ws p old a v) c.args.self.now c.change.new.self) c.value_of-value.ensures
    (c.in_ok-change-in-There.ensures old c.equals-is_same.ensures))))

pub returns-in-Missing-clause-does : goal.returns-in-Missing-clause-does
returns-in-Missing-clause-does c =
    let v = Object c.args.self.now.doc in
    let at = c.in_ok-last.ensures ∙ ap (located_as c.locate.new.way) c.in-Missing.is in
    subst (λ (l : Located). OnOk c.make.result (Does (count l (λ (m : Number). applied c.args.operation m c.args.by) c.args.first v) c.args.self.now c.make.new.self)) (sym at)
    (subst (λ (a : Value). OnOk c.make.result (Does (made_at c.locate.new.way c.in-Missing.last c.in-Missing.size c.in-Missing.rest.now a v) c.args.self.now c.make.new.self)) c.value_of.ensures c.make.ensures.does)
