use Rattle.std.proofs.Common.{◌≡◌, sym, ap, ◌∙◌, subst, OnOk}
use Rattle.bson_value.specs.declared.value.Value.{Value, Object}
use Rattle.update_model.specs.Located.{Located}
use Rattle.update_model.specs.Acts.{set, changed_at}
use Rattle.update_ops.specs.Sites.{located_as}
use Rattle.update_ops.specs.declared.locating.Site.TheVariants.{Missing as missing}
use Rattle.update_ops.specs.Drafts.{Does}
use Rattle.update_ops.proofs.draft.Draft.set.Goals as goal

pub returns-in_ok-change-in-There-clause-does : goal.returns-in_ok-change-in-There-clause-does
returns-in_ok-change-in-There-clause-does c =
    let v = Object c.args.self.now.doc in
    let at = c.in_ok-last.ensures ∙ ap (located_as c.locate.new.way) c.in-There.is in
    subst (λ (l : Located). Does (set l c.args.value.now v) c.args.self.now c.change.new.self) (sym at)
    (subst (λ (a : Value). Does (changed_at c.locate.new.way c.in-There.last c.in-There.old.now a v) c.args.self.now c.change.new.self) c.in_ok-value.ensures
    (c.in_ok-change-in-There.ensures c.in-There.old.now c.equals-is_same.ensures))

pub returns-in-Missing-clause-does : goal.returns-in-Missing-clause-does
returns-in-Missing-clause-does c =
    let v = Object c.args.self.now.doc in
    let at = c.in_ok-last.ensures ∙ ap (located_as c.locate.new.way) c.in-Missing.is in
    subst (λ (l : Located). OnOk c.make.result (Does (set l c.args.value.now v) c.args.self.now c.make.new.self)) (sym at)
    (subst (λ (a : Value). OnOk c.make.result (Does (set (located_as c.locate.new.way (missing c.in-Missing.last c.in-Missing.size c.in-Missing.rest)) a v) c.args.self.now c.make.new.self)) c.in_ok-value.ensures c.make.ensures.does)
