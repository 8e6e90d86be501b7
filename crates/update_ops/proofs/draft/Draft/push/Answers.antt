use Rattle.std.proofs.Common.{◌≡◌, [], List, sym, ap, ◌∙◌, subst, OnOk}
use Rattle.bson_value.specs.declared.value.Value.{Value, Object, Array}
use Rattle.update_model.specs.Located.{Located}
use Rattle.update_model.specs.Acts.{made_at, push}
use Rattle.update_ops.specs.Operations.{news}
use Rattle.update_ops.specs.Sites.{located_as}
use Rattle.update_ops.specs.Drafts.{Does}
use Rattle.update_ops.proofs.draft.Draft.push.Goals as goal

pub returns-in_ok-all-in-Missing-clause-does : goal.returns-in_ok-all-in-Missing-clause-does
returns-in_ok-all-in-Missing-clause-does c =
    let v = Object c.args.self.now.doc in
    let at = c.in_ok-last.ensures ∙ ap (located_as c.locate.new.way) c.in-Missing.is in
    subst (λ (l : Located). OnOk c.make.result (Does (push (news c.args.is_set c.args.values.now) l v) c.args.self.now c.make.new.self)) (sym at)
    (subst (λ (is : List Value). OnOk c.make.result (Does (made_at c.locate.new.way c.in-Missing.last c.in-Missing.size c.in-Missing.rest.now (Array is) v) c.args.self.now c.make.new.self)) (c.in_ok-all-in-Missing.ensures ∙ ap (λ (vs : List Value). news c.args.is_set vs []) c.as_slice-in-Missing.ensures) c.make.ensures.does)
