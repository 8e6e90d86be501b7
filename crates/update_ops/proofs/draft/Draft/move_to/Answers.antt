use Rattle.std.proofs.Common.{◌≡◌, sym, ap, ◌∙◌, subst, OnOk}
use Rattle.bson_value.specs.declared.value.Value.{Value, Object}
use Rattle.update_model.specs.Located.{Located}
use Rattle.update_model.specs.Steps.{added}
use Rattle.update_model.specs.Acts.{moved_to}
use Rattle.update_ops.specs.Sites.{located_as}
use Rattle.update_ops.specs.Drafts.{IsAfter}
use Rattle.update_ops.proofs.draft.Draft.move_to.Goals as goal

pub returns-in_ok-value-in-Missing : goal.returns-in_ok-value-in-Missing
returns-in_ok-value-in-Missing c =
    let v = Object c.args.self.now.doc in
    let at = c.in_ok-last.ensures ∙ ap (located_as c.locate.new.way) c.in-Missing.is in
    subst (λ (l : Located). OnOk c.add.result (IsAfter (moved_to l c.args.value v) c.args.self.now c.add.new.self)) (sym at)
    (subst (λ (a : Value). OnOk c.add.result (IsAfter (added c.locate.new.way c.in-Missing.last c.in-Missing.size a v) c.args.self.now c.add.new.self)) c.in_ok-value-in-Missing.ensures c.add.ensures)
