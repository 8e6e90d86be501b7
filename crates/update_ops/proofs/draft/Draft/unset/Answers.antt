use Rattle.std.proofs.Common.{◌≡◌, [], sym, ap, ◌∙◌, subst, OnOk, Bool, false}
use Rattle.std.specs.Prelude.{if◌then◌else◌}
use Rattle.bson_value.specs.declared.value.Value.{Value, Object, Null, out-Value}
use Rattle.doc_path.specs.declared.parts.Part.{Part}
use Rattle.doc_path.specs.declared.parts.Part.TheVariants.{Index as index}
use Rattle.update_model.specs.Located.{Located, There}
use Rattle.update_model.specs.Steps.{removed, replaced}
use Rattle.update_model.specs.Acts.{Act, Steps, unset}
use Rattle.update_ops.specs.Sites.{located_as}
use Rattle.update_ops.specs.Drafts.{Does, IsAfter}
use Rattle.update_ops.proofs.draft.Draft.unset.Goals as goal

pub returns-in-Name : goal.returns-in-Name
returns-in-Name c =
    let v = Object c.args.self.now.doc in
    let at = c.in_ok-last.ensures ∙ (ap (located_as c.locate.new.way) c.in-There.is ∙ ap (λ (p : Part). There c.locate.new.way p c.in-There.old.now) c.in-Name.is) in
    subst (λ (l : Located). OnOk c.take_out.result (Does (unset l v) c.args.self.now c.take_out.new.self)) (sym at)
    (subst (λ (p : Part). OnOk c.take_out.result (IsAfter (removed c.locate.new.way p v) c.args.self.now c.take_out.new.self)) c.in-Name.is c.take_out.ensures)

pub returns-else-is_null : goal.returns-else-is_null
returns-else-is_null c =
    let v = Object c.args.self.now.doc in
    let at = c.in_ok-last.ensures ∙ (ap (located_as c.locate.new.way) c.in-There.is ∙ ap (λ (p : Part). There c.locate.new.way p c.in-There.old.now) c.in-Index.is) in
    let not_null = sym c.is_null.ensures ∙ c.if-is_null.false in
    subst (λ (l : Located). OnOk c.replace.result (Does (unset l v) c.args.self.now c.replace.new.self)) (sym at)
    (subst (λ (b : Bool). OnOk c.replace.result (Does (if b then Steps [] else Steps (replaced c.locate.new.way (index c.in-Index.field-0) Null v)) c.args.self.now c.replace.new.self)) (sym not_null)
    (subst (λ (p : Part). OnOk c.replace.result (IsAfter (replaced c.locate.new.way p Null v) c.args.self.now c.replace.new.self)) c.in-Index.is c.replace.ensures))
