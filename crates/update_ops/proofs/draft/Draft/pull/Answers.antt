use Rattle.std.proofs.Common.{◌≡◌, [], List, Bool, true, false, refl, sym, ap, ◌∙◌, subst, append-nil}
use Rattle.std.specs.Prelude.{if◌then◌else◌}
use Rattle.std.specs.List.{list_any}
use Rattle.bson_value.specs.declared.value.Value.{Value, Value-F, Object, Array, out-Value}
use Rattle.bson_value.specs.declared.value.Value.TheVariants.{outs-Array}
use Rattle.update_model.specs.Equality.{same}
use Rattle.update_model.specs.Located.{Located}
use Rattle.update_model.specs.Steps.{replaced}
use Rattle.update_model.specs.Acts.{Steps, others, pull, pulled_in}
use Rattle.update_ops.specs.Sites.{located_as}
use Rattle.update_ops.specs.Drafts.{Does, IsAfter}
use Rattle.update_ops.proofs.draft.Draft.pull.Goals as goal

pub returns-in_ok-replace-in-Array-clause-does : goal.returns-in_ok-replace-in-Array-clause-does
returns-in_ok-replace-in-Array-clause-does c =
    let v = Object c.args.self.now.doc in
    let ws = c.locate.new.way in
    let p = c.in-There.last in
    let a = c.args.value.now in
    let items = c.in-Array.items in
    let at = c.in_ok-last.ensures ∙ ap (located_as ws) c.in-There.is in
    let level : out-Value c.in-There.old.now ≡ Value-F.Array items = ap out-Value c.in-Array.is ∙ outs-Array items in
    let some : list_any (λ i. same i a) items ≡ true = ap (list_any (λ i. same i a)) (sym c.as_slice.ensures) ∙ (sym c.has.ensures ∙ c.if-has.true) in
    subst (λ (l : Located). Does (pull a l v) c.args.self.now c.replace.new.self) (sym at)
    (subst (λ (f : Value-F Value). Does (pulled_in a ws p f v) c.args.self.now c.replace.new.self) (sym level)
    (subst (λ (b : Bool). Does (if b then Steps (replaced ws p (Array (others a items)) v) else Steps []) c.args.self.now c.replace.new.self) (sym some)
    (subst (λ (is : List Value). IsAfter (replaced ws p (Array is) v) c.args.self.now c.replace.new.self) (c.in_ok-others-in-Array.ensures ∙ ap (others a) c.as_slice-then-has.ensures) c.in_ok-replace-in-Array.ensures)))

pub returns-else-has-clause-does : goal.returns-else-has-clause-does
returns-else-has-clause-does c =
    let v = Object c.args.self.now.doc in
    let ws = c.locate.new.way in
    let p = c.in-There.last in
    let a = c.args.value.now in
    let items = c.in-Array.items in
    let at = c.in_ok-last.ensures ∙ ap (located_as ws) c.in-There.is in
    let level : out-Value c.in-There.old.now ≡ Value-F.Array items = ap out-Value c.in-Array.is ∙ outs-Array items in
    let none : list_any (λ i. same i a) items ≡ false = ap (list_any (λ i. same i a)) (sym c.as_slice.ensures) ∙ (sym c.has.ensures ∙ c.if-has.false) in
    subst (λ (l : Located). Does (pull a l v) c.args.self.now c.args.self.now) (sym at)
    (subst (λ (f : Value-F Value). Does (pulled_in a ws p f v) c.args.self.now c.args.self.now) (sym level)
    (subst (λ (b : Bool). Does (if b then Steps (replaced ws p (Array (others a items)) v) else Steps []) c.args.self.now c.args.self.now) (sym none)
    (record { doc = refl; marks = sym (append-nil c.args.self.now.marks); is_large = refl })))
