use Rattle.std.proofs.Common.{◌≡◌, ◌∷◌, List, sym, ap, ◌∙◌, subst}
use Rattle.bson_value.specs.declared.value.Value.{Value, Value-F, Object, Array, out-Value}
use Rattle.bson_value.specs.declared.value.Value.TheVariants.{outs-Array}
use Rattle.update_model.specs.declared.operator.ArrayEnd.{ArrayEnd}
use Rattle.update_model.specs.declared.operator.ArrayEnd.TheVariants as ends
use Rattle.update_model.specs.Located.{Located}
use Rattle.update_model.specs.Steps.{replaced}
use Rattle.update_model.specs.Acts.{pop, popped, popped_in}
use Rattle.update_ops.specs.Sites.{located_as}
use Rattle.update_ops.specs.Drafts.{Does, IsAfter}
use Rattle.update_ops.proofs.draft.Draft.pop.Goals as goal

pub returns-in_ok-replace-in-First-clause-does : goal.returns-in_ok-replace-in-First-clause-does
returns-in_ok-replace-in-First-clause-does c =
    let v = Object c.args.self.now.doc in
    let ws = c.locate.new.way in
    let p = c.in-There.last in
    let at = c.in_ok-last.ensures ∙ ap (located_as ws) c.in-There.is in
    let level : out-Value c.in-There.old.now ≡ Value-F.Array c.in-Array.items = ap out-Value c.in-Array.is ∙ outs-Array c.in-Array.items in
    let items : c.in-Array.items ≡ c.in-Some.field-0-0.now ∷ c.in-Some.others.now = sym c.as_slice.ensures ∙ c.in-Some.ensures.cases.0 in
    subst (λ (l : Located). Does (pop c.args.end l v) c.args.self.now c.replace.new.self) (sym at)
    (subst (λ (f : Value-F Value). Does (popped_in c.args.end ws p f v) c.args.self.now c.replace.new.self) (sym level)
    (subst (λ (is : List Value). Does (popped c.args.end ws p is v) c.args.self.now c.replace.new.self) (sym items)
    (subst (λ (e : ArrayEnd). Does (popped e ws p (c.in-Some.field-0-0.now ∷ c.in-Some.others.now) v) c.args.self.now c.replace.new.self) (sym c.in-First.is)
    (subst (λ (is : List Value). IsAfter (replaced ws p (Array is) v) c.args.self.now c.replace.new.self) c.in_ok-others-in-First.ensures c.in_ok-replace-in-First.ensures))))
