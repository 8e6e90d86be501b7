use Rattle.std.proofs.Common.{◌≡◌, sym, ap, ◌∙◌, subst, List, ℕ, Bool, true, false}
use Rattle.std.specs.Prelude.{◌||◌}
use Rattle.std.specs.List.{list_any}
use Rattle.update_ops.specs.Prefixes.{Text, starts, clash, has_front, IsPrefixFree}
use Rattle.update_ops.proofs.TextOrder.{front_adds_none, free_insert, no_clash, any_insert}
use Rattle.update_ops.proofs.prefixes.PrefixSet.cover.Goals as goal

pub returns-then-has_front : goal.returns-then-has_front
returns-then-has_front c = λ t. front_adds_none c.args.self.now c.args.text t (sym c.has_front.ensures ∙ c.if-has_front.true)

pub invariant_of-self-2 : goal.invariant_of-self-2
invariant_of-self-2 c =
    let front : has_front c.args.self.now c.args.text ≡ false = sym c.has_front.ensures ∙ c.if-has_front.false in
    let none = no_clash c.drop_behind.new.self c.args.text c.in_ok-drop_behind.ensures.none (c.in_ok-drop_behind.ensures.fewer (λ (u : Text). starts u c.args.text) front) in
    subst IsPrefixFree (sym c.in_ok-insert.ensures.keys) (free_insert c.self.inside.texts.keys c.args.text c.self.invariant (ap (list_any (clash c.args.text)) c.self.view_is ∙ none))

pub returns : goal.returns
returns c = λ t.
    ap (λ (ts : List Text). has_front ts t) c.in_ok-insert.ensures.keys
    ∙ (any_insert (λ (s : Text). starts s t) c.self.inside.texts.keys c.args.text
    ∙ (ap (λ (ts : List Text). starts c.args.text t || has_front ts t) c.self.view_is ∙ c.in_ok-drop_behind.ensures.covers t))
