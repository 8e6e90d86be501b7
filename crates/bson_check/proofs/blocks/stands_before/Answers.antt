use Rattle.std.proofs.Common.{sym, subst, ◌∙◌}
use Rattle.bson_check.specs.Slots.{IsMarked}
use Rattle.bson_check.proofs.blocks.stands_before.Goals as goal

pub returns-then-not-may_have : goal.returns-then-not-may_have
returns-then-not-may_have c = (
  (λ h. absurd cc),
  λ k.
      let marked : IsMarked c.args.words.now c.args.factor c.args.name.now = subst (IsMarked c.args.words.now c.args.factor) k.3 (c.requires.marked k.0 k.1) in
      let yes = c.may_have.ensures marked in
      sym c.if-not-may_have.true ∙ yes,
)
