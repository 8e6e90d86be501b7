use Rattle.std.proofs.Common.{sym, ◌∙◌, slice_index, arith}
use Rattle.std.proofs.lemmas.Slice.Eq.{bytes_eq-Decides}
use Rattle.std.proofs.lemmas.List.Elements.{Contains-get_or}
use Rattle.bson_check.proofs.Order.{known_is_first}
use Rattle.bson_check.proofs.table.is_known.Goals as goal

pub returns-then-block-at : goal.returns-then-block-at
returns-then-block-at c = (
  (λ h. absurd cc),
  λ k.
      let f = known_is_first c.args.body.now c.args.block.now c.requires c.args.name.now c.first_from-at.result c.first_from-at.ensures.below c.first_from-at.ensures.above c.args.left k in
      absurd (omega (arith, f.0, c.if-block-at.true)),
)

pub returns-then-start-left : goal.returns-then-start-left
returns-then-start-left c = (
  (λ h. absurd cc),
  λ k.
      let f = known_is_first c.args.body.now c.args.block.now c.requires c.args.name.now c.first_from-at.result c.first_from-at.ensures.below c.first_from-at.ensures.above c.args.left k in
      absurd (omega (arith, f.1, c.if-start-left.true)),
)

pub returns : goal.returns
returns c = (
  (λ h.
      let start = slice_index c.args.block.now c.first_from-at.result in
      (start, Contains-get_or c.args.block.now c.first_from-at.result 0 c.if-block-at.false, c.if-start-left.false, sym c.name_at.ensures ∙ (bytes_eq-Decides c.name_at.result.now c.args.name.now).0 (sym c.eq.ensures ∙ h))),
  λ k.
      let f = known_is_first c.args.body.now c.args.block.now c.requires c.args.name.now c.first_from-at.result c.first_from-at.ensures.below c.first_from-at.ensures.above c.args.left k in
      c.eq.ensures ∙ (bytes_eq-Decides c.name_at.result.now c.args.name.now).1 (c.name_at.ensures ∙ f.2),
)
