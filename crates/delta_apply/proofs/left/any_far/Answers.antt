use Rattle.std.proofs.Common.{◌+◌, sym, ap, ◌∙◌, drop, Bool}
use Rattle.std.specs.Prelude.{◌||◌}
use Rattle.doc_path.specs.Played.{any_far}
use Rattle.delta_apply.proofs.Changed.{far_step}
use Rattle.delta_apply.proofs.left.any_far.Goals as goal

pub loop-part-preserved : goal.loop-part-preserved
loop-part-preserved c =
    c.loop-part.invariant
    ∙ (far_step c.args.parts.now c.loop-part.part-index c.part-item.result c.loop-part-test.true c.part-item.is
    ∙ ap (λ (b : Bool). b || any_far (drop (c.loop-part.part-index + 1) c.args.parts.now)) (sym c.is_far.ensures ∙ c.if-is_far.false))
