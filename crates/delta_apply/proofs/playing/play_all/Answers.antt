use Rattle.std.proofs.Common.{◌∙◌}
use Rattle.bson_value.specs.declared.value.Value.TheVariants.{Object}
use Rattle.delta_apply.proofs.Replay.{next_played, others_kept}
use Rattle.delta_apply.proofs.playing.play_all.Goals as goal

pub loop-touch-preserved : goal.loop-touch-preserved
loop-touch-preserved c = (
  c.loop-touch.invariant.0 ∙ next_played c.args.form c.args.touches.now c.loop-touch.touch-index c.touch-item.result (Object c.loop-touch.doc) (Object c.play_one.new.doc) c.loop-touch-test.true c.touch-item.is c.in_ok-play_one.ensures.ok,
  others_kept c.args.form c.args.touches.now c.loop-touch.touch-index c.touch-item.result c.loop-touch.doc c.play_one.new.doc c.loop-touch-test.true c.touch-item.is c.in_ok-play_one.ensures.ok ∙ c.loop-touch.invariant.1,
)
