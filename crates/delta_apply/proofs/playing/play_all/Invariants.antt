use Rattle.std.proofs.Common.{◌≡◌, drop, map}
use Rattle.bson_value.specs.declared.value.Value.TheVariants.{Object}
use Rattle.doc_path.specs.Played.{touch_of, played_all}
use Rattle.delta_apply.specs.Touched.{untouched}
use Rattle.delta_apply.proofs.playing.play_all.Given as goal

abbrev pub invariant-loop-touch : goal.invariant-loop-touch
invariant-loop-touch l =
    (played_all l.form (map touch_of l.touches) (Object l.fn.doc) ≡ played_all l.form (map touch_of (drop l.touch-index l.touches)) (Object l.doc))
    × (untouched l.touches l.doc ≡ untouched l.touches l.fn.doc)
