use Rattle.std.proofs.Common.{◌≡◌, ◌++◌, drop}
use Rattle.index_build.specs.Counting.{held}
use Rattle.command_refusals.specs.Keyed.{put_document}
use Rattle.command_refusals.proofs.Putting.{still_to_put}
use Rattle.command_refusals.proofs.after.put_among.Given as goal

abbrev pub invariant-loop-old : goal.invariant-loop-old
invariant-loop-old l = put_document l.key l.doc (held l.docs) ≡ held l.after.items ++ still_to_put l.is_put l.key l.doc (held (drop l.old-index l.docs))
