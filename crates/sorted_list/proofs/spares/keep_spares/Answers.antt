use Rattle.std.proofs.Common.{subst, sym, arith}
use Rattle.sorted_list.specs.Chunks.{AreEmpty}
use Rattle.sorted_list.proofs.Edits.{empty_push}
use Rattle.sorted_list.proofs.spares.keep_spares.Goals as goal

pub loop-preserved : goal.loop-preserved
loop-preserved g c =
    let i = c.loop.invariant in (
      i.0,
      subst AreEmpty (sym c.in_ok-push.ensures.items) (empty_push c.loop.spares.items c.in_ok-new.field-0 i.1 c.in_ok-new.ensures),
      omega (arith, i.2, c.in_ok-push.ensures.len),
      omega (arith, i.3, c.in_ok-push.ensures.len),
      i.4,
      omega (arith, i.5, c.in_ok-push.ensures.capacity),
    )
