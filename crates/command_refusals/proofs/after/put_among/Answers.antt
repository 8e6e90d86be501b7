use Rattle.std.proofs.Common.{◌≡◌, ◌+◌, ◌++◌, Bool, true, false, not, drop, sym, ap, ◌∙◌, subst}
use Rattle.std.specs.Prelude.{◌&&◌, ◌||◌}
use Rattle.index_build.specs.Counting.{held}
use Rattle.command_refusals.specs.Keyed.{put_document}
use Rattle.command_refusals.proofs.Putting.{still_to_put, put_step}
use Rattle.command_refusals.proofs.after.put_among.Goals as goal
use Rattle.command_refusals.proofs.after.put_among.Goals.{then-is_old, else-is_old, then-is_put, else-is_put}

taken : (s b n : Bool) → s ≡ true → n ≡ not b → n ≡ (s && not b)
taken s b n e f = f ∙ ap (λ (x : Bool). x && not b) (sym e)

passed : (s b n : Bool) → s ≡ false → n ≡ false → n ≡ (s && not b)
passed s b n e f = f ∙ ap (λ (x : Bool). x && not b) (sym e)

before : (b n p : Bool) → b ≡ true → p ≡ true → p ≡ (b || n)
before b n p e f = f ∙ ap (λ (x : Bool). x || n) (sym e)

now : (b n p : Bool) → b ≡ false → p ≡ n → p ≡ (b || n)
now b n p e f = f ∙ ap (λ (x : Bool). x || n) (sym e)

pub loop-old-preserved : goal.loop-old-preserved
loop-old-preserved c =
    let new : c.if-is_old.is_new ≡ (c.in_ok-is_old.is_old && not c.loop-old.is_put) =
    elim c.if-is_old.branch [
      | then-is_old w ↦ taken c.in_ok-is_old.is_old c.loop-old.is_put c.if-is_old.is_new w.if-is_old.true w.is_new-is
      | else-is_old w ↦ passed c.in_ok-is_old.is_old c.loop-old.is_put c.if-is_old.is_new w.if-is_old.false (w.is_new-is ∙ w.if-is_old.false)
    ] in
    let put : c.if-is_put.is_put ≡ (c.loop-old.is_put || c.if-is_old.is_new) =
    elim c.if-is_put.branch [
      | then-is_put w ↦ before c.loop-old.is_put c.if-is_old.is_new c.if-is_put.is_put w.if-is_put.true (w.is_put-is ∙ w.if-is_put.true)
      | else-is_put w ↦ now c.loop-old.is_put c.if-is_old.is_new c.if-is_put.is_put w.if-is_put.false w.is_put-is
    ] in
    subst (λ (x : Bool). put_document c.args.key.now c.args.doc.now (held c.args.docs.now) ≡ held c.push.new.self.items ++ still_to_put x c.args.key.now c.args.doc.now (held (drop (c.loop-old.old-index + 1) c.args.docs.now)))
    (sym put)
    (put_step c.args.docs.now c.loop-old.old-index c.old-item.result c.chosen.result c.loop-old.is_put c.in_ok-is_old.is_old c.if-is_old.is_new c.args.key.now c.args.doc.now c.loop-old.after.items c.push.new.self.items
    (put_document c.args.key.now c.args.doc.now (held c.args.docs.now)) c.loop-old.invariant c.loop-old-test.true c.old-item.is c.in_ok-is_old.ensures new c.chosen.ensures c.in_ok-push.ensures.items)
