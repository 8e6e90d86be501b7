use Rattle.std.proofs.Common.{◌≡◌, true, false, [], ◌∷◌, ap, ◌∙◌, arith, Vec, Global}
use Rattle.std.proofs.lemmas.Grind.{common_steps}
use Rattle.std.proofs.lemmas.List.{map-append}
use Rattle.index_keys.specs.Definition.{plan_of}
use Rattle.bson_view.specs.declared.held.Held.{Held}
use Rattle.bson_view.specs.Held.{held_document}
use Rattle.index_build.specs.Counting.{held}
use Rattle.command_refusals.proofs.Shared.{apart_kept, apart_passed}
use Rattle.command_refusals.proofs.clashes.others.Goals as goal
use Rattle.command_refusals.proofs.clashes.others.Goals.{then-not-parallel+in_ok-push, else-not-parallel}

pub loop-doc-preserved : goal.loop-doc-preserved
loop-doc-preserved c =
    elim c.if-not-parallel.branch [
      | then-not-parallel+in_ok-push w ↦ (let n : c.in_ok-parallel.parallel ≡ false = first_of (cc, grind (arith, common_steps)) in
          apart_kept (plan_of c.args.def.now) c.args.docs.now c.loop-doc.doc-index c.doc-item.result c.in_ok-parallel.parallel (held c.loop-doc.left.items) (held c.if-not-parallel.left.items) c.loop-doc-test.true c.doc-item.is c.in_ok-parallel.ensures n c.loop-doc.invariant
          (ap (λ (v : Vec Held Global). held v.items) w.left-is ∙ (ap held w.in_ok-push.ensures.items ∙ map-append held_document c.loop-doc.left.items (c.doc-item.result ∷ []))))
      | else-not-parallel w ↦ (let n : c.in_ok-parallel.parallel ≡ true = first_of (cc, grind (arith, common_steps)) in
          ap (λ (v : Vec Held Global). held v.items) w.left-is
          ∙ apart_passed (plan_of c.args.def.now) c.args.docs.now c.loop-doc.doc-index c.doc-item.result c.in_ok-parallel.parallel (held c.loop-doc.left.items) c.loop-doc-test.true c.doc-item.is c.in_ok-parallel.ensures n c.loop-doc.invariant)
    ]
