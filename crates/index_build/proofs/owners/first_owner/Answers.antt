use Rattle.std.proofs.Common.{ap, ◌∙◌, take_all}
use Rattle.index_build.specs.Faults.{meet}
use Rattle.index_build.specs.Owners.{place_where}
use Rattle.index_build.proofs.Repeated.{no_owner, next_owner}
use Rattle.index_build.proofs.owners.first_owner.Goals as goal

pub loop-key-init : goal.loop-key-init
loop-key-init c = λ lists own. no_owner c.args.keys.now lists

pub loop-key-preserved : goal.loop-key-preserved
loop-key-preserved c = λ lists own.
    c.lesser-first.ensures ∙ next_owner c.args.keys.now c.loop-key.key-index c.key-item.result c.loop-key.first c.owner.result lists c.loop-key-test.true c.key-item.is (c.loop-key.invariant lists own) (c.owner.ensures ∙ own c.key-item.result)

pub returns : goal.returns
returns c = λ lists own. c.loop-key.invariant lists own ∙ ap (λ ks. place_where (meet ks) lists) (take_all c.loop-key.key-index c.args.keys.now c.loop-key-test.false)
