use Rattle.std.proofs.Common.{◌≡◌, ap, ◌∙◌}
use Rattle.std.specs.FinMap as map
use Rattle.coll_state.specs.Rows.{state_of}
use Rattle.restore_plan.proofs.Steps.{nothing_made}
use Rattle.restore_plan.proofs.restore.Restore.new.Goals as goal

pub returns-clause-contents : goal.returns-clause-contents
returns-clause-contents c =
    let state : state_of c.new.result ≡ map.empty = ap state_of c.new.ensures ∙ nothing_made in
    λ i. record { state = state i; entries = c.new-2.ensures i; ended = c.new-3.ensures.empty i }
