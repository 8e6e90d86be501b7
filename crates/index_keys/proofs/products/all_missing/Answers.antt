use Rattle.std.proofs.Common.{sym, ◌∙◌}
use Rattle.index_keys.specs.Keys.{is_missing}
use Rattle.index_keys.specs.HeldBranches.{branch_of}
use Rattle.index_keys.proofs.Loops.{one_fails, list_all-map}
use Rattle.index_keys.proofs.products.all_missing.Goals as goal

pub returns-then-not-is_gone : goal.returns-then-not-is_gone
returns-then-not-is_gone c =
    one_fails (λ b. is_missing (branch_of b)) c.args.branches.now c.loop-branch.branch-index c.branch-item.result c.loop-branch-test.true c.branch-item.is (sym c.is_gone.ensures ∙ c.if-not-is_gone.true) ∙ sym (list_all-map is_missing branch_of c.args.branches.now)
