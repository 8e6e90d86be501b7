use Rattle.std.proofs.Common.{◌≤◌, sym, ◌∙◌, subst, length, List, ℕ}
use Rattle.index_keys.proofs.Ways.{some_name}
use Rattle.index_keys.proofs.products.all_branches.Goals as goal

pub branches_in-requires : goal.branches_in-requires
branches_in-requires c = subst (λ (p : List (List ℕ)). 1 ≤ length p) (sym (c.as_slice.ensures ∙ c.names.ensures.names)) (some_name c.path-item.result c.names.ensures.some)
