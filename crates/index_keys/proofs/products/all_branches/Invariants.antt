use Rattle.std.proofs.Common.{◌≡◌, map, take}
use Rattle.bson_value.specs.declared.value.Value.{Object}
use Rattle.bson_view.specs.Held.{held_document}
use Rattle.index_keys.specs.Branches.{branches}
use Rattle.index_keys.specs.HeldBranches.{branches_of}
use Rattle.index_keys.proofs.products.all_branches.Given as goal

abbrev pub invariant-loop-path : goal.invariant-loop-path
invariant-loop-path l = map (λ f. branches_of f.items) l.out.items ≡ map (λ p. branches p (Object (held_document l.doc))) (take l.path-index l.paths)
