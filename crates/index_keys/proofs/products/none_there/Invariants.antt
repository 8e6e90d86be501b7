use Rattle.std.proofs.Common.{◌≡◌, take, true}
use Rattle.std.specs.List.{list_all}
use Rattle.index_keys.specs.Keys.{is_missing}
use Rattle.index_keys.specs.HeldBranches.{branches_of}
use Rattle.index_keys.proofs.products.none_there.Given as goal

abbrev pub invariant-loop-field : goal.invariant-loop-field
invariant-loop-field l = list_all (λ f. list_all is_missing (branches_of f.items)) (take l.field-index l.fields) ≡ true
