use Rattle.std.proofs.Common.{◌≡◌, take, true}
use Rattle.std.specs.List.{list_all}
use Rattle.index_keys.specs.Definition.{starts_apart}
use Rattle.index_keys.proofs.plan.starts_apart.Given as goal

abbrev pub invariant-loop-other : goal.invariant-loop-other
invariant-loop-other l = list_all (starts_apart l.path) (take l.other-index l.others) ≡ true
