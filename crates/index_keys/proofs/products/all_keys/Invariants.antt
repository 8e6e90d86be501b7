use Rattle.std.proofs.Common.{◌≡◌, ◌++◌, length}
use Rattle.index_keys.proofs.products.all_keys.Given as goal

abbrev pub invariant-keys : goal.invariant-keys
invariant-keys l = l.keys ++ l.left.keys ≡ l.initial.left.keys

abbrev pub decreases-keys : goal.decreases-keys
decreases-keys l = length l.left.keys
