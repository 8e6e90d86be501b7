use Rattle.std.proofs.Common.{◌≡◌, ℕ, List, Bool, false, length}
use Rattle.std.specs.Prelude.{◌||◌}
use Rattle.std.specs.List.{list_any}
use Rattle.update_ops.specs.Prefixes.{starts, has_front}
use Rattle.update_ops.proofs.prefixes.PrefixSet.drop_behind.Given as goal

abbrev pub invariant-behind : goal.invariant-behind
invariant-behind l = record {
  fewer : (p : List ℕ → Bool) → list_any p l.fn.self ≡ false → list_any p l.self ≡ false;
  covers : (t : List ℕ) → starts l.text t || has_front l.self t ≡ starts l.text t || has_front l.fn.self t;
}

abbrev pub decreases-behind : goal.decreases-behind
decreases-behind l = length l.self
