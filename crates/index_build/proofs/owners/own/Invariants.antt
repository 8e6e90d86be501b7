use Rattle.std.proofs.Common.{◌≡◌, ℕ, List, Some}
use Rattle.std.specs.Prelude.{if◌then◌else◌}
use Rattle.std.specs.Ordering.{nat_cmp}
use Rattle.std.specs.Cmp.Lexicographic.{slice_cmp}
use Rattle.std.specs.BTreeMap.{get}
use Rattle.index_build.specs.Owners.{has}
use Rattle.index_build.proofs.owners.own.Given as goal

abbrev pub invariant-loop-key : goal.invariant-loop-key
invariant-loop-key l = (t : List ℕ) → (if has t l.key-iterator.rest.items then Some l.place else get (slice_cmp nat_cmp) l.owners t) ≡ (if has t l.fn.keys then Some l.fn.place else get (slice_cmp nat_cmp) l.fn.owners t)
