use Rattle.std.proofs.Common.{◌≡◌, ◌+◌, ◌≤◌, ◌++◌, length}
use Rattle.std.specs.Vec.{vec_len, vec_capacity}
use Rattle.std.specs.Vec.Iter.{into_iter_items}
use Rattle.delta_apply.specs.Touched.{joined}
use Rattle.delta_apply.proofs.backup.join.Given as goal

abbrev pub invariant-loop-touched : goal.invariant-loop-touched
invariant-loop-touched l =
    (l.fields.items ++ joined l.touched-iterator.rest.items (into_iter_items l.others) ≡ joined l.fn.backup.touched l.fn.others.items)
    × (vec_len l.fields + length l.touched-iterator.rest.items ≤ vec_capacity l.fields)
