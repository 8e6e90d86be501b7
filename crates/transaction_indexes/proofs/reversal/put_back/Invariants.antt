use Rattle.std.proofs.Common.{◌≡◌, take}
use Rattle.bson_value.specs.declared.namespace.NsName.{NsName}
use Rattle.kept_indexes.specs.Kept.{kept_at}
use Rattle.transaction_indexes.specs.Following.{StayKept}
use Rattle.transaction_indexes.specs.Reversal.{Documents, HaveKeysOf, NoneOf, without}
use Rattle.transaction_indexes.proofs.TakingBack.{back_to}
use Rattle.transaction_indexes.proofs.reversal.put_back.Given as goal

abbrev pub invariant-loop-change : goal.invariant-loop-change
invariant-loop-change l =
    ((f : Documents) → HaveKeysOf (without l.changes f) l.fn.indexes l.state → HaveKeysOf (back_to l.state (take l.change-index l.changes) l.changes f) l.indexes l.state)
    × ((n : NsName) → NoneOf l.changes n → kept_at l.indexes n ≡ kept_at l.fn.indexes n)
    × StayKept l.fn.indexes l.indexes
