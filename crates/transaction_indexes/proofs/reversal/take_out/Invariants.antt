use Rattle.std.proofs.Common.{◌≡◌, take}
use Rattle.bson_value.specs.declared.namespace.NsName.{NsName}
use Rattle.coll_state.specs.Rows.{Rows}
use Rattle.kept_indexes.specs.Kept.{kept_at}
use Rattle.transaction_indexes.specs.Following.{StayKept}
use Rattle.transaction_indexes.specs.Reversal.{Documents, HaveKeysOf, NoneOf, without}
use Rattle.transaction_indexes.proofs.reversal.take_out.Given as goal

abbrev pub invariant-loop-change : goal.invariant-loop-change
invariant-loop-change l =
    ((f : Documents) (r : Rows) → HaveKeysOf f l.fn.indexes r → HaveKeysOf (without (take l.change-index l.changes) f) l.indexes r)
    × ((n : NsName) → NoneOf l.changes n → kept_at l.indexes n ≡ kept_at l.fn.indexes n)
    × StayKept l.fn.indexes l.indexes
