use Rattle.std.proofs.Common.{◌≡◌, take}
use Rattle.bson_encode.specs.Key.{key_of}
use Rattle.kept_indexes.specs.Verdicts.{some_shared, some_parallel}
use Rattle.kept_indexes.proofs.verdict.judge_all.Given as goal

abbrev pub invariant-loop-index : goal.invariant-loop-index
invariant-loop-index l = (l.shared ≡ some_shared (take l.index-index l.indexes) (key_of l.id) l.doc) × (l.parallel ≡ some_parallel (take l.index-index l.indexes) (key_of l.id) l.doc)
