use Rattle.std.proofs.Common.{◌≡◌, take}
use Rattle.index_build.specs.Counting.{held}
use Rattle.index_build.specs.Owned.{build}
use Rattle.kept_indexes.specs.Kept.{keyed}
use Rattle.kept_indexes.proofs.collection.index_over.Given as goal

abbrev pub invariant-loop-doc : goal.invariant-loop-doc
invariant-loop-doc l = (l.index.plan ≡ l.fn.plan) × (l.index.owned ≡ build l.fn.plan (keyed (held (take l.doc-index l.docs))))
