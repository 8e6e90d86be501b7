use Rattle.std.proofs.Common.{◌≡◌, ◌++◌, length}
use Rattle.coll_state.specs.Walks.{looks_left}
use Rattle.index_build.specs.Counting.{held}
use Rattle.command_refusals.specs.Keyed.{looked_at}
use Rattle.command_refusals.proofs.after.all_documents.Given as goal

abbrev pub invariant-documents : goal.invariant-documents
invariant-documents l = held l.docs.items ++ looked_at (looks_left l.left) ≡ looked_at (looks_left l.initial.left)

abbrev pub decreases-documents : goal.decreases-documents
decreases-documents l = length (looks_left l.left)
