use Rattle.std.proofs.Common.{◌≡◌, List, ◌++◌}
use Rattle.coll_state.specs.Rows.{id_of, key_in}
use Rattle.index_build.specs.Owned.{Holding}
use Rattle.kept_indexes.specs.Moves.{ArePut}
use Rattle.kept_indexes.proofs.collection.with_document.Given as goal

abbrev pub invariant-loop-index : goal.invariant-loop-index
invariant-loop-index l = (front : List Holding) × (l.fn.indexes ≡ front ++ l.index-iterator.rest.items) × ArePut (key_in (id_of l.doc)) l.doc front l.after
