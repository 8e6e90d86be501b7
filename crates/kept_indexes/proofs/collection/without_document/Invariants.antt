use Rattle.std.proofs.Common.{◌≡◌, List, ◌++◌}
use Rattle.bson_encode.specs.Key.{key_of}
use Rattle.index_build.specs.Owned.{Holding}
use Rattle.kept_indexes.specs.Moves.{AreTakenOut}
use Rattle.kept_indexes.proofs.collection.without_document.Given as goal

abbrev pub invariant-loop-index : goal.invariant-loop-index
invariant-loop-index l = (front : List Holding) × (l.fn.indexes ≡ front ++ l.index-iterator.rest.items) × AreTakenOut (key_of l.id) front l.after
