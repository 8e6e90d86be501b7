use Rattle.std.proofs.Common.{◌≡◌, List, take}
use Rattle.index_build.specs.Faults.{meet}
use Rattle.index_build.specs.Owners.{Texts, place_where, AreOwners}
use Rattle.index_build.proofs.owners.first_owner.Given as goal

abbrev pub invariant-loop-key : goal.invariant-loop-key
invariant-loop-key l = (lists : List Texts) → AreOwners l.owners lists → l.first ≡ place_where (meet (take l.key-index l.keys)) lists
