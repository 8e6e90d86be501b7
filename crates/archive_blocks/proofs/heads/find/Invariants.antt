use Rattle.std.proofs.Common.{ℕ, List, length}
use Rattle.bson_value.specs.declared.value.Value.{Value}
use Rattle.archive_blocks.specs.Found.{SpellFields, Passes}
use Rattle.archive_blocks.proofs.heads.find.Given as goal

abbrev pub invariant-elements : goal.invariant-elements
invariant-elements l = (n : ℕ) (fs : List (List ℕ × Value)) → SpellFields n l.elements fs → Passes n l.name l.rest fs

abbrev pub decreases-elements : goal.decreases-elements
decreases-elements l = length l.rest
