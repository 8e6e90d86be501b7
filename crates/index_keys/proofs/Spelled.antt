-- A document that bytes spell is well-formed.
use Rattle.std.proofs.Common.{ℕ, List}
use Rattle.bson_value.specs.declared.value.Value.{Value}
use Rattle.bson_value.specs.WellFormed.{AreBytes, IsWellFormedDocument}
use Rattle.bson_check.specs.Spells.{Spells}
use Rattle.bson_check.proofs.Formed.{document_formed}

pub spelled_formed : (bytes : List ℕ) (fs : List (List ℕ × Value)) → AreBytes bytes → Spells bytes fs → IsWellFormedDocument fs
unfolding Spells
spelled_formed bytes fs h s = document_formed s.1 bytes fs h s.2
