use Rattle.std.proofs.Common.{List, ℕ, sym, subst}
use Rattle.bson_value.specs.declared.value.Value.{Value}
use Rattle.containers.specs.Entries.{AreDistinct, names_of}
use Rattle.document_lines.proofs.InOrder.{spells_distinct}
use Rattle.document_lines.proofs.spelling.put_ordered.Goals as goal

pub put_document-requires-clause-distinct : goal.put_document-requires-clause-distinct
put_document-requires-clause-distinct c =
    subst (λ (fs : List (List ℕ × Value)). AreDistinct (names_of fs)) (sym c.elements.ensures.fields) (spells_distinct _ _ c.bytes.ensures.spelled)
