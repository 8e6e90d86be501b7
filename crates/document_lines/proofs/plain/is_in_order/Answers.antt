use Rattle.std.proofs.Common.{List, ℕ, sym, subst}
use Rattle.bson_value.specs.WellFormed.{AreBytes}
use Rattle.bson_value.specs.declared.value.Value.{Value}
use Rattle.containers.specs.Entries.{AreDistinct, names_of}
use Rattle.bson_view.specs.Views.{document, parts_left, view_bytes}
use Rattle.document_lines.proofs.InOrder.{spells_distinct}
use Rattle.document_lines.proofs.PlainDocuments.{document_in_order}
use Rattle.document_lines.proofs.plain.is_in_order.Goals as goal

pub are_in_order-requires : goal.are_in_order-requires
are_in_order-requires c =
    subst (λ (fs : List (List ℕ × Value)). AreDistinct (names_of fs)) (sym c.elements.ensures.fields) (spells_distinct _ _ c.bytes.ensures.spelled)

pub returns : goal.returns
returns c plain =
    document_in_order (view_bytes c.args.view.now) (document c.args.view.now) (parts_left c.elements.result) c.elements.ensures.fields c.elements.ensures.places (subst AreBytes c.bytes.ensures.bytes c.are_bytes.ensures) (c.are_in_order.ensures plain)
