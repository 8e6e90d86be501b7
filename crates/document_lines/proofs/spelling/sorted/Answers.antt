use Rattle.std.proofs.Common.{◌<◌, length, ap, ◌∙◌}
use Rattle.std.proofs.lemmas.List.Sorted.{All-permutation}
use Rattle.bson_value.specs.Alike.{by_name}
use Rattle.bson_view.specs.declared.elem.Elem.{Elem}
use Rattle.document_lines.proofs.Fields.{elems_are, still_distinct, are_below}
use Rattle.document_lines.proofs.spelling.sorted.Goals as goal

pub by_name-requires : goal.by_name-requires
by_name-requires c = still_distinct _ _ c.in_ok-elems.ensures c.requires.distinct

pub returns-clause-order : goal.returns-clause-order
returns-clause-order c = c.by_name.ensures.order ∙ ap by_name (elems_are _ _ c.in_ok-elems.ensures)

pub returns-clause-below : goal.returns-clause-below
returns-clause-below c = All-permutation (λ (e : Elem). length e.value.now < c.args.room) _ _ c.by_name.ensures.moved (are_below c.args.room _ _ c.in_ok-elems.ensures c.requires.fits)
