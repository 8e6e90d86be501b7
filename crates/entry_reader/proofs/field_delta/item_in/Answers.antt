use Rattle.std.proofs.Common.{◌∙◌, sym}
use Rattle.bson_view.specs.Views.{elem_value}
use Rattle.entry_reader.proofs.FieldDeltas.{sets_item}
use Rattle.entry_reader.proofs.field_delta.item_in.Goals as goal

pub returns : goal.returns
returns c v = sets_item c.args.front.now c.args.mark.now c.args.field.name.now c.in_ok-at.at (elem_value c.args.field) v (sym c.is_mark.ensures ∙ c.if-not-is_mark.false) (sym c.in_ok-at.was ∙ c.index_set.ensures)
