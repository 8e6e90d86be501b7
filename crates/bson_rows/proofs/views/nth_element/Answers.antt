use Rattle.std.proofs.lemmas.Iterator.Consumers.{nth_from_yields_List, YieldsList-from_first}
use Rattle.bson_view.specs.Views.{elem_part, parts_left}
use Rattle.bson_rows.proofs.views.nth_element.Goals as goal

pub returns : goal.returns
returns c = nth_from_yields_List c.nth.result c.nth.new.self c.args.place c.nth.ensures.ran (YieldsList-from_first elem_part parts_left _ c.elements.ensures.parts)
