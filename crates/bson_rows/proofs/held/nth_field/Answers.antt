use Rattle.std.proofs.lemmas.Iterator.Consumers.{nth_from_yields_List, YieldsList-from_first}
use Rattle.bson_view.specs.HeldWalk.{field_of, fields_left}
use Rattle.bson_rows.proofs.held.nth_field.Goals as goal

pub returns : goal.returns
returns c = nth_from_yields_List c.nth.result c.nth.new.self c.args.place c.nth.ensures.ran (YieldsList-from_first field_of fields_left _ c.fields.ensures)
