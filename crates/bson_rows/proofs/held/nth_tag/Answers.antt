use Rattle.std.proofs.Common.{◌∙◌, ap, refl, option_map}
use Rattle.std.proofs.lemmas.Iterator.Consumers.{nth_from_yields_List, YieldsList-from_first}
use Rattle.bson_value.specs.Spelling.{tag_of}
use Rattle.bson_view.specs.Held.{held_value}
use Rattle.bson_view.specs.HeldWalk.{items_left}
use Rattle.bson_rows.proofs.held.nth_tag.Goals as goal

pub returns : goal.returns
returns c = c.tag_of.ensures ∙ ap (option_map tag_of) (nth_from_yields_List c.nth.result c.nth.new.self c.args.place c.nth.ensures.ran (YieldsList-from_first held_value items_left _ refl))
