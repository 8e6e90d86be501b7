use Rattle.bson_view.specs.Views.{document}
use Rattle.entry_reader.proofs.Singles.{if_delta}
use Rattle.entry_reader.proofs.single.only_touch.Goals as goal

pub returns-in-Some : goal.returns-in-Some
returns-in-Some c = if_delta (document c.args.o.now) (document c.in-Some.diff) c.touch_behind.result c.in-Some.ensures c.touch_behind.ensures
