use Rattle.bson_view.specs.Views.{document, parts_left}
use Rattle.entry_reader.proofs.Walking.{starts, goes_on, ends}
use Rattle.entry_reader.proofs.found.Found.of.Goals as goal

pub loop-elem-init : goal.loop-elem-init
loop-elem-init c =
    starts (document c.args.view.now) c.none-found.result (parts_left c.into_iter-elem-iterator.result) c.none-found.ensures
    (rw c.into_iter-elem-iterator.ensures.into_iter_gives c.elements-elem-items.ensures.fields)

pub loop-elem-preserved : goal.loop-elem-preserved
loop-elem-preserved c = goes_on (document c.args.view.now) c.loop-elem.found _ (parts_left c.loop-elem.elem-iterator) c.in-Some.elem (parts_left c.next.new.self) c.in-Some.ensures.steps c.add.ensures c.loop-elem.invariant

pub returns : goal.returns
returns c = ends (document c.args.view.now) c.loop-elem.found (parts_left c.loop-elem.elem-iterator) c.in-None.ensures.steps.0 c.loop-elem.invariant
