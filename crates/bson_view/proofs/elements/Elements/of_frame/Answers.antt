use Rattle.std.proofs.Common.{ap}
use Rattle.bson_view.specs.Parts.{parts_of, elements_in}
use Rattle.bson_view.proofs.Bodies.{body_cut}
use Rattle.bson_view.proofs.elements.Elements.of_frame.Goals as goal

pub returns : goal.returns
unfolding elements_in
returns c = ap parts_of (body_cut c.args.bytes.now)
