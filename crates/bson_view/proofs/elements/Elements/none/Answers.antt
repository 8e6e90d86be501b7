use Rattle.std.proofs.Common.{refl, arith}
use Rattle.bson_view.proofs.Bodies.{nothing}
use Rattle.bson_view.proofs.Parting.{no_parts}
use Rattle.bson_view.proofs.elements.Elements.none.Goals as goal

pub invariant_of-result : goal.invariant_of-result
invariant_of-result c = record { spelled = nothing; short = omega arith }

pub returns : goal.returns
returns c = no_parts _ refl
