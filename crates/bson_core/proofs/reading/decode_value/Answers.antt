use Rattle.std.proofs.Common.{length, arith}
use Rattle.bson_check.proofs.Formed.{read_formed}
use Rattle.bson_core.proofs.reading.decode_value.Goals as goal

pub returns-clause-well_formed : goal.returns-clause-well_formed
returns-clause-well_formed c = read_formed (length c.args.bytes.now) c.args.tag (length c.args.bytes.now) c.args.bytes.now _ (λ i. let f = c.type_inv.bytes i in omega arith) c.in_ok-value.ensures.gives
