use Rattle.std.specs.Int.{w32}
use Rattle.extjson.proofs.Wholes.{parsed, not_parsed}
use Rattle.extjson.proofs.numbers.to_int.Goals as goal

pub returns-in-Ok : goal.returns-in-Ok
returns-in-Ok c = parsed w32 c.args.text.now c.in-Ok.n c.in-Ok.ensures.value.0.0.1 c.in-Ok.ensures.value.0.1

pub returns-in-Err : goal.returns-in-Err
returns-in-Err c = not_parsed w32 c.args.text.now c.requires c.in-Err.ensures.value.0
