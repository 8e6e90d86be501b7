use Rattle.extjson.specs.Numbers.{whole_number}
use Rattle.extjson.proofs.Wholes.{none_counted, counted_through, not_through}
use Rattle.extjson.proofs.numbers.to_count.Goals as goal

pub returns-in_default : goal.returns-in_default
returns-in_default c = none_counted (whole_number c.args.text.now) c.in_default.ensures

pub returns-in-Ok : goal.returns-in-Ok
returns-in-Ok c = counted_through c.args.text.now c.in-Some.n c.in-Ok.n c.in-Some.ensures c.in-Ok.ensures.0 c.in-Ok.ensures.1

pub returns-in-Err : goal.returns-in-Err
returns-in-Err c = not_through c.args.text.now c.in-Some.n c.in-Some.ensures c.in-Err.ensures
