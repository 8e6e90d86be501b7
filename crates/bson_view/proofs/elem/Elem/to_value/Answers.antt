use Rattle.bson_view.proofs.Meanings.{read_is, never_bad}
use Rattle.bson_view.proofs.elem.Elem.to_value.Goals as goal

pub unreachable-requires : goal.unreachable-requires
unreachable-requires c = let e = c.args.self.now in never_bad e.tag e.value.now c.in-Err-Bad.field-0 c.in-Err-Bad.field-0-0 e.spelled c.in-Err-Bad.field-0-is c.in-Err-Bad.ensures.exact

pub returns-in-Ok : goal.returns-in-Ok
returns-in-Ok c = let e = c.args.self.now in read_is e.tag e.value.now c.in-Ok.value e.spelled c.in-Ok.ensures.exact
