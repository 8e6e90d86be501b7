use Rattle.std.proofs.Common.{sym, ap, ◌∙◌}
use Rattle.std.specs.Option.{option_copied_mut}
use Rattle.coll_state.proofs.Named.{left}
use Rattle.coll_state.proofs.change.give_up_one.Goals as goal

pub returns-in-Some : goal.returns-in-Some
returns-in-Some c = left c.args.tables.now (c.get_mut.follows.lender c.give_up_room.new.self) c.args.ns.now _ c.give_up_room.new.self (sym c.get_mut.ensures.value ∙ ap option_copied_mut c.in-Some.is) (c.get_mut.follows.holds c.give_up_room.new.self).3 c.give_up_room.ensures
