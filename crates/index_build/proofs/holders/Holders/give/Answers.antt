use Rattle.std.proofs.Common.{rules}
use Rattle.index_build.proofs.Searches.{stays_given, given_more, none_of_newest}
use Rattle.index_build.proofs.holders.Holders.give.Goals as goal

pub put-requires-clause-new : goal.put-requires-clause-new
put-requires-clause-new c = none_of_newest c.args.self.now.recent.items c.args.self.now.settled.items c.args.holder.key (search rules)

pub returns-then-is_some-clause-holders : goal.returns-then-is_some-clause-holders
returns-then-is_some-clause-holders c = stays_given c.args.self.now.recent.items c.args.self.now.settled.items c.args.holder (search rules)

pub returns-clause-holders : goal.returns-clause-holders
returns-clause-holders c =
    given_more c.args.self.now.recent.items c.args.self.now.settled.items c.put.new.self.items c.args.holder c.put.ensures.found (search rules)
